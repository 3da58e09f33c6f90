-- Writing the rows of a card, one record in each iteration. Assumes nothing.
use Prim.Native.Nat.{ℕ, suc, ◌+◌, ◌-◌, ◌*◌, ◌≤◌, ◌<◌}
use mathlib.Core.Path.{◌≡◌, refl, sym, ap, ap₂, subst, ◌∙◌}
use mathlib.Core.Bool.{true}
use mathlib.Core.List.{List, [], ◌∷◌, ◌++◌}
use native.Mathlib.Nat.{add-zero}
use native.Mathlib.Omega.{arith}
use lib.Count.{ones}
use lib.ListN.{length, get_or, set, take, drop, replicate, length-append, length-drop}
use lib.Seq.{drop-drop, get_or-drop}
use Rattle.calculus.specs.Cell.{nulls}
use Rattle.calculus.specs.Overwrite.{overwrite}
use Rattle.calculus.specs.Row.{Row}
use Rattle.calculus.proofs.Counting.{counting_starts}
use Rattle.calculus.proofs.Tuples.{tuples-here, tuples_le}
use Rattle.calculus.proofs.Stores.{Written, written_begin, written_part, written_finish}
use Rattle.instance.specs.Header.{arity_of, max_relations}
use Rattle.instance.specs.RowCounts.{row_counts}
use Rattle.instance.proofs.RowCounts.{RowsCounted, counted-row, counted-all}
use Rattle.instance.specs.Blanks.{Field, blanks, blanks_in, numbered, numbered_rows}
use Rattle.instance.specs.Rows.{words_of}
use Rattle.parse.specs.Parse.{read_each, is_read, got}
use Rattle.parse.proofs.Each.{each_first}
use Rattle.card.specs.Format.{read_fields, read_record, read_records}
use Rattle.decode.specs.Write.{WriteRows, rows_read, words_read}
use Rattle.decode.proofs.Fields.{written_or_blank}
use Rattle.decode.proofs.Records.{record-read}
use Rattle.decode.proofs.Written.{all_read, cells_read_in, cells-long}

module _ (n : ℕ) (ars : List ℕ) where
  -- The first of several records, if the next blank gets null m: its words come before those of the others. b is its relation, and a its arity.
  pub record Turn (k m : ℕ) (bs : List ℕ) (b map a : ℕ) : Type 0 where
    pub known : b < n
    pub fields : all_read a map (drop 2 bs)
    pub fewer : ones map ≤ a
    pub long : 2 + 3 * ones map ≤ length bs
    pub reads : is_read (read_records n ars k (drop (2 + 3 * ones map) bs)) ≡ true
    pub free :
        blanks (got [] (read_records n ars (suc k) bs)) ≡
        (a - ones map) + blanks (got [] (read_records n ars k (drop (2 + 3 * ones map) bs)))
    pub rows :
        rows_read n ars (suc k) m bs ≡
        record { relation = b; cells = cells_read_in m a map (drop 2 bs) } ∷ rows_read n ars k (m + (a - ones map)) (drop (2 + 3 * ones map) bs)

  pub turn :
      (k m : ℕ) (bs : List ℕ) → is_read (read_records n ars (suc k) bs) ≡ true →
      Turn k m bs (get_or bs 0 0) (get_or bs 1 0) (arity_of ars (get_or bs 0 0))
  unfolding blanks numbered_rows
  turn k m bs h =
      let f = each_first (read_record n ars) k bs h in
      let r = record-read n ars bs f.was_read in
      let a = arity_of ars (get_or bs 0 0) in
      let map = get_or bs 1 0 in
      let fs = f.one.fields in
      let was : got [] (read_fields a map (drop 2 bs)) ≡ fs = ap (got []) r.fields_are in
      let free : blanks_in fs ≡ a - ones map = omega (arith, written_or_blank fs, r.columns, r.count) in
      record {
        known = r.known;
        fields = ap is_read r.fields_are;
        fewer = omega (arith, written_or_blank fs, r.columns, r.count);
        long = r.long;
        reads = rw r.after at f.reads;
        free =
            ap blanks f.all ∙
            ap (λ (x : ℕ). x + blanks (got [] (read_records n ars k f.between))) free ∙
            ap (λ (x : List ℕ). (a - ones map) + blanks (got [] (read_records n ars k x))) r.after;
        rows =
            ap (numbered_rows m) f.all ∙
            ap (λ (x : ℕ). record { relation = x; cells = numbered m fs } ∷ rows_read n ars k (m + blanks_in fs) f.between) r.relation-is ∙
            ap (λ (x : List Field). record { relation = get_or bs 0 0; cells = numbered m x } ∷ rows_read n ars k (m + blanks_in fs) f.between) (sym was) ∙
            ap₂ (λ (x : ℕ) (y : List ℕ). record { relation = get_or bs 0 0; cells = cells_read_in m a map (drop 2 bs) } ∷ rows_read n ars k (m + x) y) free r.after;
      }

module _ (start card : List ℕ) (n : ℕ) (ars : List ℕ) (count next : ℕ) where
  -- all the card's rows
  abbrev pub whole : List Row
  whole = rows_read n ars count next (drop (n + 3) card)

  pub record WritingRows (instance counts : List ℕ) (used free at left : ℕ) : Type 0 where
    pub reads : is_read (read_records n ars left (drop at card)) ≡ true
    pub low : free + blanks (got [] (read_records n ars left (drop at card))) ≤ nulls + 1
    pub stored : Written (words_of whole) (words_read n ars left free (drop at card)) start instance used
    pub counted : RowsCounted whole (rows_read n ars left free (drop at card)) counts

  -- what an iteration finds at its record; k records are left after it
  pub record Found (instance counts : List ℕ) (used free at k b map a : ℕ) : Type 0 where
    pub known : b < n
    pub uncounted : b < max_relations → get_or counts b 0 < length whole
    pub in_card : at + 2 + 3 * ones map ≤ length card
    pub fewer : ones map ≤ a
    pub fields : all_read a map (drop (at + 2) card)
    pub low : free + (a - ones map) ≤ nulls + 1
    pub room : used + (1 + a) ≤ length instance
    -- the row is written to the part of `instance` from index `used`
    pub next-rows :
        (part : List ℕ) → part ≡ overwrite (b ∷ cells_read_in free a map (drop (at + 2) card)) (drop used instance) →
        b < max_relations → WritingRows (take used instance ++ part) (set counts b (get_or counts b 0 + 1)) (used + (1 + a)) (free + (a - ones map)) (at + 2 + 3 * ones map) k

  module _ (instance counts : List ℕ) (used free at k b map a : ℕ) (w : WritingRows instance counts used free at (suc k)) (t : Turn n ars k free (drop at card) b map a) where
    row : List ℕ
    row = b ∷ cells_read_in free a map (drop (at + 2) card)

    fields : all_read a map (drop (at + 2) card)
    fields = rw (drop-drop 2 at card) at t.fields

    row-long : length row ≡ 1 + a
    unfolding row
    row-long = ap suc (cells-long free a map (drop (at + 2) card) fields) ∙ omega arith

    after : drop (2 + 3 * ones map) (drop at card) ≡ drop (at + 2 + 3 * ones map) card
    after = let e : at + (2 + 3 * ones map) ≡ at + 2 + 3 * ones map = omega arith in drop-drop (2 + 3 * ones map) at card ∙ ap (λ (x : ℕ). drop x card) e

    others : List Row
    others = rows_read n ars k (free + (a - ones map)) (drop (at + 2 + 3 * ones map) card)

    -- the row and the others are still to be written and counted
    rows_are : rows_read n ars (suc k) free (drop at card) ≡ record { relation = b; cells = cells_read_in free a map (drop (at + 2) card) } ∷ others
    unfolding others
    rows_are = rw (t.rows, after, drop-drop 2 at card) refl

    both : Written (words_of whole) (row ++ words_of others) start instance used
    unfolding row others words_of
    both = rw rows_are at w.stored

    counting : RowsCounted whole (record { relation = b; cells = cells_read_in free a map (drop (at + 2) card) } ∷ others) counts
    counting = rw rows_are at w.counted

    found : Found instance counts used free at k b map a
    unfolding row others
    found = record {
      known = t.known;
      uncounted = λ l. omega (arith, counting.each b l, ap length (tuples-here b (record { relation = b; cells = cells_read_in free a map (drop (at + 2) card) }) others refl), tuples_le b whole);
      in_card = omega (arith, t.long, length-drop at card);
      fewer = t.fewer;
      fields = fields;
      low = omega (arith, w.low, t.free);
      room = omega (arith, both.room, both.same, row-long, length-append row (words_of others));
      next-rows = λ part e l. record {
        reads = rw after at t.reads;
        low = omega (arith, w.low, t.free, ap (λ (x : List ℕ). blanks (got [] (read_records n ars k x))) after);
        stored = rw (e, ← row-long) (written_part row both);
        counted = counted-row _ _ _ _ l counting;
      };
    }

  pub find :
      (instance counts : List ℕ) (used free at left : ℕ) → WritingRows instance counts used free at left → 0 < left →
      (b map : ℕ) → b ≡ get_or card at 0 → map ≡ get_or card (at + 1) 0 → Found instance counts used free at (left - 1) b map (arity_of ars b)
  find instance counts used free at left w more b map b-is map_is =
      let one : left ≡ suc (left - 1) = omega arith in
      let w' : WritingRows instance counts used free at (suc (left - 1)) = subst (λ (x : ℕ). WritingRows instance counts used free at x) one w in
      rw (b-is, map_is) (found instance counts used free at (left - 1) _ _ _ w' (simp (get_or-drop, add-zero) at (turn n ars (left - 1) free (drop at card) w'.reads)))

  pub rows_start : WriteRows start card n ars count next → WritingRows start (replicate max_relations 0) 0 next (n + 3) count
  rows_start r = record { reads = r.reads; low = r.free; stored = written_begin (words_of whole) start r.room; counted = counting_starts max_relations _ }

  pub rows_end :
      (instance counts : List ℕ) (used free at left : ℕ) → WritingRows instance counts used free at left → left ≤ 0 →
      (counts ≡ row_counts whole) × (instance ≡ overwrite (words_of whole) start)
  unfolding read_each numbered_rows words_of
  rows_end instance counts used free at left w done =
      let none : left ≡ 0 = omega arith in
      (counted-all whole counts (rw none at w.counted), written_finish (rw none at w.stored))
