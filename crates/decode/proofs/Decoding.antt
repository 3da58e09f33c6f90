-- Decoding a card: the result if a test fails, and the result if all tests pass. Assumes nothing.
use Prim.Native.Nat.{ℕ, suc, ◌+◌, ◌-◌, ◌*◌, ◌≤◌, ◌<◌}
use mathlib.Core.Path.{◌≡◌, refl, ap, ◌∙◌}
use mathlib.Core.Bool.{true, false}
use mathlib.Core.List.{List, [], ◌∷◌}
use native.Mathlib.Omega.{arith}
use native.Mathlib.Numerals.{add-one}
use lib.ListN.{length, drop, get_or, length-append, length-drop}
use lib.Count.{ones}
use lib.Dec.{leb, eqb}
use borrow.Author.Tests.{leb-true, le-leb, lt-leb, eq-eqb, ne_eqb}
use Rattle.std.specs.Prelude.{Ok, Err}
use Rattle.calculus.specs.Cell.{nulls}
use Rattle.calculus.specs.Overwrite.{overwrite}
use Rattle.calculus.specs.Reading.{read, refused, and_then}
use Rattle.calculus.specs.declared.refusal.Refusal.{Refusal}
use Rattle.calculus.specs.declared.refusal.Refusal.TheVariants.{BytesLeftOver, NullsExhausted, NoRoom}
use Rattle.calculus.proofs.Bools.{and_parts}
use Rattle.instance.specs.Header.{arities_well_formed, max_columns, max_words, header_with}
use Rattle.instance.specs.Blanks.{Record, blanks_in, blanks, highest, highest_in, numbered, numbered_rows}
use Rattle.instance.specs.Room.{has_room}
use Rattle.instance.specs.RowCounts.{row_counts}
use Rattle.instance.specs.Rows.{words_of}
use Rattle.instance.proofs.Blanks.{numbered-length}
use Rattle.instance.proofs.Rows.{arity_low}
use Rattle.parse.specs.Parse.{Parsed}
use Rattle.parse.proofs.Each.{each_read}
use Rattle.card.specs.Format.{Head, read_record, read_records, read_head, read_card}
use Rattle.card.specs.Decode.{Decoded, decoded, decoded_from, accepted, no_header}
use Rattle.decode.specs.declared.measure.Total.{Total}
use Rattle.decode.specs.Measure.{opened_head, measured_records, words_in, total}
use Rattle.decode.specs.Restarted.{restarted}
use Rattle.decode.specs.Write.{WriteRows, rows_read, words_read}
use Rattle.decode.proofs.Fields.{written_or_blank}
use Rattle.decode.proofs.Records.{record-read}
use Rattle.decode.proofs.Opening.{Opened}

-- the number of words of records does not depend on the nulls that blanks get
words_count : (m : ℕ) (rs : List Record) → length (words_of (numbered_rows m rs)) ≡ words_in rs
unfolding words_of numbered_rows words_in
words_count m [] = refl
words_count m (r ∷ rs) =
    let row = numbered-length m r.fields in
    let rest = words_count (m + blanks_in r.fields) rs in
    let joined = length-append (numbered m r.fields) (words_of (numbered_rows (m + blanks_in r.fields) rs)) in
    omega arith

-- what holds of records that were read
pub record RecordsRead (n : ℕ) (bs : List ℕ) (rs : List Record) (rest : List ℕ) : Type 0 where
  pub shorter : length rest ≤ length bs
  pub low : highest rs ≤ nulls
  pub few : blanks rs ≤ max_columns * n

records-none : (bs : List ℕ) → RecordsRead 0 bs [] bs
unfolding highest blanks
records-none bs = record { shorter = omega arith; low = omega arith; few = omega arith }

module _ (n : ℕ) (ars : List ℕ) (arities_well_formed_lem : arities_well_formed n ars ≡ true) where
  one_more : (k : ℕ) (bs : List ℕ) (r : Record) (between : List ℕ) (rs : List Record) (rest : List ℕ) → read_record n ars bs ≡ read r between
      → RecordsRead k between rs rest → RecordsRead (suc k) bs (r ∷ rs) rest
  unfolding highest blanks
  one_more k bs r between rs rest e s =
      let q = record-read n ars bs e in
      let shorter : length between ≡ length bs - (2 + 3 * ones (get_or bs 1 0)) = ap length q.after ∙ length-drop (2 + 3 * ones (get_or bs 1 0)) bs in
      let narrow : blanks_in r.fields ≤ max_columns = omega (arith, written_or_blank r.fields, q.columns, arity_low n ars (get_or bs 0 0) arities_well_formed_lem) in
      let low : highest_in r.fields ≤ nulls = q.low in
      record { shorter = omega (arith, s.shorter); low = omega (arith, s.low); few = omega (arith, s.few) }

  records-read : (k : ℕ) (bs : List ℕ) {rs : List Record} {rest : List ℕ} → read_records n ars k bs ≡ read rs rest → RecordsRead k bs rs rest
  records-read = each_read (read_record n ars) RecordsRead records-none one_more

-- what a refused call returns, and the slice that it leaves
abbrev pub turned_down : Refusal → List ℕ → Decoded
turned_down why slice = record { answer = Err why; header = no_header; words = slice }

module _ (card slice : List ℕ) where
  -- a call that is refused, and leaves the slice as it was
  pub down : (why : Refusal) → decoded card slice ≡ turned_down why slice → (Err why ≡ restarted (decoded card slice)) × (slice ≡ (decoded card slice).words)
  down why e = rw e (refl, refl)

  pub head_turned : (why : Refusal) → Err why ≡ opened_head (read_head card) → decoded card slice ≡ turned_down why slice
  unfolding decoded decoded_from read_card opened_head
  head_turned why = go (read_head card)
    where
      go : (p : Parsed Head) → Err why ≡ opened_head p
          → decoded_from
          (and_then p
          (λ h bs. and_then (read_records h.relations h.arities h.count bs) (λ rs bs. read (record { head = h; records = rs }) bs)))
          slice
          ≡ turned_down why slice
      go (read h rest) a = cc
      go (refused r) a = cc

  module _ (n : ℕ) (ars : List ℕ) (count : ℕ) (h : Opened card n ars count) where
    pub records_turned : (why : Refusal) → measured_records (length card) (read_records n ars count (drop (n + 3) card)) ≡ Err why
        → decoded card slice ≡ turned_down why slice
    unfolding decoded decoded_from read_card measured_records
    records_turned why e = rw h.was_read (go (read_records n ars count (drop (n + 3) card)) e)
      where
        go : (p : Parsed (List Record)) → measured_records (length card) p ≡ Err why
            → decoded_from (and_then p (λ rs bs. read (record { head = record { relations = n; arities = ars; count = count }; records = rs }) bs)) slice
            ≡ turned_down why slice
        go (read rs rest) a = cc
        go (refused r) a = cc

    -- a card all of whose records were read
    pub record CardRead (t : Total) : Type 0 where
      pub records : List Record
      pub rest : List ℕ
      pub was_read : read_records n ars count (drop (n + 3) card) ≡ read records rest
      pub whole :
          decoded card slice
          ≡ decoded_from (read (record { head = record { relations = n; arities = ars; count = count }; records = records }) rest) slice
      pub total-is : t ≡ total (length card) records rest
      pub known : RecordsRead count (drop (n + 3) card) records rest

    pub card-read : (t : Total) → measured_records (length card) (read_records n ars count (drop (n + 3) card)) ≡ Ok t → CardRead t
    unfolding decoded decoded_from read_card measured_records
    card-read t e = go (read_records n ars count (drop (n + 3) card)) refl e
      where
        go : (p : Parsed (List Record)) → read_records n ars count (drop (n + 3) card) ≡ p → measured_records (length card) p ≡ Ok t
            → CardRead t
        go (read rs rest) e a = record {
          records = rs;
          rest = rest;
          was_read = e;
          whole = rw (h.was_read, e);
          total-is = cc;
          known = records-read n ars h.arities_well_formed_lem count (drop (n + 3) card) e;
        }
        go (refused r) e a = cc

    module _ (t : Total) (c : CardRead t) where
      end_is : t.end ≡ length card - length c.rest
      end_is = rw c.total-is

      sum_is : t.highest + t.blanks ≡ highest c.records + blanks c.records
      sum_is = rw c.total-is

      next-is : t.highest + 1 ≡ suc (highest c.records)
      next-is = rw c.total-is (add-one (highest c.records))

      size : (m : ℕ) → length (words_of (numbered_rows m c.records)) ≡ t.words
      size m = rw c.total-is (words_count m c.records)

      -- the rows are those that the second pass writes
      rows_are : rows_read n ars count (t.highest + 1) (drop (n + 3) card) ≡ numbered_rows (suc (highest c.records)) c.records
      rows_are = rw (c.was_read, next-is)

      inside : length c.rest ≤ length card
      inside = omega (arith, c.known.shorter, length-drop (n + 3) card)

      -- no byte is left if the last record ends at the card's end
      ends : length card ≤ t.end → eqb (length c.rest) 0 ≡ true
      ends l = eq-eqb (length c.rest) 0 (omega (arith, end_is, inside))

      enough : t.highest + t.blanks ≤ nulls → leb (highest c.records + blanks c.records) nulls ≡ true
      enough m = le-leb (highest c.records + blanks c.records) nulls (omega (arith, sum_is))

      pub sum_fits : t.highest + t.blanks ≤ nulls + max_columns * count
      sum_fits = omega (arith, sum_is, c.known.low, c.known.few)

      -- the tests, in their order

      pub left_over : t.end < length card → decoded card slice ≡ turned_down BytesLeftOver slice
      unfolding decoded_from accepted
      left_over l = c.whole ∙ rw (ne_eqb (length c.rest) 0 (λ e. omega (arith, end_is)))

      pub exhausted : length card ≤ t.end → nulls < t.highest + t.blanks → decoded card slice ≡ turned_down NullsExhausted slice
      unfolding decoded_from accepted
      exhausted l m = c.whole ∙ rw (ends l, lt-leb (highest c.records + blanks c.records) nulls (omega (arith, sum_is)))

      pub too_small : length card ≤ t.end → t.highest + t.blanks ≤ nulls → has_room t.words (length slice) ≡ false
          → decoded card slice ≡ turned_down NoRoom slice
      unfolding decoded_from accepted
      too_small l m r = c.whole ∙ rw (ends l, enough m, size (suc (highest c.records)), r)

      pub may_write : t.highest + t.blanks ≤ nulls → has_room t.words (length slice) ≡ true → WriteRows slice card n ars count (t.highest + 1)
      may_write m r =
          let p = and_parts (leb t.words max_words) (leb t.words (length slice)) r in
          let fits : t.words ≤ length slice = leb-true t.words (length slice) p.1 in
          let short : t.words ≤ max_words = leb-true t.words max_words p.0 in
          record {
            few = h.few;
            narrow = λ x known. arity_low n ars x h.arities_well_formed_lem;
            reads = rw c.was_read;
            free = rw c.was_read (omega (arith, sum_is, next-is));
            short = rw c.was_read (omega (arith, size (t.highest + 1)));
            room = rw c.was_read (omega (arith, size (t.highest + 1)));
          }

      pub all_hold : length card ≤ t.end → t.highest + t.blanks ≤ nulls → has_room t.words (length slice) ≡ true
          → decoded card slice
          ≡ record {
            answer = Ok t.words;
            header = header_with n ars t.words (row_counts (rows_read n ars count (t.highest + 1) (drop (n + 3) card)));
            words = overwrite (words_read n ars count (t.highest + 1) (drop (n + 3) card)) slice;
          }
      unfolding decoded_from accepted
      all_hold l m r = c.whole ∙ rw (rows_are, ends l, enough m, size (suc (highest c.records)), r)
