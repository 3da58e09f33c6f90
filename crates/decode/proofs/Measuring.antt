-- The first pass over a card's records: how it starts, goes on after a record, and ends. Assumes nothing.
use Prim.Native.Nat.{ℕ, suc, ◌+◌, ◌-◌, ◌*◌, ◌≤◌, ◌<◌, max}
use mathlib.Core.Path.{◌≡◌, sym, ap, ◌∙◌}
use mathlib.Core.Bool.{true}
use mathlib.Core.List.{List}
use native.Mathlib.Omega.{arith}
use lib.ListN.{length, drop, get_or, length-drop}
use lib.Seq.{drop-drop}
use Rattle.std.specs.Prelude.{Ok, Err}
use Rattle.calculus.specs.declared.refusal.Refusal.{Refusal}
use Rattle.instance.specs.Blanks.{blanks, highest}
use Rattle.instance.specs.Header.{arities_well_formed, max_columns}
use Rattle.parse.specs.Parse.{read_each}
use Rattle.card.specs.Format.{read_record, read_records}
use Rattle.decode.specs.Measure.{measured_record, measured_records, words_in}
use Rattle.instance.proofs.Rows.{arity_low}
use Rattle.decode.proofs.Records.{record-read, step, added, added_none, added_more, records_more, records-refused}

module _ (card : List ℕ) (start n : ℕ) (ars : List ℕ) (count : ℕ) where
  -- the answer for all records is the answer for those that are left, with what was counted so far added
  pub record Measuring (words blank top at left : ℕ) : Type 0 where
    pub within : at ≤ length card
    pub fewer : left ≤ count
    pub few_words : words + (1 + max_columns) * left ≤ (1 + max_columns) * count
    pub few-blanks : blank + max_columns * left ≤ max_columns * count
    pub sum :
        measured_records (length card) (read_records n ars count (drop start card))
        ≡ added words blank top (measured_records (length card) (read_records n ars left (drop at card)))

  pub measuring_starts : start ≤ length card → Measuring 0 0 0 start count
  measuring_starts h = record {
    within = h;
    fewer = omega arith;
    few_words = omega arith;
    few-blanks = omega arith;
    sum = sym (added_none (measured_records (length card) (read_records n ars count (drop start card))));
  }

  -- a record at index `at`, and the state after it
  pub record Turn (words blank top at left arity written h : ℕ) : Type 0 where
    pub narrow : arity ≤ max_columns
    pub fewer : written ≤ arity
    pub in_card : at + (2 + 3 * written) ≤ length card
    pub words_fit : words + (1 + arity) ≤ (1 + max_columns) * count
    pub blanks_fit : blank + (arity - written) ≤ max_columns * count
    pub then : Measuring (words + (1 + arity)) (blank + (arity - written)) (max top h) (at + (2 + 3 * written)) (left - 1)

  module _ (words blank top at left : ℕ) (m : Measuring words blank top at left) (some : 0 < left) where
    one : left ≡ suc (left - 1)
    one = omega arith

    made : (arity written h : ℕ) → arity ≤ max_columns → written ≤ arity → at + (2 + 3 * written) ≤ length card
        → measured_records (length card) (read_records n ars count (drop start card))
        ≡ added (words + (1 + arity)) (blank + (arity - written)) (max top h)
        (measured_records (length card) (read_records n ars (left - 1) (drop (at + (2 + 3 * written)) card)))
        → Turn words blank top at left arity written h
    made arity written h narrow fewer in_card sum = record {
      narrow = narrow;
      fewer = fewer;
      in_card = in_card;
      words_fit = omega arith;
      blanks_fit = omega arith;
      then = record { within = in_card; fewer = omega arith; few_words = omega arith; few-blanks = omega arith; sum = sum };
    }

    pub next-turn : (arity written h : ℕ) → arities_well_formed n ars ≡ true
        → measured_record (read_record n ars (drop at card)) ≡ Ok (record { arity = arity; written = written; highest = h })
        → Turn words blank top at left arity written h
    next-turn arity written h arities_well_formed_lem e =
        let s = step n ars (drop at card) arity written h e in
        let low : arity ≤ max_columns =
        omega (arith, s.arity_is, (record-read n ars (drop at card) s.was_read).columns, arity_low n ars (get_or (drop at card) 0 0) arities_well_formed_lem) in
        let long : 2 + 3 * written ≤ length card - at = rw (length-drop at card) at s.long in
        let fewer : written ≤ arity = s.fewer in
        let rest = measured_records (length card) (read_records n ars (left - 1) (drop (at + (2 + 3 * written)) card)) in
        let more : measured_records (length card) (read_records n ars left (drop at card)) ≡ added (1 + arity) (arity - written) h rest =
        ap (λ (k : ℕ). measured_records (length card) (read_records n ars k (drop at card))) one
        ∙ records_more (length card) n ars (left - 1) (drop at card) arity written h e
        ∙ rw (drop-drop (2 + 3 * written) at card) in
        made arity written h low fewer (omega arith) (m.sum ∙ ap (added words blank top) more ∙ added_more words blank top (1 + arity) (arity - written) h rest)

    pub measuring_refused : (why : Refusal) → measured_record (read_record n ars (drop at card)) ≡ Err why
        → measured_records (length card) (read_records n ars count (drop start card)) ≡ Err why
    measuring_refused why e =
        m.sum
        ∙ ap (added words blank top)
        (ap (λ (k : ℕ). measured_records (length card) (read_records n ars k (drop at card))) one
        ∙ records-refused (length card) n ars (left - 1) (drop at card) why e)

  pub measuring_ends : (words blank top at left : ℕ) → Measuring words blank top at left → left ≤ 0
      → measured_records (length card) (read_records n ars count (drop start card))
      ≡ Ok (record { words = words; blanks = blank; highest = top; end = at })
  unfolding measured_records read_each words_in blanks highest
  measuring_ends words blank top at left m none =
      let a : left ≡ 0 = omega arith in
      let b : words + 0 ≡ words = omega arith in
      let c : blank + 0 ≡ blank = omega arith in
      let d : max top 0 ≡ top = omega arith in
      let e : length card - length (drop at card) ≡ at = simp length-drop (omega (arith, m.within)) in
      m.sum ∙ rw (a, b, c, d, e)
