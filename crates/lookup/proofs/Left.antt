-- The rows of a relation that are left at a place: the row there, and those left after it. Assumes nothing.
use Prim.Native.Nat.{ℕ, suc, ◌+◌, ◌≤◌, ◌<◌}
use mathlib.Core.Path.{◌≡◌, sym, ap, subst, ◌∙◌}
use mathlib.Core.Bool.{Bool, true, false}
use mathlib.Core.List.{List, ◌∷◌}
use native.Mathlib.Omega.{arith}
use borrow.Author.Tests.{eq-eqb, ne_eqb}
use lib.ListN.{length, get_or, take, drop, length-drop}
use Rattle.calculus.specs.Closed.{tuples}
use Rattle.calculus.proofs.Tuples.{tuples-here, tuples-other}
use Rattle.instance.specs.Header.{arity_of}
use Rattle.instance.specs.Rows.{rows_from}
use Rattle.instance.proofs.Walk.{Walk, AtRow, row_here, tuples-few}
use Rattle.lookup.specs.Passing.{RowsLeft, words_passed}
use Rattle.lookup.specs.Place.{cells_at}

module _ (ars ws : List ℕ) (relation i : ℕ) where
  -- the tuples that are left at index k
  abbrev left_at : ℕ → List (List ℕ)
  left_at k = tuples relation (rows_from ars 0 (drop k ws))

  -- the words that are passed over from index k on, within the relation's next n rows
  abbrev passed_at : (List ℕ → Bool) → ℕ → ℕ → ℕ
  passed_at test n k = words_passed test relation n (rows_from ars 0 (drop k ws))

  module _ {m : ℕ} (left : RowsLeft ars ws relation i m) where
    abbrev walk : Walk left.given.relations ars ws i
    walk = record { within = left.within; well_formed = left.well_formed }

    -- words are left if a row is
    pub words_left : 0 < m → i < length ws
    words_left some = omega (arith, some, left.some, tuples-few relation ars (drop i ws), length-drop i ws)

    pub row-left : 0 < m → AtRow left.given.relations ars ws i
    row-left some = row_here left.given.relations ars ws i (words_left some) walk

    -- fewer are left, too
    pub fewer_left : (k : ℕ) → k ≤ m → RowsLeft ars ws relation i k
    fewer_left k l = record { given = left.given; known = left.known; within = left.within; well_formed = left.well_formed; some = omega (arith, l, left.some) }

    -- and as many as there are tuples
    pub more_left : (k : ℕ) → k ≤ length (left_at i) → RowsLeft ars ws relation i k
    more_left k l = record { given = left.given; known = left.known; within = left.within; well_formed = left.well_formed; some = l }

    -- past a row of another relation
    module _ (some : 0 < m) (ne : get_or ws i 0 ≡ relation → ⊥) where
      abbrev past : ℕ
      past = i + (1 + arity_of ars (get_or ws i 0))

      pub other-same : left_at past ≡ left_at i
      other-same = sym (ap (tuples relation) (row-left some).rows ∙ tuples-other relation _ _ ne)

      pub other-words : (test : List ℕ → Bool) (k : ℕ) → past + passed_at test (suc k) past ≡ i + passed_at test (suc k) i
      unfolding words_passed
      other-words test k =
          let here = row-left some in
          let e : passed_at test (suc k) i ≡ suc (length (take (arity_of ars (get_or ws i 0)) (drop (i + 1) ws))) + passed_at test (suc k) past =
          ap (words_passed test relation (suc k)) here.rows ∙ simp (ne_eqb _ _ ne)
          in
          omega (arith, e, here.size)

      pub other-left : RowsLeft ars ws relation past m
      other-left =
          let next = (row-left some).next in
          record { given = left.given; known = left.known; within = next.within; well_formed = next.well_formed; some = omega (arith, left.some, ap length other-same) }

    -- past a row of this relation
    module _ (some : 0 < m) (is : get_or ws i 0 ≡ relation) where
      abbrev next : ℕ
      next = i + (1 + arity_of ars relation)

      pub same_step : left_at i ≡ cells_at ws i (arity_of ars relation) ∷ left_at next
      same_step =
          ap (tuples relation) (row-left some).rows ∙ tuples-here relation _ _ is ∙
          ap (λ (r : ℕ). cells_at ws i (arity_of ars r) ∷ left_at (i + (1 + arity_of ars r))) is

      -- the words passed over from here, whether its cells pass the test or not
      pub same_stops : (test : List ℕ → Bool) (k : ℕ) → test (cells_at ws i (arity_of ars relation)) ≡ false → passed_at test (suc k) i ≡ 0
      unfolding words_passed
      same_stops test k e =
          ap (words_passed test relation (suc k)) (row-left some).rows ∙
          simp (eq-eqb _ _ is, ap (λ (r : ℕ). test (cells_at ws i (arity_of ars r))) is ∙ e)

      pub same-goes-on :
          (test : List ℕ → Bool) (k : ℕ) → test (cells_at ws i (arity_of ars relation)) ≡ true →
          i + passed_at test (suc k) i ≡ next + passed_at test k next
      unfolding words_passed
      same-goes-on test k e =
          let here = row-left some in
          let past = i + (1 + arity_of ars (get_or ws i 0)) in
          let p : passed_at test (suc k) i ≡ suc (length (take (arity_of ars (get_or ws i 0)) (drop (i + 1) ws))) + passed_at test k past =
          ap (words_passed test relation (suc k)) here.rows ∙
          simp (eq-eqb _ _ is, ap (λ (r : ℕ). test (cells_at ws i (arity_of ars r))) is ∙ e)
          in
          let q : past + passed_at test k past ≡ next + passed_at test k next =
          ap (λ (r : ℕ). i + (1 + arity_of ars r) + passed_at test k (i + (1 + arity_of ars r))) is
          in
          omega (arith, p, q, here.size)

      pub same-within : next ≤ length ws
      same-within = omega (arith, (row-left some).next.within, ap (arity_of ars) is)

      pub same_left : (k : ℕ) → k + 1 ≤ m → RowsLeft ars ws relation next k
      same_left k l =
          let walk_on : Walk left.given.relations ars ws next = subst (λ (r : ℕ). Walk left.given.relations ars ws (i + (1 + arity_of ars r))) is (row-left some).next in
          record { given = left.given; known = left.known; within = walk_on.within; well_formed = walk_on.well_formed; some = omega (arith, l, left.some, ap length same_step) }
