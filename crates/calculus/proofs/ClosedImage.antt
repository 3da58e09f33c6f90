-- A map of cells that leaves constants as they are turns a closed instance into an image of it: rows that were there are still there, rows that
-- did not unify still do not, and the values are the images of the old values. Assumes nothing.
use Prim.Native.Nat.{ℕ, ◌+◌, ◌≤◌}
use native.Mathlib.Omega.{arith}
use mathlib.Core.Path.{◌≡◌, refl, sym, ap, ◌∙◌, subst}
use mathlib.Core.Bool.{Bool, true, false, ◌&&◌, cond}
use mathlib.Core.List.{List, ◌++◌, map, map-map, map-append}
use lib.Dec.{eqb}
use borrow.Author.Tests.{eqb-true, eq-eqb}
use Rattle.calculus.specs.declared.truth.Truth.TheVariants.{False, Unknown, True}
use Rattle.calculus.specs.Cell.{is_constant, all_constant}
use Rattle.calculus.specs.Row.{Row, map_row, cells_of}
use Rattle.calculus.specs.Unify.{under, unifies}
use Rattle.calculus.specs.Formula.{Formula, inked}
use Rattle.calculus.specs.Eval.{eval}
use Rattle.calculus.specs.Domain.{distinct, range_over}
use Rattle.calculus.specs.Closed.{tuples, some, identical, stands, equality, examined, closed}
use Rattle.calculus.proofs.Bools.{false_not_true, and_parts}
use Rattle.calculus.specs.Order.{◌⊑◌, unknown, alike, ◌⊑ₒ◌, Keeps}
use Rattle.calculus.proofs.Image.{Image, eval_image}
use Rattle.calculus.proofs.Rows.{cells-map}
use Rattle.calculus.proofs.Valuations.{after, after_is}
use Rattle.calculus.proofs.Unification.{unifies_agrees}
use Rattle.calculus.proofs.Distinct.{distinct-map}
use Rattle.calculus.proofs.Tuples.{tuples-map, some_mono, some-of-map, identical_refl, identical-is}
use Rattle.calculus.proofs.Constants.{fixes_all}
use Rattle.calculus.proofs.UpTo.{up-to-map}
use Rattle.calculus.proofs.Lists.{map_same}

-- identical lists unify
pub identical-unifies : (xs ys : List ℕ) → identical xs ys ≡ true → unifies xs ys ≡ true
identical-unifies xs ys e =
    (unifies_agrees xs ys).1
    (record { valuation = record { value = λ c. 0; constant = λ c. refl }; equal = ap (map _) (identical-is xs ys e) })

module _ (h : ℕ → ℕ) (keeps : Keeps h) where
  pub identical-map : (xs ys : List ℕ) → identical xs ys ≡ true → identical (map h xs) (map h ys) ≡ true
  identical-map xs ys e = subst (λ (l : List ℕ). identical (map h xs) (map h l) ≡ true) (identical-is xs ys e) (identical_refl (map h xs))

  -- lists unify if their images do: a valuation after h is a valuation
  unifies_unmap : (xs ys : List ℕ) → unifies (map h xs) (map h ys) ≡ true → unifies xs ys ≡ true
  unifies_unmap xs ys e =
      let u = (unifies_agrees (map h xs) (map h ys)).0 e in
      let v = u.valuation in
      let through : (l : List ℕ) → map (under (after v h)) l ≡ map (under v) (map h l) =
      λ l. map_same (under (after v h)) (λ c. under v (h c)) (after_is v h keeps) l ∙ sym (map-map (under v) h l)
      in
      (unifies_agrees xs ys).1 (record { valuation = after v h; equal = through xs ∙ u.equal ∙ sym (through ys) })

  stands-map : (ts : List (List ℕ)) (row : List ℕ) → stands ts row ⊑ stands (map (map h) ts) (map h row)
  unfolding stands
  stands-map ts row =
      go (some (identical row) ts) (some (unifies row) ts) (some (identical (map h row)) (map (map h) ts)) (some (unifies (map h row)) (map (map h) ts))
      (λ e. some-of-map (identical (map h row)) (map h) ts ∙ some_mono (identical row) (λ t. identical (map h row) (map h t)) (identical-map row) ts e)
      (λ e. some_mono (λ t. unifies (map h row) (map h t)) (unifies row) (unifies_unmap row) ts (sym (some-of-map (unifies (map h row)) (map h) ts) ∙ e))
      (some_mono (identical (map h row)) (unifies (map h row)) (identical-unifies (map h row)) (map (map h) ts))
    where
      go :
          (a b a' b' : Bool) → (a ≡ true → a' ≡ true) → (b' ≡ true → b ≡ true) → (a' ≡ true → b' ≡ true) →
          cond a True (cond b Unknown False) ⊑ cond a' True (cond b' Unknown False)
      go true b true b' f g k = alike
      go true b false b' f g k = false_not_true (f refl)
      go false true a' b' f g k = unknown
      go false false true b' f g k = false_not_true (g (k refl))
      go false false false true f g k = false_not_true (g refl)
      go false false false false f g k = alike

  -- a row that was identical still is, so no more rows are examined
  pub examined-map : (ts : List (List ℕ)) (row : List ℕ) → examined (map (map h) ts) (map h row) ≤ examined ts row
  unfolding examined
  examined-map ts row = up-to-map _ _ (map h) (identical-map row) ts

  pub equality-map : (a b : ℕ) → equality a b ⊑ equality (h a) (h b)
  unfolding equality
  equality-map a b = go (eqb a b) refl (is_constant a && is_constant b) refl
    where
      go :
          (p : Bool) → eqb a b ≡ p → (q : Bool) → (is_constant a && is_constant b) ≡ q →
          cond p True (cond q False Unknown) ⊑ equality (h a) (h b)
      go true e q k = rw (eq-eqb (h a) (h b) (ap h (eqb-true a b e))) alike
      go false e true k = let c = and_parts (is_constant a) (is_constant b) k in rw (keeps a c.0, keeps b c.1, e, k) alike
      go false e false k = unknown

  -- the range of the mapped rows is the mapped range, each value once, at its first occurrence: the constants that a question names stay
  pub range-map : (named : List ℕ) → all_constant named ≡ true → (rs : List Row) → range_over named (map (map_row h) rs) ≡ distinct (map h (range_over named rs))
  range-map named k rs =
      ap (λ (l : List ℕ). distinct (l ++ named)) (cells-map h rs) ∙
      ap (λ (l : List ℕ). distinct (map h (cells_of rs) ++ l)) (sym (fixes_all is_constant h keeps named k)) ∙
      ap distinct (sym (map-append h (cells_of rs) named)) ∙ distinct-map h (cells_of rs ++ named)

  -- the rows after the map are an image of the rows before it
  pub closed_image : (named : List ℕ) → all_constant named ≡ true → (rs : List Row) → Image h (closed named rs) (closed named (map (map_row h) rs))
  closed_image named k rs = record {
    keeps = keeps;
    atoms = λ r row. record {
      truth = subst (λ (ts : List (List ℕ)). stands (tuples r rs) row ⊑ stands ts (map h row)) (sym (tuples-map h r rs)) (stands-map (tuples r rs) row);
      cost = subst (λ (ts : List (List ℕ)). 1 + examined ts (map h row) ≤ 1 + examined (tuples r rs) row) (sym (tuples-map h r rs)) (omega (arith, examined-map (tuples r rs) row));
    };
    equals = equality-map;
    starts = λ j. alike;
    ranges = range-map named k rs;
  }

  -- a map of cells that leaves constants as they are unsettles no verdict and raises no cost, for every formula, list of rows and assignment
  pub closed-kept :
      (f : Formula) → inked f ≡ true → (named : List ℕ) → all_constant named ≡ true → (rs : List Row) (e : List ℕ) →
      eval (closed named rs) f e ⊑ₒ eval (closed named (map (map_row h) rs)) f (map h e)
  closed-kept f k named c rs e = eval_image h (closed named rs) (closed named (map (map_row h) rs)) (closed_image named c rs) f k e
