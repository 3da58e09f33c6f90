-- How often a number occurs in a list. Assumes nothing.
use Prim.Native.Nat.{ℕ, suc, ◌+◌, ◌≤◌, ◌<◌}
use mathlib.Core.Path.{◌≡◌, refl, ap}
use mathlib.Core.Bool.{Bool, true, false, cond}
use mathlib.Core.List.{List, [], ◌∷◌, ◌++◌}
use native.Mathlib.Omega.{arith}
use borrow.Author.Tests.{eq-eqb, ne_eqb}
use lib.ListN.{length, get_or, drop}
use lib.Dec.{eqb}
use Rattle.std.specs.List.{filter}
use Rattle.calculus.specs.Fill.{count_of}
use Rattle.calculus.proofs.Lists.{drop_step}

module _ (x : ℕ) where
  module _ (y : ℕ) (ys : List ℕ) where
    pub count_of-here : y ≡ x → count_of x (y ∷ ys) ≡ suc (count_of x ys)
    unfolding count_of
    count_of-here e = simp (eq-eqb y x e)

    pub count_of-other : (y ≡ x → ⊥) → count_of x (y ∷ ys) ≡ count_of x ys
    unfolding count_of
    count_of-other ne = simp (ne_eqb y x ne)

    -- one more element
    pub count_of_cons : count_of x (y ∷ ys) ≡ count_of x (y ∷ []) + count_of x ys
    unfolding count_of
    count_of_cons = go (eqb y x)
      where
        go : (b : Bool) → cond b (suc (count_of x ys)) (count_of x ys) ≡ cond b 1 0 + count_of x ys
        go true = omega arith
        go false = omega arith

  pub count_of_le : (xs : List ℕ) → count_of x xs ≤ length xs
  unfolding count_of
  count_of_le [] = omega arith
  count_of_le (y ∷ ys) = go (eqb y x) (count_of_le ys)
    where
      go : (b : Bool) → count_of x ys ≤ length ys → cond b (suc (count_of x ys)) (count_of x ys) ≤ suc (length ys)
      go true l = omega arith
      go false l = omega arith

  pub count_of-append : (xs ys : List ℕ) → count_of x (xs ++ ys) ≡ count_of x xs + count_of x ys
  unfolding count_of
  count_of-append [] ys = omega arith
  count_of-append (y ∷ xs) ys = omega (arith, count_of_cons y (xs ++ ys), count_of_cons y xs, count_of-append xs ys)

  -- the count from index i, by the element there
  pub countOf-drop-step :
      (xs : List ℕ) (i : ℕ) → i < length xs →
      count_of x (drop i xs) ≡ cond (eqb (get_or xs i 0) x) (suc (count_of x (drop (i + 1) xs))) (count_of x (drop (i + 1) xs))
  unfolding count_of
  countOf-drop-step xs i l = rw (drop_step xs i l)

-- the elements that a filter leaves
pub count_of_filter : (x : ℕ) (ys : List ℕ) → length (filter (λ y. eqb y x) ys) ≡ count_of x ys
unfolding count_of
count_of_filter x [] = refl
count_of_filter x (y ∷ ys) = go (eqb y x) (count_of_filter x ys)
  where
    go : (b : Bool) → length (filter (λ y. eqb y x) ys) ≡ count_of x ys
        → length (cond b (y ∷ filter (λ y. eqb y x) ys) (filter (λ y. eqb y x) ys)) ≡ cond b (suc (count_of x ys)) (count_of x ys)
    go true e = ap suc e
    go false e = e
