-- Which values a list holds: laws of `listed`. Assumes nothing.
use Prim.Native.Nat.{ℕ}
use mathlib.Core.Path.{◌≡◌, refl, sym, ◌∙◌}
use mathlib.Core.Bool.{Bool, true, false, ◌||◌, or-true}
use mathlib.Core.List.{List, [], ◌∷◌, ◌++◌, Memᴰ}
use lib.Dec.{eqb}
use borrow.Author.Tests.{eqb-true}
use Rattle.calculus.specs.Listed.{listed}
use Rattle.calculus.proofs.Bools.{false_not_true}

pub listed-append : (x : ℕ) (xs ys : List ℕ) → listed x (xs ++ ys) ≡ (listed x xs || listed x ys)
unfolding listed
listed-append x [] ys = refl
listed-append x (y ∷ xs) ys = go (eqb y x) (listed-append x xs ys)
  where
    go : (b : Bool) → listed x (xs ++ ys) ≡ (listed x xs || listed x ys) → (b || listed x (xs ++ ys)) ≡ ((b || listed x xs) || listed x ys)
    go true ih = refl
    go false ih = ih

pub listed-left : (x : ℕ) (xs ys : List ℕ) → listed x xs ≡ true → listed x (xs ++ ys) ≡ true
listed-left x xs ys e = listed-append x xs ys ∙ rw e

pub listed-right : (x : ℕ) (xs ys : List ℕ) → listed x ys ≡ true → listed x (xs ++ ys) ≡ true
listed-right x xs ys e = listed-append x xs ys ∙ rw e (or-true (listed x xs))

pub listed_member : (x : ℕ) (ys : List ℕ) → listed x ys ≡ true → Memᴰ x ys
unfolding listed
listed_member x [] e = false_not_true e
listed_member x (y ∷ ys) e = go (eqb y x) refl e (listed_member x ys)
  where
    go :
        (b : Bool) → eqb y x ≡ b → (b || listed x ys) ≡ true → (listed x ys ≡ true → Memᴰ x ys) →
        Memᴰ x (y ∷ ys)
    go true p e later = Memᴰ.head (sym (eqb-true y x p))
    go false p e later = Memᴰ.tail (later e)
