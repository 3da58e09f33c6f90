-- The tuples up to the first that passes a test: tuple by tuple, under a map, and in the front of a list. Assumes nothing.
use Prim.Native.Nat.{ℕ, zero, suc, ◌≤◌, ◌<◌}
use mathlib.Core.Path.{◌≡◌, refl, sym, ap, ◌∙◌}
use mathlib.Core.Bool.{Bool, true, false, ◌||◌}
use mathlib.Core.List.{List, [], ◌∷◌, map}
use native.Mathlib.Omega.{arith}
use lib.ListN.{length, take}
use Rattle.calculus.specs.Closed.{some, up_to, examined}
use Rattle.calculus.proofs.Bools.{false_not_true}

module _ (test : List ℕ → Bool) (t : List ℕ) (ts : List (List ℕ)) where
  -- the tuple that passes is counted, and none after it
  pub up_to-here : test t ≡ true → up_to test (t ∷ ts) ≡ 1
  unfolding up_to
  up_to-here e = rw e refl

  pub up_to_past : test t ≡ false → up_to test (t ∷ ts) ≡ suc (up_to test ts)
  unfolding up_to
  up_to_past e = rw e refl

pub up_to_nothing : (test : List ℕ → Bool) → up_to test [] ≡ 0
unfolding up_to
up_to_nothing test = refl

-- no more tuples than there are
pub up_to_le : (test : List ℕ → Bool) (ts : List (List ℕ)) → up_to test ts ≤ length ts
up_to_le test [] = omega (arith, up_to_nothing test)
up_to_le test (t ∷ ts) = go (test t) refl (up_to_le test ts)
  where
    go : (b : Bool) → test t ≡ b → up_to test ts ≤ length ts → up_to test (t ∷ ts) ≤ suc (length ts)
    go true e l = omega (arith, up_to-here test t ts e)
    go false e l = omega (arith, up_to_past test t ts e)

-- no more rows are examined than the relation has
pub examined_le : (ts : List (List ℕ)) (row : List ℕ) → examined ts row ≤ length ts
unfolding examined
examined_le ts row = up_to_le _ ts

-- a map under which every tuple that passes a test passes another: no more tuples are counted
pub up-to-map :
    (test other : List ℕ → Bool) (f : List ℕ → List ℕ) → ((t : List ℕ) → test t ≡ true → other (f t) ≡ true) →
    (ts : List (List ℕ)) → up_to other (map f ts) ≤ up_to test ts
up-to-map test other f passes [] = omega (arith, up_to_nothing other)
up-to-map test other f passes (t ∷ ts) = go (other (f t)) refl (test t) refl (up-to-map test other f passes ts)
  where
    go :
        (b : Bool) → other (f t) ≡ b → (a : Bool) → test t ≡ a → up_to other (map f ts) ≤ up_to test ts →
        up_to other (f t ∷ map f ts) ≤ up_to test (t ∷ ts)
    go true e true d l = omega (arith, up_to-here other (f t) (map f ts) e, up_to-here test t ts d)
    go true e false d l = omega (arith, up_to-here other (f t) (map f ts) e, up_to_past test t ts d)
    go false e true d l = false_not_true (sym e ∙ passes t d)
    go false e false d l = omega (arith, up_to_past other (f t) (map f ts) e, up_to_past test t ts d)

-- one more tuple at the front of both lists
pub up_to_cons : (test : List ℕ → Bool) (t : List ℕ) (ts us : List (List ℕ)) → up_to test ts ≤ up_to test us → up_to test (t ∷ ts) ≤ up_to test (t ∷ us)
up_to_cons test t ts us l = go (test t) refl
  where
    go : (b : Bool) → test t ≡ b → up_to test (t ∷ ts) ≤ up_to test (t ∷ us)
    go true e = omega (arith, up_to-here test t ts e, up_to-here test t us e)
    go false e = omega (arith, up_to_past test t ts e, up_to_past test t us e)

-- ---- the front of a list

module _ (test : List ℕ → Bool) where
  -- if a tuple of the front passes, the tuples after the front do not matter
  pub some_front : (k : ℕ) (ts : List (List ℕ)) → some test (take k ts) ≡ true → some test ts ≡ true
  unfolding some
  some_front zero ts e = false_not_true e
  some_front (suc k) [] e = e
  some_front (suc k) (t ∷ ts) e = go (test t) (some_front k ts) e
    where
      go : (b : Bool) → (some test (take k ts) ≡ true → some test ts ≡ true) → (b || some test (take k ts)) ≡ true → (b || some test ts) ≡ true
      go true rest p = refl
      go false rest p = rest p

  pub up_to_front : (k : ℕ) (ts : List (List ℕ)) → some test (take k ts) ≡ true → up_to test (take k ts) ≡ up_to test ts
  unfolding some
  up_to_front zero ts e = false_not_true e
  up_to_front (suc k) [] e = refl
  up_to_front (suc k) (t ∷ ts) e = go (test t) refl (up_to_front k ts) e
    where
      go :
          (b : Bool) → test t ≡ b → (some test (take k ts) ≡ true → up_to test (take k ts) ≡ up_to test ts) →
          (b || some test (take k ts)) ≡ true → up_to test (t ∷ take k ts) ≡ up_to test (t ∷ ts)
      go true p rest q = up_to-here test t (take k ts) p ∙ sym (up_to-here test t ts p)
      go false p rest q = up_to_past test t (take k ts) p ∙ ap suc (rest q) ∙ sym (up_to_past test t ts p)

  -- none of the front passes, and there are more: the count goes beyond the front
  pub up_to_beyond : (k : ℕ) (ts : List (List ℕ)) → some test (take k ts) ≡ false → k < length ts → k < up_to test ts
  unfolding some
  up_to_beyond k [] e l = absurd (omega arith)
  up_to_beyond zero (t ∷ ts) e l = go (test t) refl
    where
      go : (b : Bool) → test t ≡ b → 0 < up_to test (t ∷ ts)
      go true p = omega (arith, up_to-here test t ts p)
      go false p = omega (arith, up_to_past test t ts p)
  up_to_beyond (suc k) (t ∷ ts) e l = go (test t) refl (λ q. up_to_beyond k ts q (omega arith)) e
    where
      go : (b : Bool) → test t ≡ b → (some test (take k ts) ≡ false → k < up_to test ts) → (b || some test (take k ts)) ≡ false → suc k < up_to test (t ∷ ts)
      go true p rest q = false_not_true (sym q)
      go false p rest q = omega (arith, up_to_past test t ts p, rest q)
