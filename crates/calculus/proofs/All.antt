-- Lists in which every element passes a test, and what keeps them so. Assumes nothing.
use Prim.Native.Nat.{ℕ, zero, suc, ◌+◌, ◌<◌}
use mathlib.Core.Path.{◌≡◌, refl, ap, ◌∙◌}
use mathlib.Core.Bool.{Bool, true, ◌&&◌}
use mathlib.Core.List.{List, [], ◌∷◌, ◌++◌, map, Memᴰ}
use lib.ListN.{length, get_or, drop, set, replicate}
use Rattle.std.specs.List.{list_all}
use Rattle.calculus.specs.All.{all}
use Rattle.calculus.proofs.Bools.{and_parts, and_intro}
use Rattle.calculus.proofs.Lists.{drop_step}

module _ {A : Type 0} (test : A → Bool) where
  -- the first element, and the others
  pub all_parts : (x : A) (xs : List A) → all test (x ∷ xs) ≡ true → (test x ≡ true) × (all test xs ≡ true)
  unfolding all
  all_parts x xs e = and_parts (test x) (all test xs) e

  pub all_member : {x : A} (xs : List A) → Memᴰ x xs → all test xs ≡ true → test x ≡ true
  all_member [] x3 e = elim x3 [ ]
  all_member (y ∷ xs) (Memᴰ.head same) e = ap test same ∙ (all_parts y xs e).0
  all_member (y ∷ xs) (Memᴰ.tail m) e = all_member xs m (all_parts y xs e).1

  pub all_always : ((x : A) → test x ≡ true) → (xs : List A) → all test xs ≡ true
  unfolding all
  all_always t [] = refl
  all_always t (x ∷ xs) = and_intro (t x) (all_always t xs)

  pub all_append : (xs ys : List A) → all test xs ≡ true → all test ys ≡ true → all test (xs ++ ys) ≡ true
  unfolding all
  all_append [] ys p q = q
  all_append (x ∷ xs) ys p q = let b = all_parts x xs p in and_intro b.0 (all_append xs ys b.1 q)

  pub all_split : (xs ys : List A) → all test (xs ++ ys) ≡ true → (all test xs ≡ true) × (all test ys ≡ true)
  unfolding all
  all_split [] ys e = (refl, e)
  all_split (x ∷ xs) ys e =
      let b = all_parts x (xs ++ ys) e in
      let r = all_split xs ys b.1 in
      (and_intro b.0 r.0, r.1)

  pub all_replicate : (n : ℕ) (x : A) → test x ≡ true → all test (replicate n x) ≡ true
  unfolding all
  all_replicate zero x t = refl
  all_replicate (suc n) x t = and_intro t (all_replicate n x t)

  pub all_get_d : (xs : List A) (i : ℕ) (d : A) → test d ≡ true → all test xs ≡ true → test (get_or xs i d) ≡ true
  all_get_d [] i d t e = t
  all_get_d (x ∷ xs) zero d t e = (all_parts x xs e).0
  all_get_d (x ∷ xs) (suc i) d t e = all_get_d xs i d t (all_parts x xs e).1

  pub all_set : (xs : List A) (i : ℕ) (x : A) → all test xs ≡ true → test x ≡ true → all test (set xs i x) ≡ true
  unfolding all
  all_set [] i x e t = refl
  all_set (y ∷ xs) zero x e t = and_intro t (all_parts y xs e).1
  all_set (y ∷ xs) (suc i) x e t = let b = all_parts y xs e in and_intro b.0 (all_set xs i x b.1 t)

  pub all_map : {B : Type 0} (f : B → A) (before : B → Bool) → ((x : B) → before x ≡ true → test (f x) ≡ true) → (xs : List B) → all before xs ≡ true → all test (map f xs) ≡ true
  unfolding all
  all_map f before t [] e = refl
  all_map f before t (x ∷ xs) e = let b = and_parts (before x) (all before xs) e in and_intro (t x b.0) (all_map f before t xs b.1)

  pub all_unmap : {B : Type 0} (f : B → A) (xs : List B) → all test (map f xs) ≡ true → all (λ x. test (f x)) xs ≡ true
  unfolding all
  all_unmap f [] e = refl
  all_unmap f (x ∷ xs) e = let b = all_parts (f x) (map f xs) e in and_intro b.0 (all_unmap f xs b.1)

  pub all_both :
      (other : A → Bool) (xs : List A) → all test xs ≡ true → all other xs ≡ true →
      all (λ x. test x && other x) xs ≡ true
  unfolding all
  all_both other [] p q = refl
  all_both other (x ∷ xs) p q =
      let a = all_parts x xs p in
      let b = and_parts (other x) (all other xs) q in
      and_intro (and_intro a.0 b.0) (all_both other xs a.1 b.1)

-- the elements from index i: the one there, and those after it
pub all_rest : (test : ℕ → Bool) (xs : List ℕ) (i : ℕ) → i < length xs → all test (drop i xs) ≡ test (get_or xs i 0) && all test (drop (i + 1) xs)
unfolding all
all_rest test xs i l = rw (drop_step xs i l)

-- std's word for the same
pub all_is : {A : Type 0} (test : A → Bool) (xs : List A) → list_all test xs ≡ all test xs
unfolding all
all_is test [] = refl
all_is test (x ∷ xs) = ap (λ (b : Bool). test x && b) (all_is test xs)
