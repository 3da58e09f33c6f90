-- How two rows compare, column by column, and what one more binding does. Assumes nothing.
use Prim.Native.Nat.{ℕ, ◌+◌, ◌≤◌, ◌<◌}
use mathlib.Core.Path.{◌≡◌, refl, sym, ap, ap₂, ◌∙◌}
use mathlib.Core.Bool.{Bool, true, false, ◌||◌, cond}
use mathlib.Core.List.{List, [], ◌∷◌}
use native.Mathlib.Omega.{arith}
use borrow.Author.Tests.{eq-eqb, ne_eqb}
use lib.Dec.{ltb}
use lib.ListN.{length, get_or, set, take, drop, drop_of_length-le}
use Rattle.std.specs.Prelude.{Option, Some, None}
use Rattle.std.proofs.lemmas.List.{take_more_set}
use Rattle.std.proofs.lemmas.List.Sums.{fold_push}
use Rattle.calculus.proofs.Lists.{drop_step}
use Rattle.calculus.specs.Cell.{constants}
use Rattle.calculus.specs.declared.truth.Truth.TheVariants.{False, Unknown, True}
use Rattle.calculus.specs.Closed.{identical, some, stands}
use Rattle.calculus.specs.Unify.{bind, unifies_with, unifies}
use Rattle.lookup.specs.declared.row.Binding.{Binding}
use Rattle.lookup.specs.declared.row.Match.TheVariants.{Identical}
use Rattle.lookup.specs.Binding.{through, binding_of}
use Rattle.lookup.specs.Matching.{unified, matching, row_verdict}

-- ---- the next column: the bindings so far map its cells to a and b

-- whether the columns after it unify, if its cells are different and this makes them equal
abbrev pub with_binding : (ℕ → ℕ) → List ℕ → List ℕ → Option Binding → Bool
with_binding s xs ys None = false
with_binding s xs ys (Some b) = unifies_with (λ c. bind b.null b.cell (s c)) xs ys

module _ (s : ℕ → ℕ) (x y a b : ℕ) (sent : s x ≡ a) (sent_too : s y ≡ b) (xs ys : List ℕ) where
  pub unify-alike : a ≡ b → unifies_with s (x ∷ xs) (y ∷ ys) ≡ unifies_with s xs ys
  unfolding unifies_with
  unify-alike e = simp (sent, sent_too, eq-eqb a b e)

  pub unify_bound : (a ≡ b → ⊥) → unifies_with s (x ∷ xs) (y ∷ ys) ≡ with_binding s xs ys (binding_of a b)
  unfolding unifies_with
  unify_bound ne = simp (sent, sent_too, ne_eqb a b ne) (go (ltb a constants) (ltb b constants))
    where
      go :
          (c d : Bool) →
          cond c (cond d false (unifies_with (λ z. bind b a (s z)) xs ys)) (unifies_with (λ z. bind a b (s z)) xs ys) ≡
          with_binding s xs ys (cond c (cond d None (Some (record { null = b; cell = a }))) (Some (record { null = a; cell = b })))
      go true true = refl
      go true false = refl
      go false d = refl

-- one more binding, after the first n
pub through-more : (bs : List Binding) (n : ℕ) (b : Binding) (c : ℕ) → n < length bs → through (take (n + 1) (set bs n b)) c ≡ bind b.null b.cell (through (take n bs) c)
through-more bs n b c l = ap (λ (l : List Binding). through l c) (take_more_set bs n b l) ∙ fold_push _ c (take n bs) b

-- bindings matter only by what they do to each cell
pub unify-more :
    (s : ℕ → ℕ) (bs : List Binding) (n : ℕ) (b : Binding) → n < length bs → (xs ys : List ℕ) →
    unifies_with (λ c. bind b.null b.cell (through (take n bs) (s c))) xs ys ≡ unifies_with (λ c. through (take (n + 1) (set bs n b)) (s c)) xs ys
unify-more s bs n b l xs ys = ap (λ (f : ℕ → ℕ). unifies_with f xs ys) (λ i c. sym (through-more bs n b (s c) l) i)

-- two rows from column i on, whose cells there the bindings so far map to a and b
module _ (s : ℕ → ℕ) (xs ys : List ℕ) (i : ℕ) where
  abbrev from_here : Bool
  from_here = unifies_with s (drop i xs) (drop i ys)

  module _ {a b : ℕ} (l : i < length xs) (m : i < length ys) (sent : a ≡ s (get_or xs i 0)) (sent_too : b ≡ s (get_or ys i 0)) where
    here : from_here ≡ unifies_with s (get_or xs i 0 ∷ drop (i + 1) xs) (get_or ys i 0 ∷ drop (i + 1) ys)
    here = ap₂ (unifies_with s) (drop_step xs i l) (drop_step ys i m)

    pub column-alike : a ≡ b → from_here ≡ unifies_with s (drop (i + 1) xs) (drop (i + 1) ys)
    column-alike e = here ∙ unify-alike s _ _ a b (sym sent) (sym sent_too) _ _ e

    pub column_bound : (a ≡ b → ⊥) → {o : Option Binding} → o ≡ binding_of a b → from_here ≡ with_binding s (drop (i + 1) xs) (drop (i + 1) ys) o
    column_bound ne e = here ∙ unify_bound s _ _ a b (sym sent) (sym sent_too) _ _ ne ∙ ap (with_binding s (drop (i + 1) xs) (drop (i + 1) ys)) (sym e)

  pub columns-end : length ys ≡ length xs → length xs ≤ i → from_here ≡ true
  unfolding unifies_with
  columns-end e l = ap₂ (unifies_with s) (drop_of_length-le xs {i = i} l) (drop_of_length-le ys {i = i} (omega (arith, e, l)))

-- ---- identical columns first

module _ (x y : ℕ) (xs ys : List ℕ) where
  pub matching-alike : x ≡ y → matching (x ∷ xs) (y ∷ ys) ≡ matching xs ys
  unfolding matching identical
  matching-alike e = rw (unify-alike (λ c. c) x y x y refl refl xs ys e) (simp (eq-eqb x y e))

  pub matching_bound : (x ≡ y → ⊥) → matching (x ∷ xs) (y ∷ ys) ≡ unified (with_binding (λ c. c) xs ys (binding_of x y))
  unfolding matching identical
  matching_bound ne = (simp (ne_eqb x y ne)) ∙ ap unified (unify_bound (λ c. c) x y x y refl refl xs ys ne)

-- ---- one row's verdict

pub row_verdict_lem : (xs ys : List ℕ) → row_verdict (matching xs ys) ≡ stands (ys ∷ []) xs
unfolding matching stands some
row_verdict_lem xs ys = go (identical xs ys) (unifies xs ys)
  where
    go : (a b : Bool) → row_verdict (cond a Identical (unified b)) ≡ cond (a || false) True (cond (b || false) Unknown False)
    go true b = refl
    go false true = refl
    go false false = refl
