-- The columns before the first that differs. Assumes nothing.
use Prim.Native.Nat.{ℕ, suc, ◌+◌, ◌<◌}
use mathlib.Core.Path.{◌≡◌, refl, sym, ap, ap₂, subst, ◌∙◌}
use mathlib.Core.Bool.{Bool, true, false, ◌&&◌, cond}
use mathlib.Core.Logic.{◌⊎◌, inl, inr, ⊎_elim}
use mathlib.Core.List.{List, [], ◌∷◌}
use native.Mathlib.Omega.{arith}
use borrow.Author.Tests.{eq-eqb, ne_eqb, eqb-true, eqb-false}
use lib.Dec.{eqb}
use lib.ListN.{length, get_or, drop}
use Rattle.calculus.specs.Closed.{identical}
use Rattle.calculus.proofs.Lists.{drop_step}
use Rattle.std.specs.Prelude.{Option}
use Rattle.lookup.specs.declared.row.Binding.{Binding}
use Rattle.lookup.specs.Binding.{binding_of}
use Rattle.lookup.specs.Matching.{alike, unified, matching}
use Rattle.lookup.proofs.Matching.{matching-alike, matching_bound, with_binding}

pub alike_end : (xs ys : List ℕ) → xs ≡ [] → alike xs ys ≡ 0
unfolding alike
alike_end xs ys e = rw e refl

module _ (x y : ℕ) (xs ys : List ℕ) where
  pub alike_same : x ≡ y → alike (x ∷ xs) (y ∷ ys) ≡ suc (alike xs ys)
  unfolding alike
  alike_same e = simp (eq-eqb x y e)

  pub alike_differs : (x ≡ y → ⊥) → alike (x ∷ xs) (y ∷ ys) ≡ 0
  unfolding alike
  alike_differs ne = simp (ne_eqb x y ne)

-- they do not matter to the comparison
pub matching_past : (xs ys : List ℕ) → matching xs ys ≡ matching (drop (alike xs ys) xs) (drop (alike xs ys) ys)
unfolding alike
matching_past [] ys = refl
matching_past (x ∷ xs) [] = refl
matching_past (x ∷ xs) (y ∷ ys) = go (eqb x y) refl (matching_past xs ys)
  where
    go :
        (b : Bool) → eqb x y ≡ b → matching xs ys ≡ matching (drop (alike xs ys) xs) (drop (alike xs ys) ys) →
        matching (x ∷ xs) (y ∷ ys) ≡ matching (drop (cond b (suc (alike xs ys)) 0) (x ∷ xs)) (drop (cond b (suc (alike xs ys)) 0) (y ∷ ys))
    go true e rest = matching-alike x y xs ys (eqb-true x y e) ∙ rest
    go false e rest = refl

-- rows of one length are identical if all columns are alike, and otherwise the next column differs
alike-told :
    (xs ys : List ℕ) → length xs ≡ length ys →
    ((alike xs ys ≡ length xs) × (identical xs ys ≡ true))
    ⊎ ((alike xs ys < length xs) × (identical xs ys ≡ false) × (get_or xs (alike xs ys) 0 ≡ get_or ys (alike xs ys) 0 → ⊥))
unfolding alike identical
alike-told [] [] l = inl (refl, refl)
alike-told [] (y ∷ ys) l = absurd (omega (arith, l))
alike-told (x ∷ xs) [] l = absurd (omega (arith, l))
alike-told (x ∷ xs) (y ∷ ys) l = go (eqb x y) refl (alike-told xs ys (omega (arith, l)))
  where
    go :
        (b : Bool) → eqb x y ≡ b →
        ((alike xs ys ≡ length xs) × (identical xs ys ≡ true))
        ⊎ ((alike xs ys < length xs) × (identical xs ys ≡ false) × (get_or xs (alike xs ys) 0 ≡ get_or ys (alike xs ys) 0 → ⊥)) →
        ((cond b (suc (alike xs ys)) 0 ≡ length (x ∷ xs)) × (b && identical xs ys ≡ true))
        ⊎ ((cond b (suc (alike xs ys)) 0 < length (x ∷ xs)) × (b && identical xs ys ≡ false)
        × (get_or (x ∷ xs) (cond b (suc (alike xs ys)) 0) 0 ≡ get_or (y ∷ ys) (cond b (suc (alike xs ys)) 0) 0 → ⊥))
    go true e rest = ⊎_elim (λ p. inl (ap suc p.0, p.1)) (λ p. inr (omega (arith, p.0), p.1, p.2)) rest
    go false e rest = inr (omega arith, refl, eqb-false x y e)

module _ (xs ys : List ℕ) (l : length xs ≡ length ys) where
  pub alike-identical : alike xs ys ≡ length xs → identical xs ys ≡ true
  alike-identical e = ⊎_elim (λ p. p.1) (λ p. absurd (omega (arith, e, p.0))) (alike-told xs ys l)

  pub alike-other : (alike xs ys ≡ length xs → ⊥) → (alike xs ys < length xs) × (identical xs ys ≡ false) × (get_or xs (alike xs ys) 0 ≡ get_or ys (alike xs ys) 0 → ⊥)
  alike-other ne = ⊎_elim (λ p. absurd (ne p.0)) (λ p. p) (alike-told xs ys l)

  -- the first column that differs, and those after it, decide
  module _ {i : ℕ} (is : i ≡ alike xs ys) (other : i ≡ length xs → ⊥) where
    pub other-low : i < length xs
    other-low = omega (arith, is, (alike-other (λ e. other (is ∙ e))).0)

    differs : get_or xs i 0 ≡ get_or ys i 0 → ⊥
    differs e = (alike-other (λ f. other (is ∙ f))).2 (subst (λ (k : ℕ). get_or xs k 0 ≡ get_or ys k 0) is e)

    pub other_decides : {o : Option Binding} → o ≡ binding_of (get_or xs i 0) (get_or ys i 0) → matching xs ys ≡ unified (with_binding (λ c. c) (drop (i + 1) xs) (drop (i + 1) ys) o)
    other_decides e =
        matching_past xs ys ∙ ap (λ (k : ℕ). matching (drop k xs) (drop k ys)) (sym is) ∙
        ap₂ matching (drop_step xs i other-low) (drop_step ys i (omega (arith, l, other-low))) ∙
        matching_bound (get_or xs i 0) (get_or ys i 0) (drop (i + 1) xs) (drop (i + 1) ys) differs ∙
        ap (λ (o : Option Binding). unified (with_binding (λ c. c) (drop (i + 1) xs) (drop (i + 1) ys) o)) (sym e)
