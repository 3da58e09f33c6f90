-- What follows from an outcome within a budget. Assumes nothing.
use Prim.Native.Nat.{ℕ, ◌≤◌, ◌<◌}
use mathlib.Core.Path.{◌≡◌, refl}
use mathlib.Core.Bool.{Bool, true, false, cond}
use native.Mathlib.Omega.{arith}
use lib.Dec.{leb}
use borrow.Author.Tests.{le-leb, lt-leb, leb-true, leb-false}
use Rattle.calculus.specs.declared.truth.Truth.{Truth}
use Rattle.calculus.specs.Eval.{Outcome}
use Rattle.evaluate.specs.declared.evaluated.Evaluated.TheVariants.{Verdict, Spent}
use Rattle.evaluate.specs.Within.{within}

pub spent : (b : ℕ) (o : Outcome) → b < o.cost → within b o ≡ Spent
unfolding within
spent b o h = rw (lt-leb o.cost b h)

pub verdict : (b : ℕ) (o : Outcome) → o.cost ≤ b → within b o ≡ Verdict o.truth o.cost
unfolding within
verdict b o h = rw (le-leb o.cost b h)

pub was_spent : (b : ℕ) (o : Outcome) → within b o ≡ Spent → b < o.cost
unfolding within
was_spent b o = go (leb o.cost b) refl
  where
    go : (t : Bool) → leb o.cost b ≡ t → cond t (Verdict o.truth o.cost) Spent ≡ Spent → b < o.cost
    go true e h = let z : ◌≡◌ {A = ℕ} 0 1 = cc in omega arith
    go false e h = leb-false o.cost b e

pub record Within (b : ℕ) (o : Outcome) (t : Truth) (n : ℕ) : Type 0 where
  pub truth : o.truth ≡ t
  pub cost : o.cost ≡ n
  pub fits : n ≤ b

pub was_verdict : (b : ℕ) (o : Outcome) (t : Truth) (n : ℕ) → within b o ≡ Verdict t n → Within b o t n
unfolding within
was_verdict b o t n = go (leb o.cost b) refl
  where
    go : (d : Bool) → leb o.cost b ≡ d → cond d (Verdict o.truth o.cost) Spent ≡ Verdict t n → Within b o t n
    go true e h =
        let same : o.cost ≡ n = cc in
        record { truth = cc; cost = same; fits = omega (arith, leb-true o.cost b e) }
    go false e h = let z : ◌≡◌ {A = ℕ} 0 1 = cc in absurd (one z)
      where
        one : ◌≡◌ {A = ℕ} 0 1 → ⊥
        one z = omega arith

pub verdicts : {t u : Truth} {n m : ℕ} → t ≡ u → n ≡ m → Verdict t n ≡ Verdict u m
verdicts p q = rw (p, q) refl
