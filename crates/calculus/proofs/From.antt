-- What holds of k numbers from i on, as a whole, holds of each of them. Assumes nothing.
use Prim.Native.Nat.{ℕ, zero, suc, ◌+◌, ◌≤◌, ◌<◌}
use mathlib.Core.Path.{◌≡◌, refl}
use mathlib.Core.Bool.{Bool, true, false}
use native.Mathlib.Omega.{arith}
use borrow.Author.Tests.{eqb-true, eqb-false}
use lib.Dec.{eqb}

-- one of k + 1 numbers from i on is i, or one of the k after it
pub first_or_later : (P : ℕ → Type 0) (i k d : ℕ) → P i → (suc i ≤ d → d < suc i + k → P d) → i ≤ d → d < i + suc k → P d
first_or_later P i k d here later a b = go (eqb d i) refl
  where
    go : (t : Bool) → eqb d i ≡ t → P d
    go true e = rw (eqb-true d i e) here
    go false e = let ne = eqb-false d i e in later (omega arith) (omega arith)

module _ (P : ℕ → Type 0) (Whole : ℕ → ℕ → Type 0) (parts : (i k : ℕ) → Whole i (suc k) → P i × Whole (suc i) k) where
  pub each_from : (i k d : ℕ) → Whole i k → i ≤ d → d < i + k → P d
  each_from i zero d w a b = absurd (omega arith)
  each_from i (suc k) d w a b =
      let p = parts i k w in
      first_or_later P i k d p.0 (λ l m. each_from (suc i) k d p.1 l m) a b
