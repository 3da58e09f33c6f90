-- Setting a bit of a number. Assumes nothing.
use Prim.Native.Nat.{ℕ, zero, suc, ◌+◌, ◌-◌, ◌*◌, ◌/◌, ◌%◌, ◌^◌, ◌<◌}
use mathlib.Core.Path.{◌≡◌, refl, ap, ◌∙◌}
use mathlib.Core.Bool.{Bool, true, false, ◌||◌}
use native.Mathlib.Nat.{pow-suc, div-eq_of_lt}
use native.Mathlib.Omega.{arith}
use borrow.Author.Tests.{ltb-true, ltb-false, eqb-true, eqb-false}
use lib.Bits.{bit_or, or_shr, or_mod, or_zero_r}
use lib.Dec.{lit<, ltb, eqb}
use lib.Pow.{pow-lt, pow-add, shl_exact, shl-shr}
use Rattle.calculus.specs.Bit.{bit_at}

-- bit v itself, as a 32-bit shift gives it
pub shifted : (v : ℕ) → v < 32 → (1 * 2 ^ v) % 2 ^ 32 ≡ 2 ^ v
shifted v l = shl_exact {a = 1} 1 v 32 (lit< tt) (omega arith) ∙ omega arith

-- the bits of 2 ^ v
bit_same : (v : ℕ) → 2 ^ v / 2 ^ v % 2 ≡ 1
bit_same v = let e : 1 * 2 ^ v ≡ 2 ^ v = omega arith in ap (λ (x : ℕ). x % 2) (rw e at (shl-shr 1 v))

bit_above : (d w : ℕ) → 2 ^ (suc d + w) / 2 ^ w % 2 ≡ 0
bit_above d w = rw (pow-add 2 (suc d) w, shl-shr (2 ^ suc d) w, pow-suc) (omega arith)

bit_other : (v w : ℕ) → (w ≡ v → ⊥) → 2 ^ v / 2 ^ w % 2 ≡ 0
bit_other v w n = go (ltb w v) refl
  where
    go : (b : Bool) → ltb w v ≡ b → 2 ^ v / 2 ^ w % 2 ≡ 0
    go true e =
        let l = ltb-true w v e in
        let s : suc (v - suc w) + w ≡ v = omega arith in
        rw s at (bit_above (v - suc w) w)
    go false e =
        let l = ltb-false w v e in
        let m : v < w = omega arith in
        ap (λ (x : ℕ). x % 2) (div-eq_of_lt (pow-lt m))

bit_or_lem : (m v w : ℕ) → bit_or m (2 ^ v) / 2 ^ w % 2 ≡ bit_or (m / 2 ^ w % 2) (2 ^ v / 2 ^ w % 2)
bit_or_lem m v w = rw (or_shr m (2 ^ v) w) (or_mod (m / 2 ^ w) (2 ^ v / 2 ^ w) 1)

or_one : (x : ℕ) → x < 2 → bit_or x 1 ≡ 1
or_one zero l = refl
or_one (suc zero) l = refl
or_one (suc (suc x)) l = absurd (omega arith)

-- a bit is set after bit v was set exactly if it is bit v, or was set before
pub bit_set : (m v w : ℕ) → bit_at (bit_or m (2 ^ v)) w ≡ (eqb w v || bit_at m w)
bit_set m v w = rw (bit_or_lem m v w) (go (eqb w v) refl)
  where
    go : (b : Bool) → eqb w v ≡ b → eqb (bit_or (m / 2 ^ w % 2) (2 ^ v / 2 ^ w % 2)) 1 ≡ (b || bit_at m w)
    go true e = rw (eqb-true w v e, bit_same v, or_one (m / 2 ^ v % 2) (omega arith))
    go false e = rw (bit_other v w (eqb-false w v e), or_zero_r (m / 2 ^ w % 2))
