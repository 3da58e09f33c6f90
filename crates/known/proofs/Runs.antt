-- Flags that stand one after another in a word: as many as its complement has zeros at its low end. Assumes nothing.
use Prim.Native.Nat.{ℕ, ◌+◌, ◌-◌, ◌/◌, ◌%◌, ◌^◌, ◌<◌}
use mathlib.Core.Path.{◌≡◌, refl, sym, ap, ◌∙◌}
use mathlib.Core.Bool.{Bool, true, false}
use native.Mathlib.Nat.{div-eq_of_lt, div-le_self}
use native.Mathlib.Omega.{arith}
use borrow.Author.Tests.{ltb-true, ltb-false, eq-eqb}
use lib.Count.{count_trailing_zeros}
use lib.Dec.{ltb}
use lib.ListN.{get_or}
use lib.Pow.{pow_mono, shr-shr}
use Rattle.std.specs.Int.{w32, bit_at}
use Rattle.std.proofs.lemmas.Nat.Bits.{bit_at_lowest, bit_at_ones, bit_at-trailing_ones}
use Rattle.known.specs.Known.{flag_at}
use Rattle.known.specs.declared.Known.{Known}

-- the flags of the word that holds the flag of place p, from that flag on
module _ (known : Known) (p : ℕ) (fits : get_or known.flags (p / 32) 0 < 4294967296) where
  abbrev shown : ℕ
  shown = get_or known.flags (p / 32) 0 / 2 ^ (p % 32)

  abbrev run : ℕ
  run = count_trailing_zeros 32 (4294967295 - shown)

  small : shown < 4294967296
  small = omega (arith, fits, div-le_self (get_or known.flags (p / 32) 0) (2 ^ (p % 32)))

  -- a word whose flags all stand
  full : ltb (shown + 1) 4294967296 ≡ false → shown ≡ 2 ^ 32 - 1
  full e = omega (arith, small, ltb-false _ _ e)

  full_run : ltb (shown + 1) 4294967296 ≡ false → run ≡ 32
  unfolding count_trailing_zeros
  full_run e = ap (λ (x : ℕ). count_trailing_zeros 32 (4294967295 - x)) (full e)

  pub gap_none : run ≡ 0 → flag_at known p ≡ false
  gap_none z = go (ltb (shown + 1) 4294967296) refl
    where
      go : (b : Bool) → ltb (shown + 1) 4294967296 ≡ b → flag_at known p ≡ false
      go true e =
          let low = (bit_at-trailing_ones w32 shown (ltb-true _ _ e)).1 in
          let even : shown % 2 ≡ 0 = sym (bit_at_lowest shown) ∙ ap (bit_at shown) (sym z) ∙ low in
          rw even refl
      go false e = absurd (omega (arith, full_run e, z))

  run_stands : (q : ℕ) → q < run → bit_at shown q ≡ 1
  run_stands q m = go (ltb (shown + 1) 4294967296) refl
    where
      go : (b : Bool) → ltb (shown + 1) 4294967296 ≡ b → bit_at shown q ≡ 1
      go true e = (bit_at-trailing_ones w32 shown (ltb-true _ _ e)).2 q m
      go false e = ap (λ (x : ℕ). bit_at x q) (full e) ∙ bit_at_ones 32 q (omega (arith, full_run e, m))

  pub gap_all : (q : ℕ) → q < run → flag_at known (p + q) ≡ true
  gap_all q m =
      let bit : get_or known.flags (p / 32) 0 / 2 ^ (p % 32 + q) % 2 ≡ 1 = ap (λ (x : ℕ). x % 2) (sym (shr-shr (get_or known.flags (p / 32) 0) (p % 32) q)) ∙ run_stands q m in
      go bit (ltb (p % 32 + q) 32) refl
    where
      go : get_or known.flags (p / 32) 0 / 2 ^ (p % 32 + q) % 2 ≡ 1 → (b : Bool) → ltb (p % 32 + q) 32 ≡ b → flag_at known (p + q) ≡ true
      go bit true e =
          let l = ltb-true (p % 32 + q) 32 e in
          let same : (p + q) / 32 ≡ p / 32 = omega arith in
          let digit : (p + q) % 32 ≡ p % 32 + q = omega arith in
          rw (same, digit) (eq-eqb _ _ bit)
      go bit false e =
          let l = ltb-false (p % 32 + q) 32 e in
          let none : get_or known.flags (p / 32) 0 / 2 ^ (p % 32 + q) ≡ 0 = div-eq_of_lt (omega (arith, fits, pow_mono {i = 32} {j = p % 32 + q} (omega arith))) in
          absurd (omega (arith, ap (λ (x : ℕ). x % 2) none, bit))
