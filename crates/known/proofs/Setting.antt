-- A flag is set, and what stays. Assumes nothing.
use Prim.Native.Nat.{ℕ, ◌*◌, ◌/◌, ◌%◌, ◌^◌, ◌<◌}
use mathlib.Core.Path.{◌≡◌, refl, ap, ◌∙◌}
use mathlib.Core.Bool.{Bool, true, false}
use native.Mathlib.Omega.{arith}
use borrow.Author.Tests.{eqb-true, eqb-false, eq-eqb}
use lib.Bits.{bit_or}
use lib.Dec.{eqb}
use lib.ListN.{length, get_or, set}
use lib.Seq.{get_or-set_same, get_or-set_other}
use Rattle.std.specs.Int.{w32}
use Rattle.std.proofs.lemmas.Nat.Bits.{bit_at_set_same, bit_at_set_other}
use Rattle.calculus.specs.Bit.{bit_at}
use Rattle.known.specs.Known.{flag_at, SameBesides, Flagged}
use Rattle.known.specs.declared.Known.{Known}

pub kept_same : {known : Known} → SameBesides known known
kept_same = record { counts = refl; arities = refl; places = refl }

pub kept_then : {a b c : Known} → SameBesides a b → SameBesides b c → SameBesides a c
kept_then f g = record { counts = g.counts ∙ f.counts; arities = g.arities ∙ f.arities; places = g.places ∙ f.places }

module _ (known : Known) (p : ℕ) (l : p / 32 < length known.flags) where
  abbrev word : ℕ
  word = bit_or (get_or known.flags (p / 32) 0) (1 * 2 ^ (p % 32) % 2 ^ 32)

  abbrev flagged : Known
  flagged = record known { flags = set known.flags (p / 32) word }

  set_other : (q : ℕ) → (q ≡ p → ⊥) → (b : Bool) → eqb (q / 32) (p / 32) ≡ b → flag_at flagged q ≡ flag_at known q
  set_other q ne true e =
      let same : q / 32 ≡ p / 32 = eqb-true _ _ e in
      let differ : (q % 32 ≡ p % 32 → ⊥) = λ h. ne (omega (arith, same, h)) in
      rw same
      (ap (λ (x : ℕ). bit_at x (q % 32)) (get_or-set_same known.flags (p / 32) word 0 l) ∙
      ap (λ (x : ℕ). eqb x 1) (bit_at_set_other w32 (get_or known.flags (p / 32) 0) (p % 32) (omega arith) (q % 32) differ))
  set_other q ne false e = ap (λ (x : ℕ). bit_at x (q % 32)) (get_or-set_other known.flags (p / 32) (q / 32) word 0 (eqb-false _ _ e))

  pub set_flag : Flagged known p true flagged
  set_flag = record {
    kept = record { counts = refl; arities = refl; places = refl };
    here =
        ap (λ (x : ℕ). bit_at x (p % 32)) (get_or-set_same known.flags (p / 32) word 0 l) ∙
        eq-eqb _ _ (bit_at_set_same w32 (get_or known.flags (p / 32) 0) (p % 32) (omega arith));
    other = λ q ne. set_other q ne (eqb (q / 32) (p / 32)) refl;
  }
