-- If a table has 11 and the numbers of the rules, it has every refusal of reading bytes. Assumes nothing.
use Prim.Native.Nat.{ℕ, zero, suc, ◌+◌, ◌*◌}
use mathlib.Core.Path.{◌≡◌, refl}
use mathlib.Core.Bool.{Bool, true}
use mathlib.Core.List.{List, [], ◌∷◌}
use Rattle.calculus.specs.Listed.{listed}
use Rattle.calculus.specs.Reading.{read, refused_in}
use Rattle.calculus.specs.declared.refusal.Refusal.{Refusal}
use Rattle.calculus.specs.Refusal.{refusal_number, cut_short}
use Rattle.calculus.proofs.Reading.{demand_in, then-in}
use Rattle.parse.specs.Parse.{Parsed, read_byte, read_each}
use Rattle.parse.specs.Number.{read_digits}

module _ (ns : List ℕ) (cut : listed cut_short ns ≡ true) where
  pub byte_in : (rule : ℕ → Bool) (r : Refusal) (bs : List ℕ) → listed (refusal_number r) ns ≡ true → refused_in ns (read_byte rule r bs) ≡ true
  unfolding read_byte
  byte_in rule r [] p = cut
  byte_in rule r (b ∷ bs) p = demand_in ns (rule b) r (read b bs) p refl

  pub digits_in : (high n : ℕ) (bs : List ℕ) → refused_in ns (read_digits high n bs) ≡ true
  unfolding read_digits
  digits_in high zero bs = refl
  digits_in high (suc n) [] = cut
  digits_in high (suc n) (b ∷ bs) = digits_in (high * 256 + b) n bs

pub each_in :
    (ns : List ℕ) {A : Type 0} (item : List ℕ → Parsed A) → ((bs : List ℕ) → refused_in ns (item bs) ≡ true) → (n : ℕ) (bs : List ℕ) →
    refused_in ns (read_each item n bs) ≡ true
unfolding read_each
each_in ns item one zero bs = refl
each_in ns item one (suc n) bs = then-in ns (item bs) _ (one bs) (λ x bs. then-in ns (read_each item n bs) _ (each_in ns item one n bs) (λ xs bs. refl))
