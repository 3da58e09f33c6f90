-- What a reading that is not refused says of its steps, and the numbers of one that is. Assumes nothing.
use Prim.Native.Nat.{ℕ}
use mathlib.Core.Path.{◌≡◌, refl, sym}
use mathlib.Core.Bool.{Bool, true, false}
use Rattle.calculus.specs.Demand.{demand}
use Rattle.calculus.specs.declared.refusal.Refusal.{Refusal}
use Rattle.calculus.specs.Refusal.{refusal_number}
use Rattle.calculus.specs.Reading.{Reading, read, refused, and_then, refused_in}
use Rattle.calculus.proofs.Bools.{zero_not_one}
use Rattle.calculus.proofs.Demand.{demand_met}
use mathlib.Core.List.{List}
use Rattle.calculus.specs.Listed.{listed}

pub refused-read : {X S A : Type 0} {r : Refusal} {a : A} {s : S} → refused r ≡ read a s → X
refused-read e = let z : ◌≡◌ {A = ℕ} 0 1 = cc in absurd (zero_not_one z)

pub demand-read : {S A : Type 0} (b : Bool) (r : Refusal) (p : Reading S A) {a : A} {s : S} → demand b (refused r) p ≡ read a s → (b ≡ true) × (p ≡ read a s)
demand-read b r p e = demand_met b e (λ q. refused-read q)

-- what was read between two steps, and the state there
pub record Between {S A B : Type 0} (p : Reading S A) (next : A → S → Reading S B) (b : B) (end : S) : Type 0 where
  pub value : A
  pub state : S
  pub first : p ≡ read value state
  pub second : next value state ≡ read b end

pub then_read : {S A B : Type 0} (p : Reading S A) (next : A → S → Reading S B) {b : B} {end : S} → and_then p next ≡ read b end → Between p next b end
then_read (read a s) next e = record { value = a; state = s; first = refl; second = e }
then_read (refused r) next e = refused-read e

-- ---- the numbers of refusals

module _ (ns : List ℕ) where
  pub demand_in : {S A : Type 0} (b : Bool) (r : Refusal) (p : Reading S A) → listed (refusal_number r) ns ≡ true → refused_in ns p ≡ true → refused_in ns (demand b (refused r) p) ≡ true
  demand_in true r p l q = q
  demand_in false r p l q = l

  pub then-in :
      {S A B : Type 0} (p : Reading S A) (next : A → S → Reading S B) → refused_in ns p ≡ true → ((a : A) (s : S) → refused_in ns (next a s) ≡ true) →
      refused_in ns (and_then p next) ≡ true
  then-in (read a s) next p q = q a s
  then-in (refused r) next p q = p

  pub number_in : {S A : Type 0} (p : Reading S A) (r : Refusal) → p ≡ refused r → refused_in ns p ≡ true → listed (refusal_number r) ns ≡ true
  number_in (read a s) r e q = refused-read (sym e)
  number_in (refused n) r e q = let same : n ≡ r = cc in rw (← same) q
