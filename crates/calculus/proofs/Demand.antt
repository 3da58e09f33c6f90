-- A chain of demands whose result is not its first refusal has met the first demand. Assumes nothing.
use mathlib.Core.Path.{◌≡◌, refl}
use mathlib.Core.Bool.{Bool, true, false}
use Rattle.calculus.specs.Demand.{demand}

pub demand_met : {A : Type 0} (b : Bool) {refusal a end : A} → demand b refusal a ≡ end → (refusal ≡ end → ⊥) → (b ≡ true) × (a ≡ end)
demand_met true e other = (refl, e)
demand_met false e other = absurd (other e)
