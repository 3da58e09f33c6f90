-- Ordinary two-valued logic, as document 01, "Run A and run B", spells it out. Nothing stops early.
use Rattle.std.specs.Prelude.{ℕ, Bool, true, false, not, ◌&&◌, ◌||◌, List, [], ◌∷◌, set, eqb}
use Rattle.calculus.specs.Row.{Row}
use Rattle.calculus.specs.Kleene.{Junction, conj, disj}
use Rattle.calculus.specs.Formula.{Formula, atom, equal, negation, junction, quantified, value, values}
use Rattle.calculus.specs.Closed.{tuples, some, identical}

abbrev pub join_b : Junction → Bool → Bool → Bool
join_b conj a b = a && b
join_b disj a b = a || b

-- "over none, some is no and every yes"
abbrev pub unit_b : Junction → Bool
unit_b conj = true
unit_b disj = false

abbrev pub over_b : Junction → (ℕ → Bool) → List ℕ → Bool
over_b j f [] = unit_b j
over_b j f (c ∷ cs) = join_b j (f c) (over_b j f cs)

-- In Libkin's paper Eval_FO, the evaluation of first-order logic. "The values are those that the question ranges over":
-- they are given.
unfoldable pub says : List ℕ → List Row → Formula → List ℕ → Bool
says range rs (atom r ts) e = some (identical (values e ts)) (tuples r rs)
says range rs (equal s t) e = eqb (value e s) (value e t)
says range rs (negation f) e = not (says range rs f e)
says range rs (junction j f g) e = join_b j (says range rs f e) (says range rs g e)
says range rs (quantified j v f) e = over_b j (λ c. says range rs f (set e v c)) range
