-- The evaluation of a question's top node.
use Rattle.std.specs.Prelude.{ℕ, List}
use Rattle.calculus.specs.Eval.{Outcome, eval}
use Rattle.known.specs.Known.{arities_in}
use Rattle.query.specs.Tree.{formula_of}
use Rattle.evaluate.specs.declared.nodes.Asking.{Asking}
use Rattle.evaluate.specs.Ready.{Ranged, world}

-- what quantifiers walk is the range
abbrev pub RangedIn : Asking → Type 0
RangedIn a = Ranged (arities_in a.known.now) a.words.now a.query.now a.known.now a.values.now

-- the outcome of the whole question under an assignment
abbrev pub outcome_in : Asking → List ℕ → Outcome
outcome_in a e =
    eval (world (arities_in a.known.now) a.words.now a.query.now) (formula_of (arities_in a.known.now) a.query.now) e
