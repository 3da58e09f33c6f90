use mathlib.Core.Path.{◌≡◌}
use mathlib.Core.List.{[], ◌∷◌}
use lib.ListN.{drop}
use Rattle.calculus.specs.Unify.{unifies_with}
use Rattle.lookup.specs.Binding.{through}
use Rattle.lookup.proofs.row.unify.Given as goal

abbrev pub invariant-loop-i : goal.invariant-loop-i
invariant-loop-i l =
    unifies_with (through (l.first ∷ [])) l.row l.found
    ≡ unifies_with (through (l.first ∷ [])) (drop l.i l.row) (drop l.i l.found)
