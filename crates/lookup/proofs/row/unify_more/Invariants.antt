use Prim.Native.Nat.{◌+◌, ◌≤◌}
use mathlib.Core.Path.{◌≡◌}
use mathlib.Core.List.{[], ◌∷◌}
use lib.ListN.{take, drop}
use Rattle.calculus.specs.Unify.{unifies_with}
use Rattle.lookup.specs.Binding.{through}
use Rattle.lookup.proofs.row.unify_more.Given as goal

abbrev pub invariant-loop-i : goal.invariant-loop-i
invariant-loop-i l =
    (l.count ≤ l.i + 2)
    × (unifies_with (through (l.fn.first ∷ l.fn.second ∷ [])) l.row l.found
    ≡ unifies_with (through (take l.count l.bindings)) (drop l.i l.row) (drop l.i l.found))
