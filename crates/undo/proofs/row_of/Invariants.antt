use Prim.Native.Nat.{◌≤◌, ◌-◌}
use Rattle.undo.specs.RowStart.{RowStart}
use Rattle.undo.proofs.row_of.Given as goal

abbrev pub invariant-loop-relations : goal.invariant-loop-relations
invariant-loop-relations l = RowStart l.relations l.arities l.words l.row × (l.row ≤ l.place)

abbrev pub decreases-loop-relations : goal.decreases-loop-relations
decreases-loop-relations l = l.place - l.row
