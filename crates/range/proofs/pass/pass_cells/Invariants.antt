use Rattle.instance.specs.InstanceWellFormed.{InstanceOf}
use Rattle.known.specs.Known.{arities_in}
use Rattle.range.proofs.Passing.{Passing}
use Rattle.range.proofs.pass.pass_cells.Given as goal

abbrev pub invariant-loop-i : goal.invariant-loop-i
invariant-loop-i l =
    (g : InstanceOf (arities_in l.initial.known) l.words) × Passing g.relations (arities_in l.initial.known) l.words l.initial.known l.known l.heads l.left l.i
