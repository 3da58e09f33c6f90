use Prim.Native.Nat.{◌≤◌, ◌+◌}
use mathlib.Core.Path.{◌≡◌}
use lib.ListN.{take, drop}
use Rattle.calculus.specs.Closed.{stands, examined, tuples}
use Rattle.instance.specs.Rows.{rows_from}
use Rattle.known.specs.Known.{arities_in}
use Rattle.lookup.specs.Passing.{RowsLeft}
use Rattle.lookup.specs.Probe.{Probes}
use Rattle.lookup.proofs.Atom.{truth_from}
use Rattle.lookup.proofs.relation.stands.Given as goal

abbrev pub invariant-loop-more : goal.invariant-loop-more
invariant-loop-more l =
    RowsLeft (arities_in l.known) l.words l.relation l.i l.more
    × Probes l.possible l.asked l.probe
    × (stands (take l.most (tuples l.relation (rows_from (arities_in l.known) 0 l.words))) l.asked
    ≡ truth_from l.possible (take l.more (tuples l.relation (rows_from (arities_in l.known) 0 (drop l.i l.words)))) l.asked)
    × (l.more ≤ l.most)
    × (examined (take l.most (tuples l.relation (rows_from (arities_in l.known) 0 l.words))) l.asked + l.more
    ≡ l.most + examined (take l.more (tuples l.relation (rows_from (arities_in l.known) 0 (drop l.i l.words)))) l.asked)

abbrev pub decreases-loop-more : goal.decreases-loop-more
decreases-loop-more l = l.more
