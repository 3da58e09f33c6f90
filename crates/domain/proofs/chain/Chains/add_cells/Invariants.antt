use lib.ListN.{take}
use Rattle.domain.specs.Chains.{Chained, Added}
use Rattle.domain.proofs.chain.Chains.add_cells.Given as goal

abbrev pub invariant-loop-cell : goal.invariant-loop-cell
invariant-loop-cell l =
    Chained l.self.heads l.list l.self.count × Added l.initial.list l.initial.self.count (take l.cell-index l.cells) l.list l.self.count
