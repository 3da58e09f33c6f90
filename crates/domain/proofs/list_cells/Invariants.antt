use Prim.Native.Nat.{◌≤◌, ◌-◌}
use lib.ListN.{length, drop}
use Rattle.calculus.specs.Row.{cells_of}
use Rattle.instance.specs.Rows.{rows_from}
use Rattle.instance.proofs.Walk.{WalkIn}
use Rattle.domain.specs.Chains.{Chained}
use Rattle.domain.proofs.Listing.{Naming}
use Rattle.domain.proofs.list_cells.Given as goal

abbrev pub invariant-loop-i : goal.invariant-loop-i
invariant-loop-i l =
    WalkIn l.arities l.words l.i × (l.chains.count ≤ l.i) × Chained l.chains.heads l.buffer l.chains.count
    × Naming (cells_of (rows_from l.arities 0 l.words)) l.initial.buffer 0 l.buffer l.chains.count (cells_of (rows_from l.arities 0 (drop l.i l.words)))

abbrev pub decreases-loop-i : goal.decreases-loop-i
decreases-loop-i l = length l.words - l.i
