use Prim.Native.Nat.{◌≤◌, ◌<◌, ◌-◌}
use mathlib.Core.Path.{◌≡◌}
use lib.ListN.{length, drop}
use Rattle.instance.specs.Header.{arity_of}
use Rattle.instance.specs.Rows.{rows_from}
use Rattle.instance.specs.RowCounts.{row_counts, sum_of}
use Rattle.instance.specs.Sound.{scanned_words}
use Rattle.instance.proofs.ScanSteps.{scan_from}
use Rattle.instance.proofs.RowCounts.{RowsCounted}
use Rattle.calculus.specs.Closed.{identical}
use Rattle.instance.proofs.scan.scan_words.Given as goal

abbrev pub invariant-loop-i : goal.invariant-loop-i
invariant-loop-i l =
    (l.i ≤ length l.words) × (sum_of l.found ≤ l.i) ×
    (scanned_words l.relations l.arities l.counts l.words ≡ scan_from l.relations l.arities (identical l.counts (row_counts (rows_from l.arities 0 l.words))) (sum_of l.found) 0 (drop l.i l.words)) ×
    RowsCounted (rows_from l.arities 0 l.words) (rows_from l.arities 0 (drop l.i l.words)) l.found × (l.relation < l.relations) × (l.arity ≡ arity_of l.arities l.relation)

abbrev pub decreases-loop-i : goal.decreases-loop-i
decreases-loop-i l = length l.words - l.i
