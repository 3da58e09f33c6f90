-- `range::pass::stood` meets its contract: the cell is among all words exactly if it is among those from place j on. Assumes nothing.
use mathlib.Core.Path.{sym, ◌∙◌}
use borrow.Author.Tests.{not-true, not-false}
use Rattle.range.proofs.Places.{scan_here, scan_other, scan_passed, scan_end}
use Rattle.range.proofs.pass.stood.Goals as goal
use Rattle.range.proofs.pass.stood.Goals.{In-loop-j, Start, else-word-cell-via-else-word-cell, else-word-cell-via-then-word-cell+else-not-passed}

pub returns-then-not-passed : goal.returns-then-not-passed
returns-then-not-passed c =
    let l = (goal.at.returns-then-not-passed c).In-loop-j in
    let clear = sym c.passed.ensures ∙ not-true _ c.if-not-passed.true-raw in
    sym (c.loop-j.invariant ∙ scan_here _ _ _ _ _ c.loop-j-test.true c.if-word-cell.true clear)

pub loop-j-preserved : goal.loop-j-preserved
loop-j-preserved c =
    c.loop-j.invariant ∙
    (elim c.else-word-cell.branch [
      | else-word-cell-via-then-word-cell+else-not-passed w ↦ scan_passed _ _ _ _ _ c.loop-j-test.true (sym w.passed.ensures ∙ not-false _ w.if-not-passed.false-raw)
      | else-word-cell-via-else-word-cell w ↦ scan_other _ _ _ _ _ c.loop-j-test.true w.if-word-cell.false
    ])

pub returns : goal.returns
returns c = sym (c.loop-j.invariant ∙ scan_end _ _ _ _ _ c.loop-j-test.false)
