-- `calculus::cell::is_cell` meets its contract: on each path through the tests, the result computes to the definition. Assumes nothing.
use borrow.Author.Tests.{lt-ltb, le-ltb}
use Rattle.calculus.specs.Cell.{is_cell}
use Rattle.calculus.proofs.cell.is_cell.Goals as goal

pub returns-then-c-lt-CONSTANTS : goal.returns-then-c-lt-CONSTANTS
unfolding is_cell
returns-then-c-lt-CONSTANTS c = simp (lt-ltb _ _ c.if-c-lt-CONSTANTS.true)

pub returns-then-c-gt-CONSTANTS : goal.returns-then-c-gt-CONSTANTS
unfolding is_cell
returns-then-c-gt-CONSTANTS c = simp (le-ltb _ _ c.if-c-lt-CONSTANTS.false, lt-ltb _ _ c.if-c-gt-CONSTANTS.true)

pub returns-else-c-gt-CONSTANTS : goal.returns-else-c-gt-CONSTANTS
unfolding is_cell
returns-else-c-gt-CONSTANTS c = simp (le-ltb _ _ c.if-c-lt-CONSTANTS.false, le-ltb _ _ c.if-c-gt-CONSTANTS.false)
