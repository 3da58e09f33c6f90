-- `lookup::probe::limit` meets its contract, on each path through the tests. Assumes nothing.
use borrow.Author.Tests.{lt-ltb, le-ltb}
use Rattle.lookup.specs.Passing.{limit_of}
use Rattle.lookup.proofs.probe.limit.Goals as goal

pub returns-then-possible : goal.returns-then-possible
unfolding limit_of
returns-then-possible c = simp c.if-possible.true

pub returns-then-cell-lt-CONSTANTS : goal.returns-then-cell-lt-CONSTANTS
unfolding limit_of
returns-then-cell-lt-CONSTANTS c = simp (c.if-possible.false, lt-ltb _ _ c.if-cell-lt-CONSTANTS.true)

pub returns : goal.returns
unfolding limit_of
returns c = simp (c.if-possible.false, le-ltb _ _ c.if-cell-lt-CONSTANTS.false)
