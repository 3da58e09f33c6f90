-- `evaluate::terms::same` meets its contract, on each path through the tests. Assumes nothing.
use borrow.Author.Tests.{eq-eqb, ne_eqb, lt-ltb, le-ltb}
use Rattle.calculus.specs.Closed.{equality}
use Rattle.evaluate.proofs.terms.same.Goals as goal
use Rattle.evaluate.proofs.terms.same.Goals.{then-a-ge-CONSTANTS-via-then-a-ge-CONSTANTS, then-a-ge-CONSTANTS-via-else-a-ge-CONSTANTS+then-b-ge-CONSTANTS}

pub returns-then-a-b : goal.returns-then-a-b
unfolding equality
returns-then-a-b c = simp (eq-eqb _ _ c.if-a-b.true)

pub returns-then-a-ge-CONSTANTS : goal.returns-then-a-ge-CONSTANTS
unfolding equality
returns-then-a-ge-CONSTANTS c =
    elim c.then-a-ge-CONSTANTS.branch [
      | then-a-ge-CONSTANTS-via-then-a-ge-CONSTANTS w ↦ simp (ne_eqb _ _ c.if-a-b.false, le-ltb _ _ w.if-a-ge-CONSTANTS.true)
      | then-a-ge-CONSTANTS-via-else-a-ge-CONSTANTS+then-b-ge-CONSTANTS w ↦ simp (ne_eqb _ _ c.if-a-b.false, lt-ltb _ _ w.if-a-ge-CONSTANTS.false, le-ltb _ _ w.if-b-ge-CONSTANTS.true)
    ]

pub returns : goal.returns
unfolding equality
returns c = simp (ne_eqb _ _ c.if-a-b.false, lt-ltb _ _ c.if-a-ge-CONSTANTS.false, lt-ltb _ _ c.if-b-ge-CONSTANTS.false)
