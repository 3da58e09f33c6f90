-- `query::node::check_child` meets its contract: each test is one part of the definition's. Assumes nothing.
use mathlib.Core.Path.{refl}
use borrow.Author.Tests.{lt-ltb, le-ltb}
use Rattle.query.specs.Check.{check_child}
use Rattle.query.proofs.node.check_child.Goals as goal
use Rattle.query.proofs.node.check_child.Goals.{then-at-node-via-then-at-node, then-at-node-via-else-at-node+then-count-at, then-at-node-via-else-at-node+else-count-at+then-scopes-at}

pub returns-then-at-node : goal.returns-then-at-node
unfolding check_child
returns-then-at-node c = elim c.then-at-node.branch [
  | then-at-node-via-then-at-node w ↦ simp (le-ltb _ _ w.if-at-node.true) refl
  | then-at-node-via-else-at-node+then-count-at w ↦
      simp (lt-ltb _ _ w.if-at-node.false, ← w.count.ensures, le-ltb _ _ w.if-count-at.true) refl
  | then-at-node-via-else-at-node+else-count-at+then-scopes-at w ↦
      simp (lt-ltb _ _ w.if-at-node.false, ← w.count.ensures, lt-ltb _ _ w.if-count-at.false, w.if-scopes-at.true) refl
]

pub returns : goal.returns
unfolding check_child
returns c = simp (lt-ltb _ _ c.if-at-node.false, ← c.count.ensures, lt-ltb _ _ c.if-count-at.false, c.if-scopes-at.false) (refl, c.name.ensures)
