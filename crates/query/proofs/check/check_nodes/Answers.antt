-- `query::check::check_nodes` meets its contract: the nodes from `number` decide. Assumes nothing.
use Prim.Native.Nat.{◌+◌, ◌-◌}
use mathlib.Core.Path.{◌≡◌, refl, ◌∙◌}
use native.Mathlib.Omega.{arith}
use borrow.Author.Rules.{rules}
use Rattle.std.specs.Prelude.{Ok, Err}
use Rattle.query.specs.Words.{node_count}
use Rattle.query.specs.Check.{Checked, check_node, check_nodes}
use Rattle.calculus.specs.Reading.{and_then}
use Rattle.query.proofs.Steps.{nodes_rest, answers-passed, answers-refused}
use Rattle.query.proofs.check.check_nodes.Goals as goal
use Rattle.query.proofs.check.check_nodes.Goals.{After-check_node}

-- the node, and the nodes after it
module _ (c : After-check_node) where
  abbrev check : Checked
  check = check_node c.args.header.now.relations c.args.header.now.arities c.args.query.now c.loop-number.number c.loop-number.scopes

  seen : check_nodes c.args.header.now.relations c.args.header.now.arities c.args.query.now 0 (node_count c.args.query.now) c.args.scopes.now
      ≡ and_then check
      (λ first. check_nodes c.args.header.now.relations c.args.header.now.arities c.args.query.now (c.loop-number.number + 1) (node_count c.args.query.now - (c.loop-number.number + 1)))
  seen = c.loop-number.invariant ∙ nodes_rest _ _ c.args.query.now (node_count c.args.query.now) c.loop-number.number c.loop-number.scopes c.loop-number-test.true

pub returns-in_err-check_node : goal.returns-in_err-check_node
returns-in_err-check_node c =
    let d = (goal.at.returns-in_err-check_node c).After-check_node in
    let was : c.check_node.result ≡ Err c.in_err-check_node.field-0.0 = search rules in
    let back : c.from_residual.result ≡ Err c.in_err-check_node.field-0.0 = search rules in
    let e = rw was at c.check_node.ensures in
    rw (seen d, answers-refused (check d) _ _ e) back

pub loop-number-preserved : goal.loop-number-preserved
loop-number-preserved c =
    let d = (goal.at.loop-number-preserved c).After-check_node in
    let was : c.check_node.result ≡ Ok tt = grind arith in
    let e = rw was at c.check_node.ensures in
    seen d ∙ rw (answers-passed (check d) c.check_node.new.scopes e) refl

pub returns : goal.returns
unfolding check_nodes
returns c =
    let e : node_count c.args.query.now - c.loop-number.number ≡ 0 = omega arith in
    rw (c.loop-number.invariant, e) (refl, refl)
