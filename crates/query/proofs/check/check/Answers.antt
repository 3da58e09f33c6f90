-- `query::check::check` meets its contract: 26 is tested first, and the nodes are checked with what is known at the top. Assumes nothing.
use mathlib.Core.Path.{refl, sym, ◌∙◌}
use borrow.Author.Tests.{le-leb, lt-leb}
use lib.ListN.{length}
use Rattle.query.specs.Words.{node_count}
use Rattle.query.specs.Scope.{at_the_top}
use Rattle.query.specs.Check.{check_nodes, check_query}
use Rattle.query.specs.Answers.{Answers}
use Rattle.query.proofs.Steps.{answers_as, number_as}
use Rattle.query.proofs.Passed.{count-within}
use Rattle.query.proofs.check.check.Goals as goal
use Rattle.query.proofs.check.check.Goals.{then-candidate-via-then-candidate, then-candidate-via-else-candidate+then-not-are_cells}

pub returns-then-candidate : goal.returns-then-candidate
unfolding check_query
returns-then-candidate c = elim c.then-candidate.branch [
  | then-candidate-via-then-candidate w ↦ simp (lt-leb _ _ w.if-candidate.true) (record { answer = refl; told = refl })
  | then-candidate-via-else-candidate+then-not-are_cells w ↦
      simp (le-leb _ _ w.if-candidate.false, sym w.are_cells.ensures ∙ w.if-not-are_cells.true) (record { answer = refl; told = refl })
]

pub check_nodes-requires-clause-few : goal.check_nodes-requires-clause-few
check_nodes-requires-clause-few c = (count-within _ c.requires.right).1

pub returns : goal.returns
unfolding check_query
returns c =
    let h = c.args.header.now in
    let qs = c.args.query.now in
    let nodes : Answers (check_nodes h.relations h.arities qs 0 (node_count qs) (at_the_top (length c.args.candidate.now))) c.check_nodes.result c.check_nodes.new.scopes =
    rw c.at_the_top.ensures at c.check_nodes.ensures in
    let answer = answers_as _ _ _ nodes in
    simp (le-leb _ _ c.if-candidate.false, sym c.are_cells.ensures ∙ c.if-not-are_cells.false)
    (record { answer = answer; told = number_as _ _ answer })
