-- `answer::top::answer_top` meets its contract: the top node has all nodes left. Assumes nothing.
use Prim.Native.Nat.{ℕ}
use mathlib.Core.Path.{◌≡◌, ap, sym, ◌∙◌}
use mathlib.Core.List.{List}
use native.Mathlib.Omega.{arith}
use Rattle.query.specs.Words.{node_count}
use Rattle.calculus.specs.Formula.{assignment}
use Rattle.evaluate.specs.Within.{within}
use Rattle.answer.specs.Ask.{evaluated_as}
use Rattle.answer.specs.Top.{outcome_in}
use Rattle.answer.proofs.top.answer_top.Goals as goal
use Rattle.answer.proofs.top.answer_top.Goals.{After-evaluate}

-- the outcome of the whole question within the budget
whole : (c : After-evaluate) → c.evaluate.result ≡ within c.args.budget (outcome_in c.args.asking.now (assignment c.args.candidate.now))
whole c =
    c.evaluate.ensures.right (node_count c.args.asking.now.query.now) (omega arith)
    ∙ ap (λ (e : List ℕ). within c.args.budget (outcome_in c.args.asking.now e)) c.assigned-env.ensures

pub returns-in-Verdict : goal.returns-in-Verdict
returns-in-Verdict c = ap evaluated_as (sym c.in-Verdict.is ∙ whole (goal.at.returns-in-Verdict c).After-evaluate)

pub returns-in-Spent : goal.returns-in-Spent
returns-in-Spent c = ap evaluated_as (sym c.in-Spent.is ∙ whole (goal.at.returns-in-Spent c).After-evaluate)
