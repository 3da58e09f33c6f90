-- `query::inked::terms_start` meets its contract. Assumes nothing.
use mathlib.Core.Path.{refl, sym, ◌∙◌}
use mathlib.Core.List.{[]}
use native.Mathlib.Omega.{arith}
use Rattle.query.specs.Words.{word_at}
use Rattle.query.proofs.KindTerms.{kind_one, other-kind, first_word}
use Rattle.query.proofs.inked.terms_start.Goals as goal

pub returns-then-query-node-eq1 : goal.returns-then-query-node-eq1
returns-then-query-node-eq1 c =
    let a = c.args in
    rw (kind_one (word_at a.query.now a.node 0) (first_word a.query.now a.node ∙ c.if-query-node-eq1.true)) refl

pub returns : goal.returns
returns c =
    let a = c.args in
    omega (arith, (other-kind [] a.query.now a.node (word_at a.query.now a.node 0) (λ e. c.if-query-node-eq1.false (sym (first_word a.query.now a.node) ∙ e))).0)
