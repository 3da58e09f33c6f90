-- `query::words::Node::rest_is_zero` meets its contract: the words after the first `from` are tested. Assumes nothing.
use Prim.Native.Nat.{ℕ}
use mathlib.Core.Path.{ap, ◌∙◌}
use mathlib.Core.List.{List}
use native.Mathlib.Omega.{arith}
use borrow.Author.Rules.{rules}
use lib.Dec.{eqb}
use Rattle.std.specs.List.{list_all}
use Rattle.std.proofs.lemmas.Iterator.{YieldsList-from_slice}
use Rattle.std.proofs.lemmas.Iterator.Search.{all_from_yields_List}
use Rattle.query.specs.Check.{zeros_from}
use Rattle.query.proofs.Steps.{zeros_among}
use Rattle.query.proofs.words.Node.rest_is_zero.Goals as goal

pub returns : goal.returns
returns c =
    let node = c.args.self.now in
    all_from_yields_List (λ w. eqb w 0) _ _ _ c.all.ensures.ran (YieldsList-from_slice c.words.result.now cc) (λ x b q k. search rules)
    ∙ ap (λ (ws : List ℕ). list_all (λ w. eqb w 0) ws) c.words.ensures
    ∙ zeros_among node.query.now node.number c.args.from _ (omega (arith, node.whole))
    ∙ ap (λ (k : ℕ). zeros_from node.query.now node.number c.args.from k) (omega arith)
