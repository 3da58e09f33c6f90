-- `domain::chain::unlink` meets its contract: the words before the index are their values, and those from it are as they were. Assumes nothing.
use Prim.Native.Nat.{ℕ}
use mathlib.Core.Path.{◌≡◌, sym, ap, ◌∙◌}
use mathlib.Core.List.{List}
use native.Mathlib.Omega.{arith}
use lib.ListN.{length, get_or, set}
use Rattle.instance.proofs.Passes.{upto, upto_none, upto_all, upto_here, upto_set}
use Rattle.domain.specs.Chains.{word_value}
use Rattle.domain.proofs.chain.unlink.Goals as goal

pub loop-word-init : goal.loop-word-init
loop-word-init c = sym (upto_none _ _)

pub loop-word-preserved : goal.loop-word-preserved
loop-word-preserved c =
    let b = c.loop-word in
    let was = c.args.list.now in
    let i = b.word-index in
    let here : get_or b.list i 0 ≡ get_or was i 0 = ap (λ (l : List ℕ). get_or l i 0) b.invariant ∙ upto_here word_value i was in
    ap (λ (l : List ℕ). set l i (word_value (get_or b.list i 0))) b.invariant ∙
    ap (λ (v : ℕ). set (upto word_value i was) i (word_value v)) here ∙ upto_set word_value i was (omega arith)

pub returns : goal.returns
returns c =
    let was = c.args.list.now in
    let e : c.loop-word.word-index ≡ length was = omega arith in
    c.loop-word.invariant ∙ rw e (upto_all _ was)
