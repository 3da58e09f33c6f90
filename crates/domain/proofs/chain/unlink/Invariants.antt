use mathlib.Core.Path.{◌≡◌}
use Rattle.instance.proofs.Passes.{upto}
use Rattle.domain.specs.Chains.{word_value}
use Rattle.domain.proofs.chain.unlink.Given as goal

abbrev pub invariant-loop-word : goal.invariant-loop-word
invariant-loop-word l = l.list ≡ upto word_value l.word-index l.initial.list
