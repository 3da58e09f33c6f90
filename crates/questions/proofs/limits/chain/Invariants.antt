-- `questions::limits::chain` meets its contract: each node's words are within the question. Assumes nothing.
use mathlib.Core.Path.{◌≡◌}
use lib.ListN.{length}
use Rattle.questions.proofs.limits.chain.Given as goal

abbrev pub invariant-loop-i : goal.invariant-loop-i
invariant-loop-i l = length l.query ≡ 808
