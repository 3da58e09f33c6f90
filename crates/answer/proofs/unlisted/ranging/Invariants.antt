use mathlib.Core.Path.{◌≡◌}
use mathlib.Core.Bool.{false}
use Rattle.answer.specs.Ranging.{ranges_among}
use Rattle.answer.proofs.unlisted.ranging.Given as goal

abbrev pub invariant-loop-node : goal.invariant-loop-node
invariant-loop-node l = ranges_among l.query l.node ≡ false
