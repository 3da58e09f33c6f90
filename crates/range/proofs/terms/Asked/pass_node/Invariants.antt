use Prim.Native.Nat.{◌-◌}
use lib.ListN.{take, drop}
use Rattle.query.specs.Named.{constants_among}
use Rattle.range.specs.Flagged.{Passed}
use Rattle.range.proofs.terms.Asked.pass_node.Given as goal

abbrev pub invariant-loop-place : goal.invariant-loop-place
invariant-loop-place l =
    Passed l.self.words.now l.self.terms.now.query.now l.initial.known l.first (constants_among (take (l.place-counter - l.start) (take (l.end - l.start) (drop l.start l.self.terms.now.query.now)))) l.known l.place-counter
