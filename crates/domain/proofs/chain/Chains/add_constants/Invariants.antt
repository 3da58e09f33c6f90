use lib.ListN.{take}
use Rattle.query.specs.Named.{constants_among}
use Rattle.domain.specs.Chains.{Chained, Added}
use Rattle.domain.proofs.chain.Chains.add_constants.Given as goal

abbrev pub invariant-loop-word : goal.invariant-loop-word
invariant-loop-word l =
    Chained l.self.heads l.list l.self.count × Added l.initial.list l.initial.self.count (constants_among (take l.word-index l.words)) l.list l.self.count
