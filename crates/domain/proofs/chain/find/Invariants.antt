use Rattle.domain.specs.Chains.{Chain}
use Rattle.domain.proofs.chain.find.Given as goal

abbrev pub invariant-loop-place : goal.invariant-loop-place
invariant-loop-place l = Chain l.list l.cell l.head l.place

abbrev pub decreases-loop-place : goal.decreases-loop-place
decreases-loop-place l = l.place
