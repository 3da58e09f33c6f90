use Rattle.substitute.proofs.Filling.{Filling}
use Rattle.substitute.proofs.replace.Given as goal

abbrev pub invariant-loop-word : goal.invariant-loop-word
invariant-loop-word l = Filling l.mark l.cell l.initial.word-items l.word-items l.count l.word-index
