use Rattle.decode.proofs.Opening.{OpeningArities}
use Rattle.decode.proofs.head.read_arities.Given as goal

abbrev pub invariant-loop-i : goal.invariant-loop-i
invariant-loop-i l = OpeningArities l.card l.relations l.arities l.i
