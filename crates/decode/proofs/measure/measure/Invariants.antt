use Prim.Native.Nat.{◌-◌}
use Rattle.decode.proofs.Measuring.{Measuring}
use Rattle.decode.proofs.measure.measure.Given as goal

abbrev pub invariant-loop-row : goal.invariant-loop-row
invariant-loop-row l =
    Measuring l.card l.start l.head.relations l.head.arities l.head.rows l.total.words l.total.blanks l.total.highest l.total.end (l.head.rows - l._row)
