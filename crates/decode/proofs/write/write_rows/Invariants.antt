use Prim.Native.Nat.{◌-◌}
use Rattle.decode.proofs.WritingRows.{WritingRows}
use Rattle.decode.proofs.write.write_rows.Given as goal

abbrev pub invariant-loop-row : goal.invariant-loop-row
invariant-loop-row l =
    WritingRows l.initial.instance l.card l.head.relations l.head.arities l.head.rows l.next l.instance l.counts l.used l.null l.at (l.head.rows - l._row)
