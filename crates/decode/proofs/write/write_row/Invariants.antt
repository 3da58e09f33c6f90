use Rattle.decode.proofs.Written.{WritingRow}
use Rattle.decode.proofs.write.write_row.Given as goal

abbrev pub invariant-loop-column : goal.invariant-loop-column
invariant-loop-column l =
    WritingRow l.initial.part l.relation l.arity l.map l.fields l.next l.part l.bits l.null l.at l.column
