use Prim.Native.Nat.{◌-◌}
use lib.ListN.{length, drop}
use Rattle.calculus.proofs.Stores.{Written}
use Rattle.instance.specs.Header.{max_relations}
use Rattle.instance.specs.Rows.{rows_from}
use Rattle.instance.proofs.Walk.{Walk}
use Rattle.card.specs.Encode.{records_bytes}
use Rattle.encode.proofs.write_records.Given as goal

abbrev pub invariant-loop-i : goal.invariant-loop-i
invariant-loop-i l =
    Walk max_relations l.arities l.words l.i
    × Written (records_bytes (rows_from l.arities 0 l.words)) (records_bytes (rows_from l.arities 0 (drop l.i l.words))) l.initial.out l.out l.at

abbrev pub decreases-loop-i : goal.decreases-loop-i
decreases-loop-i l = length l.words - l.i
