use Prim.Native.Nat.{◌-◌, ◌*◌, ◌≤◌}
use mathlib.Core.Path.{◌≡◌}
use lib.ListN.{length, drop}
use Rattle.calculus.specs.Cell.{nulls}
use Rattle.decode.specs.Measure.{read_written, measured_fields}
use Rattle.decode.proofs.Fields.{raised}
use Rattle.decode.proofs.measure.measure_fields.Given as goal

abbrev pub invariant-loop-i : goal.invariant-loop-i
invariant-loop-i l =
    (3 * l.i ≤ length l.bytes)
    × (l.highest ≤ nulls)
    × (measured_fields (read_written l.written l.bytes) ≡ raised l.highest (measured_fields (read_written (l.written - l.i) (drop (3 * l.i) l.bytes))))
