use Prim.Native.Nat.{◌≤◌, ◌+◌}
use mathlib.Core.Path.{◌≡◌}
use lib.ListN.{length, drop}
use Rattle.lookup.specs.Matching.{alike}
use Rattle.lookup.specs.Place.{cells_at}
use Rattle.lookup.proofs.row.alike.Given as goal

abbrev pub invariant-loop-i : goal.invariant-loop-i
invariant-loop-i l =
    (l.i ≤ length l.row) × (alike l.row (cells_at l.words l.place (length l.row)) ≡ l.i + alike (drop l.i l.row) (drop l.i (cells_at l.words l.place (length l.row))))
