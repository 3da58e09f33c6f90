use Prim.Native.Nat.{◌+◌, ◌-◌, ◌^◌, ◌<◌}
use mathlib.Core.Path.{◌≡◌}
use lib.ListN.{drop}
use Rattle.parse.specs.Number.{read_digits, read_number}
use Rattle.parse.proofs.number.number.Given as goal

abbrev pub invariant-loop-i : goal.invariant-loop-i
invariant-loop-i l =
    (l.number < 256 ^ l.i)
    × (read_number l.width (drop l.at l.bytes) ≡ read_digits l.number (l.width - l.i) (drop (l.at + l.i) l.bytes))
