use Prim.Native.Nat.{◌+◌, ◌*◌}
use Rattle.parse.proofs.Filling.{Filling}
use Rattle.parse.proofs.number.numbers.Given as goal

abbrev pub invariant-loop-i : goal.invariant-loop-i
invariant-loop-i l = Filling l.width l.count l.at l.bytes l.initial.place-items l.place-items (l.at + l.i * l.width) l.i
