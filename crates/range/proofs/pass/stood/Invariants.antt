use Prim.Native.Nat.{◌+◌}
use mathlib.Core.Path.{◌≡◌}
use lib.ListN.{drop}
use Rattle.calculus.specs.Listed.{listed}
use Rattle.known.specs.Known.{unpassed}
use Rattle.range.proofs.pass.stood.Given as goal

abbrev pub invariant-loop-j : goal.invariant-loop-j
invariant-loop-j l = listed l.cell (unpassed l.known l.first l.words) ≡ listed l.cell (unpassed l.known (l.first + l.j) (drop l.j l.words))
