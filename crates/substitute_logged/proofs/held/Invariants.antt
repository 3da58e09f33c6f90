use Prim.Native.Nat.{◌≤◌, ◌+◌}
use mathlib.Core.Path.{◌≡◌}
use lib.ListN.{drop}
use Rattle.calculus.specs.Fill.{count_of}
use Rattle.substitute_logged.proofs.held.Given as goal

abbrev pub invariant-loop-word : goal.invariant-loop-word
invariant-loop-word l = (l.count ≤ l.word-index) × (l.count + count_of l.null (drop l.word-index l.words) ≡ count_of l.null l.words)
