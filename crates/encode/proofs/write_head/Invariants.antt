use Prim.Native.Nat.{ℕ, ◌+◌, ◌/◌, ◌%◌}
use mathlib.Core.List.{List, [], ◌∷◌, ◌++◌}
use lib.ListN.{take, drop}
use Rattle.calculus.proofs.Stores.{Written}
use Rattle.encode.proofs.write_head.Given as goal

-- the number of rows, and the whole head
abbrev pub counted : ℕ → List ℕ
counted count = count / 256 % 256 ∷ count % 256 ∷ []

abbrev pub whole : ℕ → List ℕ → ℕ → List ℕ
whole n ars count = n ∷ take n ars ++ counted count

abbrev pub invariant-loop-i : goal.invariant-loop-i
invariant-loop-i l =
    Written (whole l.header.relations l.header.arities l.count) (drop l.i (take l.header.relations l.header.arities) ++ counted l.count) l.initial.out l.out (l.i + 1)
