use Prim.Native.Nat.{ℕ, suc, ◌-◌, ◌+◌}
use mathlib.Core.Path.{◌≡◌}
use mathlib.Core.Bool.{Bool}
use mathlib.Core.List.{List}
use lib.ListN.{length, get_or, drop}
use Rattle.calculus.specs.Closed.{tuples}
use Rattle.instance.specs.Header.{arity_of}
use Rattle.instance.specs.Rows.{rows_from}
use Rattle.known.specs.Known.{arities_in}
use Rattle.lookup.specs.Passing.{RowsLeft, words_passed}
use Rattle.lookup.proofs.rows.next_row.Given as goal

abbrev pub invariant-loop-w : goal.invariant-loop-w
invariant-loop-w l =
    RowsLeft (arities_in l.known) l.words l.relation l.i 1
    × (tuples l.relation (rows_from (arities_in l.known) 0 (drop l.i l.words)) ≡ tuples l.relation (rows_from (arities_in l.known) 0 (drop l.place l.words)))
    × (l.w ≡ get_or l.words l.i 0)
    × ((l.other ≡ l.relation → ⊥) → l.step ≡ 1 + arity_of (arities_in l.known) l.other)
    × ((test : List ℕ → Bool) (n : ℕ) → l.i + words_passed test l.relation (suc n) (rows_from (arities_in l.known) 0 (drop l.i l.words))
    ≡ l.place + words_passed test l.relation (suc n) (rows_from (arities_in l.known) 0 (drop l.place l.words)))

abbrev pub decreases-loop-w : goal.decreases-loop-w
decreases-loop-w l = length l.words - l.i
