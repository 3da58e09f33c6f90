use Prim.Native.Nat.{◌+◌}
use mathlib.Core.Path.{◌≡◌}
use lib.ListN.{take, drop}
use Rattle.calculus.specs.Closed.{tuples}
use Rattle.instance.specs.Rows.{rows_from}
use Rattle.known.specs.Known.{arities_in}
use Rattle.lookup.specs.Passing.{RowsLeft, told_apart, passing, words_passed}
use Rattle.lookup.proofs.rows.next_near.Given as goal

abbrev pub invariant-loop-more : goal.invariant-loop-more
invariant-loop-more l =
    RowsLeft (arities_in l.known) l.words l.relation l.i l.more
    × (passing (told_apart l.column l.asked l.limit) (take l.more (tuples l.relation (rows_from (arities_in l.known) 0 (drop l.i l.words))))
    ≡ passing (told_apart l.column l.asked l.limit) (take l.most (tuples l.relation (rows_from (arities_in l.known) 0 (drop l.place l.words)))))
    × (l.i + words_passed (told_apart l.column l.asked l.limit) l.relation l.more (rows_from (arities_in l.known) 0 (drop l.i l.words))
    ≡ l.place + words_passed (told_apart l.column l.asked l.limit) l.relation l.most (rows_from (arities_in l.known) 0 (drop l.place l.words)))

abbrev pub decreases-loop-more : goal.decreases-loop-more
decreases-loop-more l = l.more
