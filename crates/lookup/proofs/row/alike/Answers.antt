-- `lookup::row::alike` meets its contract: the columns before index i are alike. Assumes nothing.
use Prim.Native.Nat.{ℕ, ◌≤◌, ◌+◌}
use mathlib.Core.Path.{◌≡◌, ap₂, ◌∙◌}
use mathlib.Core.List.{List, ◌∷◌}
use native.Mathlib.Omega.{arith}
use lib.ListN.{length, get_or, drop}
use Rattle.lookup.specs.Matching.{alike}
use Rattle.lookup.specs.Place.{cells_at}
use Rattle.lookup.proofs.Columns.{cells-step, row-end}
use Rattle.lookup.proofs.Alike.{alike_end, alike_same, alike_differs}
use Rattle.calculus.proofs.Lists.{drop_step}
use Rattle.lookup.proofs.row.alike.Goals as goal
use Rattle.lookup.proofs.row.alike.Goals.{In-loop-i}

-- the column at index i
module _ (c : In-loop-i) where
  abbrev words : List ℕ
  words = c.args.words.now

  abbrev place : ℕ
  place = c.args.place

  abbrev row : List ℕ
  row = c.args.row.now

  abbrev i : ℕ
  i = c.loop-i.i

  abbrev cells : List ℕ
  cells = cells_at words place (length row)

  seen : alike row cells ≡ i + alike (get_or row i 0 ∷ drop (i + 1) row) (get_or words (place + 1 + i) 0 ∷ drop (i + 1) cells)
  seen =
      c.loop-i.invariant.1
      ∙ ap₂ (λ (xs ys : List ℕ). i + alike xs ys) (drop_step row i (omega arith)) (cells-step words place (length row) i (omega arith) (omega arith))

pub returns-then-row-i : goal.returns-then-row-i
returns-then-row-i c = let b = (goal.at.returns-then-row-i c).In-loop-i in omega (arith, seen b, alike_differs _ _ (drop (i b + 1) (row b)) (drop (i b + 1) (cells b)) c.if-row-i.true)

pub loop-i-preserved : goal.loop-i-preserved
loop-i-preserved c =
    let b = (goal.at.loop-i-preserved c).In-loop-i in
    (omega arith, omega (arith, seen b, alike_same _ _ (drop (i b + 1) (row b)) (drop (i b + 1) (cells b)) c.if-row-i.false))

pub returns : goal.returns
returns c =
    let a = c.args in
    let l : length a.row.now ≤ c.loop-i.i = omega arith in
    omega (arith, c.loop-i.invariant.1, alike_end (drop c.loop-i.i a.row.now) (drop c.loop-i.i (cells_at a.words.now a.place (length a.row.now))) (row-end a.row.now c.loop-i.i l))
