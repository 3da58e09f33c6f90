-- `lookup::rows::next_row` meets its contract: the rows left at index i are those left at the start. Assumes nothing.
use Prim.Native.Nat.{ℕ, suc, ◌≤◌, ◌<◌, ◌+◌}
use mathlib.Core.Path.{◌≡◌, refl, sym, ap, ◌∙◌}
use mathlib.Core.Bool.{Bool}
use mathlib.Core.List.{List}
use native.Mathlib.Omega.{arith}
use lib.ListN.{length, get_or, drop}
use Rattle.calculus.specs.Closed.{tuples}
use Rattle.instance.specs.Header.{arity_of, max_relations}
use Rattle.instance.specs.Rows.{rows_from}
use Rattle.instance.proofs.Walk.{AtRow, relation-few}
use Rattle.known.specs.Known.{arities_in}
use Rattle.lookup.specs.Passing.{RowsLeft, words_passed}
use Rattle.lookup.proofs.Left.{words_left, row-left, other-same, other-left, other-words}
use Rattle.lookup.proofs.rows.next_row.Goals as goal
use Rattle.lookup.proofs.rows.next_row.Lts.View.{up-In-loop-w}
use Rattle.lookup.proofs.rows.next_row.Goals.{After-arity-step, In-loop-w, Joined-w-other, Start, else-w-other, then-w-other}

-- what stays true from index k to index j: the rows left, and where passing over leads
abbrev Onward : List ℕ → List ℕ → ℕ → ℕ → ℕ → Type 0
Onward ars ws relation k j =
    RowsLeft ars ws relation j 1
    × (tuples relation (rows_from ars 0 (drop j ws)) ≡ tuples relation (rows_from ars 0 (drop k ws)))
    × ((test : List ℕ → Bool) (m : ℕ) → j + words_passed test relation (suc m) (rows_from ars 0 (drop j ws))
    ≡ k + words_passed test relation (suc m) (rows_from ars 0 (drop k ws)))

-- past a row of another relation
passed_over :
    (ars ws : List ℕ) (relation k step : ℕ) → RowsLeft ars ws relation k 1 → (get_or ws k 0 ≡ relation → ⊥) → step ≡ 1 + arity_of ars (get_or ws k 0) →
    Onward ars ws relation k (k + step)
passed_over ars ws relation k step left ne e =
    rw e (other-left _ _ _ _ left (omega arith) ne, other-same _ _ _ _ left (omega arith) ne, other-words _ _ _ _ left (omega arith) ne)

pub offset_bounds-words-i : goal.offset_bounds-words-i
offset_bounds-words-i c = omega (arith, words_left _ _ _ _ c.requires (omega arith))

pub bounds-words-i : goal.bounds-words-i
bounds-words-i c = words_left _ _ _ _ c.requires (omega arith)

-- the row at index i, which is of another relation
module _ (c : In-loop-w) where
  abbrev start : Start
  start = c.before.before.before.before.before

  abbrev ars : List ℕ
  ars = arities_in start.args.known.now

  abbrev ws : List ℕ
  ws = start.args.words.now

  abbrev relation : ℕ
  relation = start.args.relation

  abbrev i : ℕ
  i = c.loop-w.i

  abbrev w : ℕ
  w = c.loop-w.w

  abbrev left : RowsLeft ars ws relation i 1
  left = c.loop-w.invariant.0

  is : w ≡ get_or ws i 0
  is = c.loop-w.invariant.2

  here : AtRow left.given.relations ars ws i
  here = row-left _ _ _ _ left (omega arith)

  few : w < max_relations
  few = rw is (relation-few _ ars ws _ left.given.well_formed here.relation)

  differs : get_or ws i 0 ≡ relation → ⊥
  differs e = c.loop-w-test.true (is ∙ e)

  -- the length of this row
  abbrev size : ℕ
  size = 1 + arity_of ars (get_or ws i 0)

  kept : (step : ℕ) → step ≡ size → Onward ars ws relation i (i + step)
  kept step e = passed_over ars ws relation i step left differs e

pub arity-step-requires : goal.arity-step-requires
arity-step-requires c = few (goal.at.arity-step-requires c).In-loop-w

-- the row's length was read
module _ (c : After-arity-step) where
  abbrev at_row : In-loop-w
  at_row = (up-In-loop-w _ _ _ _ _ _ c.before.before.before)

  row_ends : i at_row + (1 + c.arity-step.result) ≤ length (ws at_row)
  row_ends = omega (arith, (here at_row).next.within, c.arity-step.ensures, ap (arity_of (ars at_row)) (is at_row))

pub overflow_add-step : goal.overflow_add-step
overflow_add-step c = omega (arith, row_ends c)

-- the step that is taken is the length of this row, whether it was looked up here or before
module _ (c : Joined-w-other) where
  abbrev at : In-loop-w
  at = (up-In-loop-w _ _ _ _ _ _ c.before.before)

  abbrev other : ℕ
  other = c.if-w-other.other

  abbrev step : ℕ
  step = c.if-w-other.step

  known : (other ≡ w at) × (step ≡ 1 + arity_of (ars at) (w at))
  known =
      (elim c.if-w-other.branch [
        | then-w-other a ↦ (a.other-is, a.step-is ∙ ap (λ (k : ℕ). 1 + k) a.arity-step.ensures)
        | else-w-other a ↦ let same : w at ≡ at.loop-w.other = a.if-w-other.false in
            (a.other-is ∙ sym same, a.step-is ∙ at.loop-w.invariant.3 (λ f. at.loop-w-test.true (same ∙ f)) ∙ ap (λ (r : ℕ). 1 + arity_of (ars at) r) (sym same))
      ])

  other_differs : other ≡ relation at → ⊥
  other_differs e = at.loop-w-test.true (sym known.0 ∙ e)

  stepped : step ≡ 1 + arity_of (ars at) other
  stepped = known.1 ∙ ap (λ (r : ℕ). 1 + arity_of (ars at) r) (sym known.0)

  abbrev next : ℕ
  next = i at + step

  one : Onward (ars at) (ws at) (relation at) (i at) next
  one = kept at step (known.1 ∙ ap (λ (r : ℕ). 1 + arity_of (ars at) r) (is at))

  further : next < length (ws at)
  further = words_left _ _ _ _ one.0 (omega arith)

  -- the same once more, if the row after it is of the same relation
  module _ (again : get_or (ws at) next 0 ≡ other) where
    two : Onward (ars at) (ws at) (relation at) next (next + step)
    two =
        passed_over (ars at) (ws at) (relation at) next step one.0 (λ e. other_differs (sym again ∙ e))
        (stepped ∙ ap (λ (r : ℕ). 1 + arity_of (ars at) r) (sym again))

    further_two : next + step < length (ws at)
    further_two = words_left _ _ _ _ two.0 (omega arith)

pub overflow_add-i : goal.overflow_add-i
overflow_add-i c = omega (arith, further (goal.at.overflow_add-i c).Joined-w-other)

pub offset_bounds-words-i-in-loop-w : goal.offset_bounds-words-i-in-loop-w
offset_bounds-words-i-in-loop-w c = omega (arith, further (goal.at.offset_bounds-words-i-in-loop-w c).Joined-w-other)

pub bounds-words-i-in-loop-w : goal.bounds-words-i-in-loop-w
bounds-words-i-in-loop-w c = further (goal.at.bounds-words-i-in-loop-w c).Joined-w-other

pub overflow_add-i-then-w-other-2 : goal.overflow_add-i-then-w-other-2
overflow_add-i-then-w-other-2 c = omega (arith, further_two (goal.at.overflow_add-i-then-w-other-2 c).Joined-w-other c.if-w-other-2.true)

pub offset_bounds-words-i-then-w-other-2 : goal.offset_bounds-words-i-then-w-other-2
offset_bounds-words-i-then-w-other-2 c = omega (arith, further_two (goal.at.offset_bounds-words-i-then-w-other-2 c).Joined-w-other c.if-w-other-2.true)

pub bounds-words-i-then-w-other-2 : goal.bounds-words-i-then-w-other-2
bounds-words-i-then-w-other-2 c = further_two (goal.at.bounds-words-i-then-w-other-2 c).Joined-w-other c.if-w-other-2.true

pub loop-w-smaller-then-w-other-2 : goal.loop-w-smaller-then-w-other-2
loop-w-smaller-then-w-other-2 c = let j = (goal.at.loop-w-smaller-then-w-other-2 c).Joined-w-other in omega (arith, further_two j c.if-w-other-2.true, (known j).1)

pub loop-w-preserved-then-w-other-2 : goal.loop-w-preserved-then-w-other-2
loop-w-preserved-then-w-other-2 c =
    let j = (goal.at.loop-w-preserved-then-w-other-2 c).Joined-w-other in
    let t = two j c.if-w-other-2.true in
    (t.0, t.1 ∙ (one j).1 ∙ (at j).before.loop-w.invariant.1, refl, λ ne. stepped j, λ test n. t.2 test n ∙ (one j).2 test n ∙ (at j).before.loop-w.invariant.4 test n)

pub loop-w-preserved : goal.loop-w-preserved
loop-w-preserved c = let j = (goal.at.loop-w-preserved c).Joined-w-other in ((one j).0, (one j).1 ∙ (at j).before.loop-w.invariant.1, refl, λ ne. stepped j, λ test n. (one j).2 test n ∙ (at j).before.loop-w.invariant.4 test n)

pub returns : goal.returns
returns c =
    let inv = c.loop-w.invariant in record {
      here = sym inv.2 ∙ c.loop-w-test.false;
      rows = inv.1;
      left = inv.0;
      place = inv.4;
    }
