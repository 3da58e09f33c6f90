-- `decode::measure::measure` meets its contract. The loop's invariant: the answer for all records is the answer for those that are left, with what was
-- counted so far added. Assumes nothing.
use Prim.Native.Nat.{ℕ, ◌+◌, ◌-◌, max}
use mathlib.Core.Path.{◌≡◌, sym, ◌∙◌}
use mathlib.Core.List.{List}
use native.Mathlib.Nat.{sub-zero}
use native.Mathlib.Omega.{arith}
use lib.ListN.{length, take, drop}
use Rattle.std.specs.Prelude.{Result}
use Rattle.std.proofs.lemmas.Result.{err_from_is_err_and}
use Rattle.calculus.specs.declared.refusal.Refusal.{Refusal}
use Rattle.card.specs.Format.{read_record}
use Rattle.instance.proofs.Parts.{part_to_end}
use Rattle.decode.specs.declared.measure.Measured.{Measured}
use Rattle.decode.specs.Measure.{measured_record}
use Rattle.decode.proofs.Told.{records-told}
use Rattle.decode.proofs.Measuring.{Measuring, Turn, next-turn, measuring_starts, measuring_refused, measuring_ends}
use Rattle.decode.proofs.measure.measure.Goals as goal
use Rattle.decode.proofs.measure.measure.Goals.{In_ok-measured}

by_answer_told : {A B : Type 0} → A × B → record { answer : A; told : B }
by_answer_told p = record { answer = p.0; told = p.1 }

pub loop-row-init : goal.loop-row-init
loop-row-init c = rw (sub-zero c.args.head.now.rows) (measuring_starts _ _ _ _ _ c.requires.within)

-- the result for the record at index `at`
measured_here : (card : List ℕ) (at n : ℕ) (ars : List ℕ) (r : Result Measured Refusal) → r ≡ measured_record (read_record n ars (take (length card - at) (drop at card)))
    → measured_record (read_record n ars (drop at card)) ≡ r
measured_here card at n ars r known = sym (known ∙ rw (part_to_end card at))

module _ (c : In_ok-measured) where
  here :
      let args = c.args in
      let l = c.loop-row in
      Turn args.card.now args.start args.head.now.relations args.head.now.arities args.head.now.rows l.total.words l.total.blanks l.total.highest l.total.end
      (args.head.now.rows - l._row) c.in_ok-measured.measured.arity c.in_ok-measured.measured.written c.in_ok-measured.measured.highest
  here =
      next-turn _ _ _ _ _ _ _ _ _ _ c.loop-row.invariant (omega arith) _ _ _ c.requires.formed
      (measured_here c.args.card.now c.loop-row.total.end _ _ _ c.measure_record.ensures.answer ∙ c.in_ok-measured.was)

-- the highest null so far, however it was computed
with_top : {card ars : List ℕ} {start n count words blank at left : ℕ} (top h : ℕ) {highest : ℕ} → highest ≡ max top h
    → Measuring card start n ars count words blank (max top h) at left → Measuring card start n ars count words blank highest at left
with_top top h is m = rw is m

pub overflow_add-total : goal.overflow_add-total
overflow_add-total c = omega (arith, (here (goal.at.overflow_add-total c).In_ok-measured).narrow)

pub overflow_add-total-in-loop-row : goal.overflow_add-total-in-loop-row
overflow_add-total-in-loop-row c = omega (arith, (here (goal.at.overflow_add-total-in-loop-row c).In_ok-measured).words_fit, c.requires.counted)

pub overflow_sub-total : goal.overflow_sub-total
overflow_sub-total c = (here (goal.at.overflow_sub-total c).In_ok-measured).fewer

pub overflow_add-total-in-loop-row-2 : goal.overflow_add-total-in-loop-row-2
overflow_add-total-in-loop-row-2 c = omega (arith, (here (goal.at.overflow_add-total-in-loop-row-2 c).In_ok-measured).blanks_fit, c.requires.counted)

pub returns-in_err-measured : goal.returns-in_err-measured
returns-in_err-measured c =
    let p = err_from_is_err_and c.from_residual.result c.from_residual.ensures.1 in
    rw (p.1, p.2) (by_answer_told (records-told _ _
    (sym (measuring_refused _ _ _ _ _ _ _ _ _ _ c.loop-row.invariant (omega arith) _
    (measured_here c.args.card.now c.loop-row.total.end _ _ _ c.measure_record.ensures.answer ∙ c.in_err-measured.was)))))

pub loop-row-preserved : goal.loop-row-preserved
loop-row-preserved c =
    let left : c.args.head.now.rows - c.loop-row._row - 1 ≡ c.args.head.now.rows - (c.loop-row._row + 1) = omega arith in
    with_top c.loop-row.total.highest c.in_ok-measured.measured.highest (omega arith) (rw left at (here (goal.at.loop-row-preserved c).In_ok-measured).then)

pub returns : goal.returns
returns c = by_answer_told (records-told _ _ (sym (measuring_ends _ _ _ _ _ _ _ _ _ _ c.loop-row.invariant (omega arith))))
