-- `substitute::test_fill` meets its contract: each refusal fails one demand of the definition. Assumes nothing.
use mathlib.Core.Path.{◌≡◌, sym, ◌∙◌}
use mathlib.Core.Bool.{true, false}
use native.Mathlib.Omega.{arith}
use Rattle.std.proofs.lemmas.Result.{err_from_is_err_and}
use Rattle.calculus.specs.Cell.{is_cell, is_mark}
use Rattle.instance.specs.Sound.{sound}
use Rattle.instance.specs.Substitute.{fillable}
use Rattle.instance.proofs.Sound.{scanned-sound, scan_refused}
use Rattle.substitute.proofs.test_fill.Goals as goal
use Rattle.substitute.proofs.test_fill.Goals.{In_ok-scan}

-- what the scan's result says
is_sound : (c : In_ok-scan) → sound c.args.header c.args.instance.now ≡ true
is_sound c = scanned-sound _ _ _ (sym c.scan.ensures.answer ∙ c.in_ok-scan.was)

pub returns-in_err-scan : goal.returns-in_err-scan
unfolding fillable
returns-in_err-scan c =
    let p = err_from_is_err_and c.from_residual.result c.from_residual.ensures.1 in
    rw (p.1, p.2) (sym (scan_refused _ _ _ _ (sym c.scan.ensures.answer ∙ c.in_err-scan.was)))

pub returns-then-not-is_mark : goal.returns-then-not-is_mark
unfolding fillable
returns-then-not-is_mark c =
    let e = is_sound (goal.at.returns-then-not-is_mark c).In_ok-scan in
    let m : is_mark c.args.mark ≡ false = grind arith in
    simp (e, m)

pub returns-then-not-is_cell : goal.returns-then-not-is_cell
unfolding fillable
returns-then-not-is_cell c =
    let e = is_sound (goal.at.returns-then-not-is_cell c).In_ok-scan in
    let m : is_mark c.args.mark ≡ true = grind arith in
    let f : is_cell c.args.cell ≡ false = sym c.is_cell.ensures ∙ c.if-not-is_cell.true in
    simp (e, m, f)

pub returns : goal.returns
unfolding fillable
returns c =
    let e = is_sound (goal.at.returns c).In_ok-scan in
    let m : is_mark c.args.mark ≡ true = grind arith in
    let f : is_cell c.args.cell ≡ true = sym c.is_cell.ensures ∙ c.if-not-is_cell.false in
    simp (e, m, f)
