-- `answer::admit::admit` meets its contract: the scan, the length and the check give the refusals. Assumes nothing.
use mathlib.Core.Path.{◌≡◌, sym, ap, ◌∙◌}
use mathlib.Core.Bool.{true}
use native.Mathlib.Omega.{arith}
use Rattle.std.specs.Prelude.{Ok, Err}
use Rattle.std.proofs.lemmas.Result.{err_from_is_err_and}
use Rattle.instance.specs.Sound.{sound}
use Rattle.instance.proofs.Sound.{scanned-sound, scanned-rows, sound_gives}
use Rattle.answer.proofs.Admitted.{unsound_refused, length_refused, check_refused, check_passed}
use Rattle.answer.proofs.admit.admit.Goals as goal
use Rattle.answer.proofs.admit.admit.Goals.{In_ok-rows}

-- what the scan's result says
is_sound : (c : In_ok-rows) → sound c.args.header c.args.instance.now ≡ true
is_sound c = scanned-sound _ _ _ (sym c.scan.ensures.answer ∙ c.in_ok-rows.was)

pub returns-in_err-rows : goal.returns-in_err-rows
returns-in_err-rows c =
    let p = err_from_is_err_and c.from_residual.result c.from_residual.ensures.1 in
    rw (p.1, p.2) (sym (unsound_refused _ _ _ _ _ (sym c.scan.ensures.answer ∙ c.in_err-rows.was)))

pub returns-then-not-right_length : goal.returns-then-not-right_length
returns-then-not-right_length c =
    let e = is_sound (goal.at.returns-then-not-right_length c).In_ok-rows in
    sym (length_refused _ _ _ _ e (sym c.right_length.ensures ∙ c.if-not-right_length.true))

pub check-requires : goal.check-requires
check-requires c =
    let e = is_sound (goal.at.check-requires c).In_ok-rows in
    record { well_formed = (sound_gives _ _ e).well_formed.header; right = sym c.right_length.ensures ∙ c.if-not-right_length.false }

pub returns-in_err-check : goal.returns-in_err-check
returns-in_err-check c =
    let e = is_sound (goal.at.returns-in_err-check c).In_ok-rows in
    let l = sym c.right_length.ensures ∙ c.if-not-right_length.false in
    let p = err_from_is_err_and c.from_residual-in_err-check.result c.from_residual-in_err-check.ensures.1 in
    let was : c.check.result ≡ Err c.in_err-check.field-0.0 = grind arith in
    rw (p.1, p.2) (sym (check_refused _ _ _ _ e l _ (sym c.check.ensures.answer ∙ was)))

pub returns : goal.returns
returns c =
    let e = is_sound (goal.at.returns c).In_ok-rows in
    let l = sym c.right_length.ensures ∙ c.if-not-right_length.false in
    let n = scanned-rows _ _ _ (sym c.scan.ensures.answer ∙ c.in_ok-rows.was) in
    let was : c.check.result ≡ Ok tt = grind arith in
    ap Ok (sym n) ∙ sym (check_passed _ _ _ _ e l (sym c.check.ensures.answer ∙ was))
