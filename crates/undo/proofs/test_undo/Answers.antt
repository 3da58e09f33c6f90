-- `undo::test_undo` meets its contract: each refusal fails one demand of the definition. Assumes nothing.
use mathlib.Core.Path.{◌≡◌, sym, ◌∙◌}
use mathlib.Core.Bool.{true, false}
use native.Mathlib.Omega.{arith}
use borrow.Author.Tests.{le-ltb, lt-ltb}
use Rattle.std.proofs.lemmas.Result.{err_from_is_err_and}
use Rattle.instance.specs.Sound.{sound}
use Rattle.instance.proofs.Sound.{scanned-sound, scan_refused}
use Rattle.undo_log.specs.Log.{entry_well_formed, undone}
use Rattle.undo_log.proofs.Accepted.{entry_met}
use Rattle.undo.proofs.test_undo.Goals as goal
use Rattle.undo.proofs.test_undo.Goals.{In_ok-scan}

-- what the scan's result says
is_sound : (c : In_ok-scan) → sound c.args.header c.args.instance.now ≡ true
is_sound c = scanned-sound _ _ _ (sym c.scan.ensures.answer ∙ c.in_ok-scan.was)

pub returns-in_err-scan : goal.returns-in_err-scan
unfolding undone
returns-in_err-scan c =
    let p = err_from_is_err_and c.from_residual.result c.from_residual.ensures.1 in
    rw (p.1, p.2) (sym (scan_refused _ _ _ _ (sym c.scan.ensures.answer ∙ c.in_err-scan.was)))

pub returns-then-used-eq0 : goal.returns-then-used-eq0
unfolding undone
returns-then-used-eq0 c = simp (is_sound (goal.at.returns-then-used-eq0 c).In_ok-scan, le-ltb 0 c.args.used (omega arith))

pub entry_well_formed-requires : goal.entry_well_formed-requires
entry_well_formed-requires c = is_sound (goal.at.entry_well_formed-requires c).In_ok-scan

pub returns-then-not-entry_well_formed : goal.returns-then-not-entry_well_formed
unfolding undone
returns-then-not-entry_well_formed c =
    let e : entry_well_formed _ _ _ _ ≡ false = sym c.entry_well_formed.ensures ∙ c.if-not-entry_well_formed.true in
    let told = (goal.at.returns-then-not-entry_well_formed c).In_ok-scan in
    simp (is_sound told, lt-ltb 0 c.args.used (omega arith), e)

pub offset_bounds-log-used : goal.offset_bounds-log-used
offset_bounds-log-used c = omega (arith, (entry_met _ _ _ _ (sym c.entry_well_formed.ensures ∙ c.if-not-entry_well_formed.false)).within)

pub bounds-log-used : goal.bounds-log-used
bounds-log-used c = omega (arith, (entry_met _ _ _ _ (sym c.entry_well_formed.ensures ∙ c.if-not-entry_well_formed.false)).within)

pub returns : goal.returns
unfolding undone
returns c =
    let well_formed : entry_well_formed _ _ _ _ ≡ true = sym c.entry_well_formed.ensures ∙ c.if-not-entry_well_formed.false in
    simp (is_sound (goal.at.returns c).In_ok-scan, lt-ltb 0 c.args.used (omega arith), well_formed)
