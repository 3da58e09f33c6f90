-- `instance::scan::scan` meets its contract: a test that fails makes one part of the definition false, and scan_words scans the words. Assumes
-- nothing.
use mathlib.Core.Path.{◌≡◌, sym, ◌∙◌}
use mathlib.Core.Bool.{true, false, and-false}
use native.Mathlib.Omega.{arith}
use borrow.Author.Tests.{le-leb, lt-leb, not-true, not-false}
use lib.ListN.{length-take}
use lib.Seq.{length-take-le}
use Rattle.instance.specs.Sound.{sound, rows, scanned, scanned_words}
use Rattle.instance.specs.Header.{header_well_formed}
use Rattle.instance.proofs.Told.{scan_told}
use Rattle.instance.proofs.scan.scan.Goals as goal
use Rattle.instance.proofs.scan.scan.Goals.{After-header_well_formed, Else-not-header_well_formed}

by_answer_told : {A B : Type 0} → A × B → record { answer : A; told : B }
by_answer_told p = record { answer = p.0; told = p.1 }

pub returns-then-used-gt-WORDS : goal.returns-then-used-gt-WORDS
unfolding scanned sound
returns-then-used-gt-WORDS c =
    by_answer_told (scan_told _ _ (simp (lt-leb _ _ c.if-used-gt-WORDS.true, and-false)))

pub returns-then-instance-used : goal.returns-then-instance-used
unfolding scanned sound
returns-then-instance-used c =
    by_answer_told (scan_told _ _ (simp (lt-leb _ _ c.if-instance-used.true, and-false)))

pub returns-then-not-header_well_formed : goal.returns-then-not-header_well_formed
unfolding scanned sound
returns-then-not-header_well_formed c =
    let e : header_well_formed _ _ ≡ false = sym c.header_well_formed.ensures ∙ not-true _ c.if-not-header_well_formed.true-raw in by_answer_told (scan_told _ _ (simp e))

pub slice_bounds-scan_words-end : goal.slice_bounds-scan_words-end
slice_bounds-scan_words-end c = sym (length-take-le _ _ c.if-instance-used.false)

well_formed : (c : Else-not-header_well_formed) → header_well_formed c.args.header.relations
    c.args.header.arities ≡ true
well_formed c = sym c.header_well_formed.ensures ∙ not-false _ c.if-not-header_well_formed.false-raw

pub scan_words-requires : goal.scan_words-requires
scan_words-requires c = (well_formed (goal.at.scan_words-requires c).Else-not-header_well_formed, simp (length-take) (omega arith))

pub returns : goal.returns
unfolding scanned sound scanned_words rows
returns c =
    let e = (goal.at.returns c).Else-not-header_well_formed in
    let given = c.args in by_answer_told (scan_told given.header given.instance.now (c.scan_words.ensures ∙ simp (well_formed e, le-leb _ _ c.if-used-gt-WORDS.false, le-leb _ _ c.if-instance-used.false)))
