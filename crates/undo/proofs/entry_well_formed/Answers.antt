-- `undo::entry_well_formed` meets its contract: a test that fails makes one part of the definition false, and are_places tests the places. Assumes
-- nothing.
use Prim.Native.Nat.{◌≤◌}
use mathlib.Core.Path.{sym, ap, ◌∙◌}
use mathlib.Core.Bool.{and-false}
use native.Mathlib.Omega.{arith}
use borrow.Author.Tests.{le-leb, lt-leb}
use mathlib.Core.Path.{◌≡◌}
use mathlib.Core.Bool.{true, false}
use Rattle.calculus.specs.Cell.{is_mark}
use Rattle.calculus.specs.Fill.{entry_length}
use Rattle.instance.specs.Sound.{rows}
use Rattle.instance.proofs.Sound.{sound_gives}
use Rattle.undo_log.specs.Places.{are_places}
use Rattle.undo_log.specs.Log.{last_count, last_mark, entry_well_formed}
use Rattle.undo.proofs.Entries.{places-lent, entry-short}
use Rattle.undo.proofs.entry_well_formed.Goals as goal

pub returns-then-log-used : goal.returns-then-log-used
unfolding entry_well_formed
returns-then-log-used c = simp (lt-leb _ _ c.if-log-used.true)

pub returns-then-used-lt2 : goal.returns-then-used-lt2
returns-then-used-lt2 c = sym (entry-short _ _ _ _ (omega arith))

pub returns-then-end-count : goal.returns-then-end-count
returns-then-end-count c = sym (entry-short _ _ _ _ (omega arith))

pub returns-then-not-is_mark : goal.returns-then-not-is_mark
unfolding entry_well_formed
returns-then-not-is_mark c =
    let m : is_mark (last_mark c.args.log.now c.args.used) ≡ false = grind arith in
    simp (m, and-false)

pub slice_bounds-are_places-end : goal.slice_bounds-are_places-end
slice_bounds-are_places-end c = sym (sound_gives _ _ c.requires).in_use

pub are_places-requires : goal.are_places-requires
are_places-requires c = (sound_gives _ _ c.requires).well_formed

pub returns : goal.returns
unfolding entry_well_formed rows
returns c =
    let log = c.args.log.now in
    let used = c.args.used in
    let whole : entry_length (last_count log used) ≤ used = omega arith in
    let in_log = le-leb _ _ c.if-log-used.false in
    let m : is_mark (last_mark log used) ≡ true = grind arith in
    c.are_places.ensures
    ∙ ap (are_places (rows c.args.header c.args.instance.now)) (places-lent log used _ _ (omega (arith, whole)) (omega (arith, whole)))
    ∙ simp (in_log, le-leb _ _ whole, m)
