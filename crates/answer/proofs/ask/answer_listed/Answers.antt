-- `answer::ask::answer_listed` meets its contract: the instance is described, and the list is walked with no flag. Assumes nothing.
use mathlib.Core.Path.{sym, ap}
use native.Mathlib.Omega.{arith}
use lib.ListN.{length}
use Rattle.instance.specs.Sound.{rows}
use Rattle.instance.proofs.Sound.{sound_gives}
use Rattle.known.specs.declared.Known.{Known}
use Rattle.known.specs.Known.{places_in}
use Rattle.known.proofs.Walking.{no_flags}
use Rattle.answer.specs.Admitted.{Admitted}
use Rattle.answer.proofs.AskLaws.{Described, described, evaluable, listed-ranged, evaluated-top}
use Rattle.answer.proofs.Need.{range-few}
use Rattle.answer.proofs.ask.answer_listed.Goals as goal
use Rattle.answer.proofs.ask.answer_listed.Goals.{After-new-known}

-- what is known describes the instance
told : (c : After-new-known) → Described c.args.header c.args.instance.now c.new-known.result
told c =
    described c.args.header c.args.instance.now c.new-known.result c.requires.by_index.1.is_sound
    (ap (λ (k : Known). k.counts) c.new-known.ensures) (ap (λ (k : Known). k.arities) c.new-known.ensures)

pub slice_bounds-asking-end : goal.slice_bounds-asking-end
slice_bounds-asking-end c = sym (sound_gives _ _ c.requires.by_index.1.is_sound).in_use

pub answer_top-requires : goal.answer_top-requires
unfolding rows
answer_top-requires c =
    let h = c.args.header in
    let ws = c.args.instance.now in
    let qs = c.args.query.now in
    let cs = c.args.candidate.now in
    let k = c.new-known in
    let count = c.requires.by_index.0 in
    let passes : Admitted h ws qs cs count = c.requires.by_index.1 in
    let unflagged = no_flags k.result (ap (λ (t : Known). t.flags) k.ensures) in
    let few = range-few h ws qs cs count passes in
    let e = evaluable h ws qs cs count passes k.result c.args.values.now (told (goal.at.answer_top-requires c).After-new-known)
    (listed-ranged h ws qs k.result c.args.values.now (ap places_in k.ensures) unflagged
    (omega (arith, ap length c.requires.values_value, few)) c.requires.values_value) in
    record { ready = e.0; query_nonzero = e.1 }

pub returns : goal.returns
returns c =
    evaluated-top c.args.header c.args.instance.now c.args.query.now c.args.candidate.now c.args.budget c.new-known.result
    (told (goal.at.returns c).After-new-known) _ c.answer_top.ensures
