-- `lookup::relation::compare_after` meets its contract, on each path through the tests. Assumes nothing.
use mathlib.Core.Path.{◌≡◌, sym, ◌∙◌}
use mathlib.Core.Bool.{true, false}
use lib.ListN.{length}
use Rattle.lookup.specs.Place.{cells_at}
use Rattle.lookup.proofs.Alike.{alike-identical, alike-other}
use Rattle.lookup.proofs.Atom.{match_first, match_later}
use Rattle.lookup.proofs.Columns.{cells-size}
use Rattle.lookup.proofs.relation.compare_after.Goals as goal
use Rattle.lookup.proofs.relation.compare_after.Goals.{After-alike, Start}

-- the two rows have one length
size : (c : Start) → length c.args.row.now ≡ length (cells_at c.args.words.now c.args.place (length c.args.row.now))
size c = cells-size _ _ _ c.requires.0

pub returns-then-alike-row : goal.returns-then-alike-row
returns-then-alike-row c =
    let a = (goal.at.returns-then-alike-row c).After-alike in
    match_later _ _ _ c.if-possible.true true (alike-identical _ _ (size (goal.at.returns-then-alike-row c).Start) (sym c.alike.ensures ∙ c.if-alike-row.true))

pub returns-then-possible : goal.returns-then-possible
returns-then-possible c =
    let a = (goal.at.returns-then-possible c).After-alike in
    match_later _ _ _ c.if-possible.true false (alike-other _ _ (size (goal.at.returns-then-possible c).Start) (λ e. c.if-alike-row.false (c.alike.ensures ∙ e))).1

pub returns : goal.returns
returns c = c.compare.ensures.answer ∙ match_first _ _ _ c.if-possible.false
