-- `undo::row_of` meets its contract: a row starts at `row`, at or before the place, and the next row starts after its cells. Assumes nothing.
use Prim.Native.Nat.{ℕ, ◌≤◌, ◌<◌}
use mathlib.Core.List.{List}
use native.Mathlib.Omega.{arith}
use lib.ListN.{length, get_or}
use Rattle.instance.specs.Header.{arity_of, max_relations, max_columns}
use Rattle.instance.proofs.Walk.{AtRow, relation-few, arity_few}
use Rattle.undo.proofs.RowStarts.{start-row, start-next}
use Rattle.undo.proofs.row_of.Goals as goal
use Rattle.undo.proofs.row_of.Goals.{At-loop-relations}

pub loop-relations-init : goal.loop-relations-init
loop-relations-init c = (c.requires.row_start, c.requires.from_le_place.0)

-- the row that starts at `row`
module _ (c : At-loop-relations) where
  abbrev n : ℕ
  n = c.args.relations

  abbrev ars : List ℕ
  ars = c.args.arities.now

  abbrev ws : List ℕ
  ws = c.args.words.now

  abbrev row : ℕ
  row = c.loop-relations.row

  within : row < length ws
  within = omega (arith, c.loop-relations.invariant.1, c.requires.from_le_place.1)

  here : AtRow n ars ws row
  here = start-row c.loop-relations.invariant.0 c.requires.instance_well_formed.words within

  few : get_or ws row 0 < max_relations
  few = relation-few n ars ws _ c.requires.instance_well_formed here.relation

  narrow : arity_of ars (get_or ws row 0) ≤ max_columns
  narrow = arity_few n ars ws _ c.requires.instance_well_formed here.relation

pub offset_bounds-words-row : goal.offset_bounds-words-row
offset_bounds-words-row c = omega (arith, within c)

pub bounds-words-row : goal.bounds-words-row
bounds-words-row c = within (goal.at.bounds-words-row c).At-loop-relations

pub overflow_cast-relation : goal.overflow_cast-relation
overflow_cast-relation c = omega (arith, few (goal.at.overflow_cast-relation c).At-loop-relations)

pub offset_bounds-arities-relation : goal.offset_bounds-arities-relation
offset_bounds-arities-relation c = omega (arith, few (goal.at.offset_bounds-arities-relation c).At-loop-relations)

pub bounds-arities-relation : goal.bounds-arities-relation
bounds-arities-relation c = few (goal.at.bounds-arities-relation c).At-loop-relations

pub overflow_cast-next : goal.overflow_cast-next
overflow_cast-next c = omega (arith, narrow (goal.at.overflow_cast-next c).At-loop-relations)

pub overflow_add-next : goal.overflow_add-next
overflow_add-next c = omega (arith, narrow (goal.at.overflow_add-next c).At-loop-relations)

pub overflow_add-next-in-loop-relations : goal.overflow_add-next-in-loop-relations
overflow_add-next-in-loop-relations c = omega (arith, (here (goal.at.overflow_add-next-in-loop-relations c).At-loop-relations).next.within)

pub returns-then-place-next : goal.returns-then-place-next
returns-then-place-next c = let b = (goal.at.returns-then-place-next c).At-loop-relations in record { start = c.loop-relations.invariant.0; low = c.loop-relations.invariant.1; high = c.if-place-next.true }

pub loop-relations-preserved : goal.loop-relations-preserved
loop-relations-preserved c =
    let b = (goal.at.loop-relations-preserved c).At-loop-relations in
    (start-next c.loop-relations.invariant.0 c.requires.instance_well_formed.words (within b), c.if-place-next.false)
