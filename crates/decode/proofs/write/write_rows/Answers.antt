-- `decode::write::write_rows` meets its contract. The loop's invariant: the rows written so far and the rows still to be read together are the card's
-- words. Assumes nothing.
use Prim.Native.Nat.{ℕ, ◌+◌, ◌-◌, ◌≤◌, ◌<◌}
use mathlib.Core.Path.{◌≡◌, refl}
use native.Mathlib.Nat.{sub-zero}
use native.Mathlib.Omega.{arith}
use lib.ListN.{length, get_or, length-drop}
use Rattle.instance.specs.Header.{arity_of, max_columns, max_relations}
use Rattle.instance.proofs.Parts.{part_to_end, put_to_end}
use Rattle.instance.proofs.Rows.{rows_at_most}
use Rattle.decode.proofs.WritingRows.{Found, whole, find, rows_start, rows_end}
use Rattle.decode.proofs.write.write_rows.Goals as goal
use Rattle.decode.proofs.write.write_rows.Goals.{In-loop-row, After-byte-relation, After-byte-map}

-- what an iteration finds at its record, whose first two bytes are b and map
module _ (c : In-loop-row) where
  abbrev FoundIn : ℕ → ℕ → Type 0
  FoundIn b map =
      let at = c.loop-row in
      Found c.args.instance.now c.args.card.now c.args.head.now.relations c.args.head.now.arities c.args.head.now.rows c.args.next
      at.instance at.counts at.used at.null at.at (c.args.head.now.rows - at._row - 1) b map (arity_of c.args.head.now.arities b)

  in_turn : (b map : ℕ) → b ≡ get_or c.args.card.now c.loop-row.at 0 → map ≡ get_or c.args.card.now (c.loop-row.at + 1) 0 → FoundIn b map
  in_turn = find _ _ _ _ _ _ _ _ _ _ _ _ c.loop-row.invariant (omega arith)

  in_card : c.loop-row.at + 2 ≤ length c.args.card.now
  in_card = omega (arith, (in_turn _ _ refl refl).in_card)

-- once the first byte is read
module _ (c : After-byte-relation) where
  first : Found c.args.instance.now c.args.card.now c.args.head.now.relations c.args.head.now.arities c.args.head.now.rows c.args.next
      c.loop-row.instance c.loop-row.counts c.loop-row.used c.loop-row.null c.loop-row.at (c.args.head.now.rows - c.loop-row._row - 1)
      c.byte-relation.result (get_or c.args.card.now (c.loop-row.at + 1) 0) (arity_of c.args.head.now.arities c.byte-relation.result)
  first = find _ _ _ _ _ _ _ _ _ _ _ _ c.loop-row.invariant (omega arith) _ _ c.byte-relation.ensures.0 refl

  low : c.byte-relation.result < max_relations
  low = omega (arith, first.known, c.requires.few)

-- once both bytes are read
module _ (c : After-byte-map) where
  both : Found c.args.instance.now c.args.card.now c.args.head.now.relations c.args.head.now.arities c.args.head.now.rows c.args.next
      c.loop-row.instance c.loop-row.counts c.loop-row.used c.loop-row.null c.loop-row.at (c.args.head.now.rows - c.loop-row._row - 1)
      c.byte-relation.result c.byte-map.result (arity_of c.args.head.now.arities c.byte-relation.result)
  both = find _ _ _ _ _ _ _ _ _ _ _ _ c.loop-row.invariant (omega arith) _ _ c.byte-relation.ensures.0 c.byte-map.ensures.0

  narrow : arity_of c.args.head.now.arities c.byte-relation.result ≤ max_columns
  narrow = c.requires.narrow _ both.known

  inside : c.loop-row.used ≤ length c.loop-row.instance
  inside = omega (arith, c.loop-row.invariant.stored.room, c.loop-row.invariant.stored.same)

pub loop-row-init : goal.loop-row-init
loop-row-init c = rw (sub-zero c.args.head.now.rows) (rows_start _ _ _ _ _ _ c.requires)

pub byte-relation-requires : goal.byte-relation-requires
byte-relation-requires c = omega (arith, in_card (goal.at.byte-relation-requires c).In-loop-row)

pub bounds-counts-relation : goal.bounds-counts-relation
bounds-counts-relation c = low (goal.at.bounds-counts-relation c).After-byte-relation

pub overflow_add-counts : goal.overflow_add-counts
overflow_add-counts c =
    let b = (goal.at.overflow_add-counts c).After-byte-relation in
    omega (
      arith,
      (first b).uncounted (low b),
      rows_at_most (whole c.args.instance.now c.args.card.now c.args.head.now.relations c.args.head.now.arities c.args.head.now.rows c.args.next),
      c.requires.short,
    )

pub bounds-counts-relation-in-loop-row : goal.bounds-counts-relation-in-loop-row
bounds-counts-relation-in-loop-row c = low (goal.at.bounds-counts-relation-in-loop-row c).After-byte-relation

pub byte-map-requires : goal.byte-map-requires
byte-map-requires c = omega (arith, in_card (goal.at.byte-map-requires c).In-loop-row)

pub overflow_add-at-in-loop-row : goal.overflow_add-at-in-loop-row
overflow_add-at-in-loop-row c = omega (arith, in_card (goal.at.overflow_add-at-in-loop-row c).In-loop-row)

pub bounds-head-relation : goal.bounds-head-relation
bounds-head-relation c = low (goal.at.bounds-head-relation c).After-byte-relation

pub overflow_add-first : goal.overflow_add-first
overflow_add-first c = omega (arith, in_card (goal.at.overflow_add-first c).In-loop-row)

pub slice_bounds-write_row-count-in-loop-row : goal.slice_bounds-write_row-count-in-loop-row
slice_bounds-write_row-count-in-loop-row c = omega (arith, in_card (goal.at.slice_bounds-write_row-count-in-loop-row c).In-loop-row)

pub slice_bounds-write_row-start-in-loop-row : goal.slice_bounds-write_row-start-in-loop-row
slice_bounds-write_row-start-in-loop-row c = omega (arith, in_card (goal.at.slice_bounds-write_row-start-in-loop-row c).In-loop-row)

pub overflow_sub-null : goal.overflow_sub-null
overflow_sub-null c = (both (goal.at.overflow_sub-null c).After-byte-map).fewer

pub overflow_add-null : goal.overflow_add-null
overflow_add-null c = omega (arith, (both (goal.at.overflow_add-null c).After-byte-map).low)

pub overflow_add-at-in-loop-row-2 : goal.overflow_add-at-in-loop-row-2
overflow_add-at-in-loop-row-2 c = omega (arith, (both (goal.at.overflow_add-at-in-loop-row-2 c).After-byte-map).in_card)

pub write_row-requires : goal.write_row-requires
write_row-requires c =
    let b = (goal.at.write_row-requires c).After-byte-map in
    record {
      arity_in_bounds = simp part_to_end (omega (arith, (both b).room, length-drop c.loop-row.used c.loop-row.instance));
      arity_le_max_columns = narrow b;
      next_bound = omega (arith, (both b).low);
      fields_value = simp part_to_end (both b).fields;
    }

pub loop-row-preserved : goal.loop-row-preserved
loop-row-preserved c =
    let b = (goal.at.loop-row-preserved c).After-byte-map in
    let left : c.args.head.now.rows - c.loop-row._row - 1 ≡ c.args.head.now.rows - (c.loop-row._row + 1) = omega arith in
    rw (put_to_end c.loop-row.instance c.loop-row.used _ (inside b), ← left)
    ((both b).next-rows c.write_row.new.part (simp part_to_end at c.write_row.ensures) (omega (arith, (both b).known, c.requires.few)))

pub returns : goal.returns
returns c =
    let ends = rows_end _ _ _ _ _ _ _ _ _ _ _ _ c.loop-row.invariant (omega arith) in
    record { counts = ends.0; words = ends.1 }
