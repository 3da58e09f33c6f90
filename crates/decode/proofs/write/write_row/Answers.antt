-- `decode::write::write_row` meets its contract. The loop's invariant: the words written so far and the cells still to be read together are the row,
-- and the other words of the part keep their content. Assumes nothing.
use Prim.Native.Nat.{◌+◌, ◌%◌, ◌≤◌, ◌<◌}
use mathlib.Core.Path.{◌≡◌, ◌∙◌}
use native.Mathlib.Omega.{arith}
use lib.ListN.{length}
use Rattle.decode.proofs.Written.{cells_read_in, row-starts, row_room, field_room, written_step, blank_step, row_ends, row-whole}
use Rattle.decode.proofs.write.write_row.Goals as goal
use Rattle.decode.proofs.write.write_row.Goals.{In-loop-column, else-bits-eq1, then-bits-eq1}

-- what is known in an iteration of the loop
module _ (c : In-loop-column) where
  room : c.loop-column.column + 1 < length c.loop-column.part
  room = row_room _ _ _ _ _ _ _ _ _ _ _ c.loop-column.invariant c.loop-column-test.true

  -- if the column's bit is set, its field is within the bytes
  in_bytes : c.loop-column.bits % 2 ≡ 1 → c.loop-column.at + 3 ≤ length c.args.fields.now
  in_bytes = field_room _ _ _ _ _ _ _ _ _ _ _ c.loop-column.invariant c.loop-column-test.true

pub loop-column-init : goal.loop-column-init
loop-column-init c = row-starts c.args.part.now _ _ _ _ _ c.requires.arity_in_bounds c.requires.fields_value

pub number-requires : goal.number-requires
number-requires c =
    record {
      narrow = omega arith;
      within = in_bytes (goal.at.number-requires c).In-loop-column c.if-bits-eq1.true;
    }

pub overflow_add-at : goal.overflow_add-at
overflow_add-at c = omega (arith, in_bytes (goal.at.overflow_add-at c).In-loop-column c.if-bits-eq1.true)

pub loop-column-preserved : goal.loop-column-preserved
loop-column-preserved c =
    let v = (goal.at.loop-column-preserved c).In-loop-column in
    (elim c.if-bits-eq1.branch [ then-bits-eq1 w ↦ rw (w.part-is, w.null-is, w.at-is) (written_step _ _ _ _ _ _ _ _ _ _ _ c.loop-column.invariant c.loop-column-test.true w.if-bits-eq1.true w.number.ensures.read) | else-bits-eq1 w ↦ rw (w.part-is, w.null-is, w.at-is) (blank_step _ _ _ _ _ _ _ _ _ _ _ c.loop-column.invariant c.loop-column-test.true w.if-bits-eq1.false) ])

pub returns : goal.returns
returns c =
    let args = c.args in
    row_ends _ _ _ _ _ _ _ _ _ _ _ c.loop-column.invariant c.loop-column-test.false ∙
    row-whole args.part.now args.relation (cells_read_in args.next args.arity args.map args.fields.now)
