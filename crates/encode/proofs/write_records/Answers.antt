-- `encode::write_records` meets its contract: the records of the rows from index i are left to write. Assumes nothing.
use Prim.Native.Nat.{ℕ, ◌+◌, ◌-◌, ◌*◌, ◌≤◌}
use mathlib.Core.Path.{◌≡◌}
use mathlib.Core.List.{List, ◌++◌}
use native.Mathlib.Omega.{arith}
use lib.ListN.{length, take, drop, get_or, length-append, length-drop}
use Rattle.calculus.specs.Row.{Row}
use Rattle.calculus.proofs.Stores.{Written, written_begin, written_part, written_finish}
use Rattle.instance.specs.Header.{arity_of, max_relations, max_columns}
use Rattle.instance.specs.Rows.{rows_from}
use Rattle.instance.proofs.Walk.{walk_starts, AtRow, row_here, rows_end, row_lent}
use Rattle.card.specs.Encode.{record_bytes, records_bytes}
use Rattle.encode.proofs.RecordSteps.{fields-size}
use Rattle.instance.proofs.Parts.{part_to_end, put_to_end}
use Rattle.encode.proofs.write_records.Goals as goal
use Rattle.encode.proofs.write_records.Goals.{In-loop-i}

pub loop-i-init : goal.loop-i-init
loop-i-init c = (walk_starts _ _ _ c.requires.words_value, written_begin _ _ c.requires.words_in_bounds)

-- the row at index i
module _ (c : In-loop-i) where
  abbrev ars : List ℕ
  ars = c.args.arities.now

  abbrev ws : List ℕ
  ws = c.args.words.now

  abbrev i : ℕ
  i = c.loop-i.i

  abbrev a : ℕ
  a = arity_of ars (get_or ws i 0)

  abbrev row : Row
  row = record { relation = get_or ws i 0; cells = take a (drop (i + 1) ws) }

  here : AtRow max_relations ars ws i
  here = row_here max_relations ars ws i (omega arith) c.loop-i.invariant.0

  size : length (record_bytes row) ≡ 2 + 3 * a
  size = omega (arith, fields-size row.cells, here.size)

  to_come :
      Written (records_bytes (rows_from ars 0 ws)) (record_bytes row ++ records_bytes (rows_from ars 0 (drop (i + (1 + a)) ws)))
      c.args.out.now c.loop-i.out c.loop-i.at
  unfolding records_bytes
  to_come = rw here.rows at c.loop-i.invariant.1

  -- the record fits
  width : a ≤ max_columns
  width = c.requires.by_index (get_or ws i 0)

  fits : c.loop-i.at + (2 + 3 * a) ≤ length c.loop-i.out
  fits = omega (arith, size, to_come.room, to_come.same, length-append (record_bytes row) (records_bytes (rows_from ars 0 (drop (i + (1 + a)) ws))))

pub bounds-arities-relation : goal.bounds-arities-relation
bounds-arities-relation c = (here (goal.at.bounds-arities-relation c).In-loop-i).relation

pub slice_bounds-write_record-end-in-loop-i : goal.slice_bounds-write_record-end-in-loop-i
slice_bounds-write_record-end-in-loop-i c = omega (arith, (here (goal.at.slice_bounds-write_record-end-in-loop-i c).In-loop-i).next.within)

pub write_record-requires : goal.write_record-requires
write_record-requires c =
    let b = (goal.at.write_record-requires c).In-loop-i in
    let h = here b in
    let out = c.loop-i.out in
    let at = c.loop-i.at in
    rw (row_lent (ws b) (i b) (a b), part_to_end out at) (
      h.relation,
      omega (arith, h.size, width b),
      omega (arith, h.size, fits b, length-drop at out),
    )

pub loop-i-preserved : goal.loop-i-preserved
loop-i-preserved c =
    let b = (goal.at.loop-i-preserved c).In-loop-i in
    let out = c.loop-i.out in
    let at = c.loop-i.at in
    let sum : i b + 1 + a b ≡ i b + (1 + a b) = omega arith in
    let next : at + (2 + 3 * (i b + 1 + a b - (i b + 1))) ≡ at + length (record_bytes (row b)) = omega (arith, size b) in
    let part = rw (row_lent (ws b) (i b) (a b), part_to_end out at) at c.write_record.ensures in
    rw (next, sum, put_to_end out at _ (omega (arith, fits b)), part) ((here b).next, written_part (record_bytes (row b)) (to_come b))

pub returns : goal.returns
unfolding records_bytes
returns c =
    let ws = c.args.words.now in
    let e : c.loop-i.i ≡ length ws = omega (arith, c.loop-i.invariant.0.within) in
    written_finish (rw (rows_end c.args.arities.now ws _ e) at c.loop-i.invariant.1)
