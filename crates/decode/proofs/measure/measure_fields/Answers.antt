-- `decode::measure::measure_fields` meets its contract. The loop's invariant: the answer for all fields is the answer for those that are left, raised to
-- the highest null so far. Assumes nothing.
use Prim.Native.Nat.{◌+◌, ◌-◌, ◌*◌, max}
use mathlib.Core.Path.{◌≡◌, sym, ◌∙◌}
use mathlib.Core.Bool.{true}
use native.Mathlib.Nat.{sub-zero}
use native.Mathlib.Omega.{arith}
use Rattle.calculus.specs.Cell.{is_cell, mark_of}
use Rattle.calculus.proofs.Cells.{cell_below}
use Rattle.instance.specs.Blanks.{highest_of}
use Rattle.parse.specs.Parse.{read_each}
use Rattle.decode.specs.Measure.{read_written, measured_fields}
use Rattle.decode.proofs.Fields.{raised_none, fields_more, fields-short, fields_bad}
use Rattle.decode.proofs.measure.measure_fields.Goals as goal
use Rattle.decode.proofs.measure.measure_fields.Goals.{else-highest-cell, then-highest-cell}

pub loop-i-init : goal.loop-i-init
loop-i-init c = (omega arith, omega arith, rw (sub-zero c.args.written) (sym (raised_none (measured_fields (read_written c.args.written c.args.bytes.now)))))

pub returns-then-bytes-at-lt3 : goal.returns-then-bytes-at-lt3
returns-then-bytes-at-lt3 c =
    let l = c.loop-i in
    rw (l.invariant.2, fields-short (c.args.written - l.i) (3 * l.i) c.args.bytes.now (omega arith) c.if-bytes-at-lt3.true)

pub returns-then-not-is_cell : goal.returns-then-not-is_cell
returns-then-not-is_cell c =
    let l = c.loop-i in
    let field = c.number-cell in
    rw (l.invariant.2, fields_bad (c.args.written - l.i) (3 * l.i) c.args.bytes.now (omega arith) field.result field.ensures.read (sym c.is_cell.ensures ∙ c.if-not-is_cell.true))

pub loop-i-preserved : goal.loop-i-preserved
loop-i-preserved c =
    let l = c.loop-i in
    let field = c.number-cell in
    let cell : is_cell field.result ≡ true = sym c.is_cell.ensures ∙ c.if-not-is_cell.false in
    let top : c.if-highest-cell.highest ≡ max l.highest (mark_of field.result) = (elim c.if-highest-cell.branch [ then-highest-cell w ↦ omega arith | else-highest-cell w ↦ omega arith ]) in
    let left : c.args.written - l.i - 1 ≡ c.args.written - (l.i + 1) = omega arith in
    let next : 3 * l.i + 3 ≡ 3 * (l.i + 1) = omega arith in (
      omega arith,
      omega (arith, cell_below field.result cell),
      rw (l.invariant.2, top, ← left, ← next) (fields_more (c.args.written - l.i) (3 * l.i) c.args.bytes.now (omega arith) field.result field.ensures.read l.highest cell),
    )

pub returns : goal.returns
unfolding measured_fields read_each highest_of
returns c =
    let l = c.loop-i in
    let none : c.args.written - l.i ≡ 0 = omega arith in
    let same : max l.highest 0 ≡ l.highest = omega arith in
    rw (l.invariant.2, none, same)
