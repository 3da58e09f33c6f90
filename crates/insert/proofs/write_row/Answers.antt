-- `insert::write_row` meets its contract: the relation's number is written first, and then the first i cells. Assumes nothing.
use Prim.Native.Nat.{ℕ, ◌<◌, ◌+◌}
use mathlib.Core.Path.{◌≡◌, refl, ap, ◌∙◌}
use mathlib.Core.List.{List, ◌∷◌}
use native.Mathlib.Omega.{arith}
use lib.ListN.{length, drop, get_or, set, length-set, length-drop}
use Rattle.instance.proofs.Passes.{row-start, row_more, row-end}
use Rattle.insert.proofs.write_row.Goals as goal
use Rattle.insert.proofs.write_row.Goals.{At-loop-i}

pub loop-i-init : goal.loop-i-init
loop-i-init c =
    let l : 0 < length c.args.part.now = omega arith in
    (refl, row-start _ c.args.part.now l)

pub bounds-part-i : goal.bounds-part-i
bounds-part-i c = simp (c.loop-i.invariant.0, length-set) (omega arith)

pub loop-i-preserved : goal.loop-i-preserved
loop-i-preserved c =
    let b = (goal.at.loop-i-preserved c).At-loop-i in
    let r = c.args.relation in
    let cs = c.args.cells.now in
    let ys = drop 1 (set c.args.part.now 0 r) in
    let l : c.loop-i.i < length cs = omega arith in
    let m : c.loop-i.i < length ys = simp (length-drop, length-set) (omega arith) in (
      length-set c.loop-i.part (c.loop-i.i + 1) (get_or cs c.loop-i.i 0) ∙ c.loop-i.invariant.0,
      ap (λ (l : List ℕ). set l (c.loop-i.i + 1) (get_or cs c.loop-i.i 0)) c.loop-i.invariant.1 ∙ row_more r _ cs ys l m,
    )

pub shape_of-part : goal.shape_of-part
shape_of-part c = c.loop-i.invariant.0 ∙ length-set c.args.part.now 0 c.args.relation

pub returns : goal.returns
returns c =
    let r = c.args.relation in
    let cs = c.args.cells.now in
    let e : c.loop-i.i ≡ length cs = omega arith in
    c.loop-i.invariant.1 ∙ rw e (ap (λ (l : List ℕ). r ∷ l) (row-end r cs c.args.part.now))
