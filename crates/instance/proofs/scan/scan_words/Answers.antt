-- `instance::scan::scan_words` meets its contract: the words from index i, where a row starts, decide the result. Assumes nothing.
use Prim.Native.Nat.{ℕ, ◌≤◌, ◌<◌, ◌-◌, ◌+◌}
use mathlib.Core.Path.{◌≡◌, refl, sym, ap, ap₂, ◌∙◌, subst}
use mathlib.Core.Bool.{Bool, true, false, cond}
use mathlib.Core.List.{List}
use native.Mathlib.Nat.{zero-add}
use native.Mathlib.Omega.{arith}
use borrow.Author.Tests.{lt-ltb, le-ltb, not-true, not-false}
use lib.ListN.{length, take, drop, get_or, set, length-drop}
use lib.Seq.{drop-length, drop-drop}
use lib.Dec.{ltb}
use Rattle.std.specs.Prelude.{Err}
use Rattle.calculus.specs.declared.refusal.Refusal.TheVariants.{Unsound}
use Rattle.instance.specs.Header.{arity_of, max_relations, max_words}
use Rattle.instance.specs.Rows.{are_cells, rows_from}
use Rattle.instance.specs.RowCounts.{row_counts, sum_of}
use Rattle.instance.specs.Sound.{tally, scanned_words}
use Rattle.instance.proofs.Rows.{Headed, headed}
use Rattle.instance.proofs.Walk.{rows_at, rows_end, tuples-few}
use Rattle.instance.proofs.ScanSteps.{scan_from, scan_end, scan_row, scan_cells, scan_short}
use Rattle.instance.proofs.RowCounts.{RowsCounted, counted-row, counted-all, sum_one}
use Rattle.calculus.proofs.Counting.{counting_starts}
use Rattle.calculus.specs.Closed.{identical}
use Rattle.calculus.proofs.Lists.{drop_step}
use Rattle.instance.proofs.scan.scan_words.Goals as goal
use Rattle.instance.proofs.scan.scan_words.Lts.View.{up-In-loop-i, up-Joined-w-relation}
use Rattle.instance.proofs.scan.scan_words.Goals.{After-are_cells, After-loop-i, Else-relations-w, In-loop-i, Joined-w-relation, Start, else-w-relation, then-w-relation+else-relations-w}

pub overflow_cast-arity : goal.overflow_cast-arity
overflow_cast-arity c = omega (arith, (headed _ _ c.requires.0).narrow 0)

pub loop-i-init : goal.loop-i-init
unfolding scanned_words scan_from sum_of
loop-i-init c = (omega arith, omega arith, simp zero-add, counting_starts max_relations _, (headed _ _ c.requires.0).some, refl)

-- the row at index i, and the words after its relation's number
module _ (c : In-loop-i) where
  abbrev n : ℕ
  n = c.args.relations

  abbrev ars : List ℕ
  ars = c.args.arities.now

  abbrev ws : List ℕ
  ws = c.args.words.now

  abbrev counts : List ℕ
  counts = c.args.counts.now

  abbrev right : Bool
  right = identical counts (row_counts (rows_from ars 0 ws))

  abbrev k : ℕ
  k = sum_of c.loop-i.found

  abbrev i : ℕ
  i = c.loop-i.i

  abbrev w : ℕ
  w = get_or ws i 0

  abbrev behind : List ℕ
  behind = drop (i + 1) ws

  abbrev well_formed : Headed n ars
  well_formed = headed n ars c.requires.0

  at_row : (b : Bool) → ltb w n ≡ b → scanned_words n ars counts ws ≡ cond b (scan_from n ars right (k + 1) (arity_of ars w) behind) (Err Unsound)
  at_row b e =
      c.loop-i.invariant.2
      ∙ ap (scan_from n ars right k 0) (drop_step ws i (omega arith))
      ∙ scan_row n ars right k w behind
      ∙ ap (λ (b : Bool). cond b (scan_from n ars right (k + 1) (arity_of ars w) behind) (Err Unsound)) e

  -- its cells
  module _ (known : w < n) where
    too_few : length ws < i + 1 + arity_of ars w → scanned_words n ars counts ws ≡ Err Unsound
    too_few l = at_row true (lt-ltb w n known) ∙ scan_short n ars right (k + 1) (arity_of ars w) behind (omega (arith, length-drop (i + 1) ws))

    past : (b : Bool) → i + 1 + arity_of ars w ≤ length ws → are_cells (take (arity_of ars w) behind) ≡ b
        → scanned_words n ars counts ws ≡ cond b (scan_from n ars right (k + 1) 0 (drop (i + 1 + arity_of ars w) ws)) (Err Unsound)
    past b l e =
        at_row true (lt-ltb w n known)
        ∙ scan_cells n ars right (k + 1) (arity_of ars w) behind (omega (arith, length-drop (i + 1) ws))
        ∙ ap (λ (b : Bool). cond b (scan_from n ars right (k + 1) 0 (drop (arity_of ars w) behind)) (Err Unsound)) e
        ∙ ap (λ (ws : List ℕ). cond b (scan_from n ars right (k + 1) 0 ws) (Err Unsound)) (drop-drop (arity_of ars w) (i + 1) ws)

pub returns-then-relations-w : goal.returns-then-relations-w
returns-then-relations-w c = sym (at_row (goal.at.returns-then-relations-w c).In-loop-i false (le-ltb _ _ c.if-relations-w.true))

-- a relation other than the last row's
abbrev new : Else-relations-w → In-loop-i
new c = (up-In-loop-i _ _ _ _ _ c.before.before.before.before)

pub overflow_cast-arity-then-w-relation : goal.overflow_cast-arity-then-w-relation
overflow_cast-arity-then-w-relation c = omega (arith, (well_formed (new c)).few)

pub offset_bounds-arities-w : goal.offset_bounds-arities-w
offset_bounds-arities-w c = omega (arith, (well_formed (new c)).few)

pub bounds-arities-w : goal.bounds-arities-w
bounds-arities-w c = omega (arith, (well_formed (new (goal.at.bounds-arities-w c).Else-relations-w)).few)

pub overflow_cast-arity-then-w-relation-2 : goal.overflow_cast-arity-then-w-relation-2
overflow_cast-arity-then-w-relation-2 c = omega (arith, (well_formed (new (goal.at.overflow_cast-arity-then-w-relation-2 c).Else-relations-w)).narrow (w (new (goal.at.overflow_cast-arity-then-w-relation-2 c).Else-relations-w)))

-- the relation of the row at index i, new or the last row's, and its arity
module _ (c : Joined-w-relation) where
  abbrev here : In-loop-i
  here = (up-In-loop-i _ _ _ _ _ c.before.before.before)

  known : w here < n here
  known = (elim c.if-w-relation.branch [ then-w-relation+else-relations-w t ↦ t.if-relations-w.false | else-w-relation t ↦ omega (arith, t.if-w-relation.false, here.loop-i.invariant.4) ])

  is_last : c.if-w-relation.relation ≡ w here
  is_last = (elim c.if-w-relation.branch [ then-w-relation+else-relations-w t ↦ t.relation-is | else-w-relation t ↦ t.relation-is ∙ sym t.if-w-relation.false ])

  arity_is : c.if-w-relation.arity ≡ arity_of (ars here) (w here)
  arity_is = (elim c.if-w-relation.branch [ then-w-relation+else-relations-w t ↦ t.arity-is | else-w-relation t ↦ t.arity-is ∙ here.loop-i.invariant.5 ∙ ap (arity_of (ars here)) (sym t.if-w-relation.false) ])

pub overflow_add-next : goal.overflow_add-next
overflow_add-next c = omega (arith, arity_is (goal.at.overflow_add-next c).Joined-w-relation, (well_formed (here (goal.at.overflow_add-next c).Joined-w-relation)).narrow (w (here (goal.at.overflow_add-next c).Joined-w-relation)))

pub returns-then-words-next : goal.returns-then-words-next
returns-then-words-next c = let j = (goal.at.returns-then-words-next c).Joined-w-relation in sym (too_few (here j) (known j) (omega (arith, c.if-words-next.true, arity_is j)))

-- what the call of are_cells says of the row's cells
module _ (c : After-are_cells) where
  abbrev joined : Joined-w-relation
  joined = (up-Joined-w-relation _ _ _ _ _ c.before.before.before.before.before)

  abbrev row : In-loop-i
  row = here joined

  within : i row + 1 + arity_of (ars row) (w row) ≤ length (ws row)
  within = omega (arith, c.if-words-next.false, arity_is joined)

  told : are_cells (take (arity_of (ars row) (w row)) (behind row)) ≡ c.are_cells.result
  told =
      let size : arity_of (ars row) (w row) ≡ i row + 1 + joined.if-w-relation.arity - (i row + 1) = omega (arith, arity_is joined) in
      ap (λ (m : ℕ). are_cells (take m (behind row))) size ∙ sym c.are_cells.ensures

  -- the row's relation is one of eight, and fewer rows than words were counted
  few : w row < max_relations
  few = omega (arith, known joined, (well_formed row).few)

  count-few : get_or row.loop-i.found (w row) 0 ≤ max_words
  count-few =
      omega (arith, row.loop-i.invariant.3.each (w row) few, tuples-few (w row) (ars row) (ws row), row.requires.1)

pub returns-then-not-are_cells : goal.returns-then-not-are_cells
returns-then-not-are_cells c = let b = (goal.at.returns-then-not-are_cells c).After-are_cells in sym (past (row b) (known (joined b)) false (within b) (told b ∙ not-true _ c.if-not-are_cells.true-raw))

pub overflow_cast-found : goal.overflow_cast-found
overflow_cast-found c = omega (arith, few (goal.at.overflow_cast-found c).After-are_cells)

pub offset_bounds-found-w : goal.offset_bounds-found-w
offset_bounds-found-w c = omega (arith, few (goal.at.offset_bounds-found-w c).After-are_cells)

pub bounds-found-w : goal.bounds-found-w
bounds-found-w c = omega (arith, few (goal.at.bounds-found-w c).After-are_cells)

pub overflow_add-found : goal.overflow_add-found
overflow_add-found c = omega (arith, count-few (goal.at.overflow_add-found c).After-are_cells)

pub bounds-found-w-in-loop-i : goal.bounds-found-w-in-loop-i
bounds-found-w-in-loop-i c = omega (arith, few (goal.at.bounds-found-w-in-loop-i c).After-are_cells)

pub loop-i-preserved : goal.loop-i-preserved
loop-i-preserved c =
    let b = (goal.at.loop-i-preserved c).After-are_cells in
    let j = joined b in
    let r = row b in
    let one = sum_one r.loop-i.found (w r) (omega (arith, few b, r.loop-i.invariant.3.size)) in (
      omega arith,
      omega (arith, one),
      past r (known j) true (within b) (told b ∙ not-false _ c.if-not-are_cells.false-raw) ∙
          ap₂ (λ (m a : ℕ). scan_from (n r) (ars r) (right r) m 0 (drop (i r + 1 + a) (ws r))) (sym one) (sym (arity_is j)),
      subst (λ (a : ℕ). RowsCounted (rows_from (ars r) 0 (ws r)) (rows_from (ars r) 0 (drop (i r + 1 + a) (ws r))) (set r.loop-i.found (w r) (get_or r.loop-i.found (w r) 0 + 1)))
          (sym (arity_is j)) (counted-row _ _ _ _ (few b) (rw (rows_at (ars r) (ws r) (i r) (omega arith) (within b)) at r.loop-i.invariant.3)),
      omega (arith, is_last j, known j),
      arity_is j ∙ ap (arity_of (ars r)) (sym (is_last j)),
    )

-- all words are read
module _ (c : After-loop-i) where
  ends : c.loop-i.i ≡ length c.args.words.now
  ends = omega arith

  found_is : c.loop-i.found ≡ row_counts (rows_from c.args.arities.now 0 c.args.words.now)
  found_is = counted-all _ _ (rw (rows_end c.args.arities.now c.args.words.now _ ends) at c.loop-i.invariant.3)

  scanned-is : (b : Bool) → identical c.args.counts.now c.loop-i.found ≡ b
      → scanned_words c.args.relations c.args.arities.now c.args.counts.now c.args.words.now ≡ tally b (sum_of c.loop-i.found)
  scanned-is b e =
      c.loop-i.invariant.2 ∙ ap (scan_from _ _ _ _ 0) (ap (λ (k : ℕ). drop k c.args.words.now) ends ∙ drop-length c.args.words.now) ∙ scan_end _ _ _ _ ∙
      ap (λ (x : Bool). tally x (sum_of c.loop-i.found)) (ap (identical c.args.counts.now) (sym found_is) ∙ e)

pub tally-requires : goal.tally-requires
tally-requires c = let loop = c.loop-i in omega (arith, loop.invariant.0, loop.invariant.1, c.requires.1)

pub returns : goal.returns
returns c = c.tally.ensures ∙ sym (scanned-is (goal.at.returns c).After-loop-i _ refl)
