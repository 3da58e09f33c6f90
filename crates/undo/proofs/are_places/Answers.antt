-- `undo::are_places` meets its contract: the places from index i decide, and a row starts at `row`. Assumes nothing.
use Prim.Native.Nat.{ℕ, ◌≤◌, ◌+◌}
use mathlib.Core.Path.{◌≡◌, refl, sym, ap, ◌∙◌}
use mathlib.Core.Bool.{Bool, true, false, ◌&&◌}
use mathlib.Core.List.{List}
use native.Mathlib.Omega.{arith}
use lib.ListN.{length, get_or, drop}
use lib.Seq.{drop-length}
use Rattle.calculus.specs.All.{all}
use Rattle.calculus.specs.Row.{Row}
use Rattle.calculus.proofs.All.{all_rest}
use Rattle.instance.specs.Rows.{rows_from}
use Rattle.instance.proofs.Rows.{words_back}
use Rattle.undo_log.specs.Places.{is_place, are_places}
use Rattle.undo.proofs.RowStarts.{row-start_0}
use Rattle.undo.proofs.Places.{place_beyond, place_of-relation, place_of-cell}
use Rattle.undo.proofs.are_places.Goals as goal
use Rattle.undo.proofs.are_places.Lts.View.{up-In-loop-p}
use Rattle.undo.proofs.are_places.Goals.{After-row_of-row, In-loop-p, else-place-row, then-place-row}

by_instance_well_formed_row_start_from_le_place : {A B C : Type 0} → A × (B × C) → record { instance_well_formed : A; row_start : B; from_le_place : C }
by_instance_well_formed_row_start_from_le_place p = record { instance_well_formed = p.0; row_start = p.1.0; from_le_place = p.1.1 }

pub loop-p-init : goal.loop-p-init
loop-p-init c = (row-start_0 _ _ _, refl)

-- the place at index i
module _ (c : In-loop-p) where
  abbrev n : ℕ
  n = c.args.relations

  abbrev ars : List ℕ
  ars = c.args.arities.now

  abbrev ws : List ℕ
  ws = c.args.words.now

  abbrev places : List ℕ
  places = c.args.places.now

  abbrev rs : List Row
  rs = rows_from ars 0 ws

  abbrev i : ℕ
  i = c.loop-p.p-index

  abbrev place : ℕ
  place = get_or places i 0

  seen : (b : Bool) → is_place rs place ≡ b → are_places rs places ≡ b && are_places rs (drop (i + 1) places)
  seen b e = c.loop-p.invariant.1 ∙ all_rest (is_place rs) places i (omega arith) ∙ ap (λ (b : Bool). b && are_places rs (drop (i + 1) places)) e

  beyond : length ws ≤ place → is_place rs place ≡ false
  beyond l = place_beyond rs place (omega (arith, ap length (words_back n ars 0 ws c.requires.words)))

pub returns-then-words-place : goal.returns-then-words-place
returns-then-words-place c = let b = (goal.at.returns-then-words-place c).In-loop-p in sym (seen b false (beyond b (omega arith)))

pub row_of-row-requires : goal.row_of-row-requires
row_of-row-requires c =
    let b = (goal.at.row_of-row-requires c).In-loop-p in by_instance_well_formed_row_start_from_le_place ((elim c.if-place-row.branch [ then-place-row a ↦ (c.requires, (rw a.row-is (row-start_0 (n b) (ars b) (ws b)), (omega (arith, a.row-is), omega arith))) | else-place-row a ↦ (c.requires, (rw a.row-is c.loop-p.invariant.0, (omega (arith, a.row-is), omega arith))) ]))

-- what the row's start says of the place
module _ (c : After-row_of-row) where
  abbrev loop : In-loop-p
  loop = (up-In-loop-p _ _ _ _ _ _ c.before.before.before.before.before)

  relation : c.row_of-row.result ≡ place loop → is_place (rs loop) (place loop) ≡ false
  relation e = place_of-relation c.row_of-row.ensures loop.requires.words (omega arith) e

  cell : (c.row_of-row.result ≡ place loop → ⊥) → is_place (rs loop) (place loop) ≡ true
  cell ne = place_of-cell c.row_of-row.ensures loop.requires.words (omega arith) ne

pub returns-then-row-place : goal.returns-then-row-place
returns-then-row-place c = sym (seen (loop (goal.at.returns-then-row-place c).After-row_of-row) false (relation (goal.at.returns-then-row-place c).After-row_of-row (omega (arith, c.row_of-row.ensures.low))))

pub loop-p-preserved : goal.loop-p-preserved
loop-p-preserved c = (c.row_of-row.ensures.start, seen (loop (goal.at.loop-p-preserved c).After-row_of-row) true (cell (goal.at.loop-p-preserved c).After-row_of-row (λ q. omega arith)))

pub returns : goal.returns
unfolding all
returns c =
    let places = c.args.places.now in
    let e : c.loop-p.p-index ≡ length places = omega arith in
    rw (c.loop-p.invariant.1, e, drop-length)
