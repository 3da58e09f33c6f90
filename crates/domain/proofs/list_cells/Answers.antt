-- `domain::list_cells` meets its contract: the first n words of the buffer are chained, and hold the values of the rows before i. Assumes nothing.
use Prim.Native.Nat.{ℕ, ◌<◌, ◌+◌}
use mathlib.Core.Path.{◌≡◌}
use mathlib.Core.List.{List, [], ◌++◌}
use native.Mathlib.Omega.{arith}
use lib.ListN.{length, take, drop, get_or}
use Rattle.calculus.specs.Row.{Row, cells_of}
use Rattle.instance.specs.Header.{arity_of, max_relations}
use Rattle.instance.specs.InstanceWellFormed.{InstanceOf}
use Rattle.instance.specs.Rows.{rows_from}
use Rattle.instance.proofs.Walk.{walk_in, AtRow, row_here, rows_end, relation-few, row_lent}
use Rattle.domain.proofs.Listing.{Naming, naming-starts, naming-room, naming-node, naming-all}
use Rattle.domain.proofs.list_cells.Goals as goal
use Rattle.domain.proofs.list_cells.Goals.{After-loop-i, In-loop-i, Start}

pub loop-i-init : goal.loop-i-init
loop-i-init c = (walk_in _ _ c.requires.instance_of.0, omega arith, c.requires.instance_of.1, rw c.requires.instance_of.2 (naming-starts _ _ 0))

-- the row at index i
module _ (c : In-loop-i) where
  abbrev start : Start
  start = c.before.before.before.before.before

  abbrev given : InstanceOf start.args.arities.now start.args.words.now
  given = c.loop-i.invariant.0.0

  abbrev ars : List ℕ
  ars = start.args.arities.now

  abbrev ws : List ℕ
  ws = start.args.words.now

  abbrev i : ℕ
  i = c.loop-i.i

  abbrev a : ℕ
  a = arity_of ars (get_or ws i 0)

  abbrev row : Row
  row = record { relation = get_or ws i 0; cells = take a (drop (i + 1) ws) }

  here : AtRow given.relations ars ws i
  here = row_here given.relations ars ws i (omega arith) c.loop-i.invariant.0.1

  few : get_or ws i 0 < max_relations
  few = relation-few given.relations ars ws (get_or ws i 0) given.well_formed here.relation

  sum : i + 1 + a ≡ i + (1 + a)
  sum = omega arith

  abbrev rest : List ℕ
  rest = cells_of (rows_from ars 0 (drop (i + (1 + a)) ws))

  to_come : Naming (cells_of (rows_from ars 0 ws)) start.args.buffer.now 0 c.loop-i.buffer c.loop-i.chains.count (row.cells ++ rest)
  unfolding cells_of
  to_come = rw here.rows at c.loop-i.invariant.3

pub bounds-arities-words : goal.bounds-arities-words
bounds-arities-words c = few (goal.at.bounds-arities-words c).In-loop-i

pub slice_bounds-add_cells-end : goal.slice_bounds-add_cells-end
slice_bounds-add_cells-end c = omega (arith, (here (goal.at.slice_bounds-add_cells-end c).In-loop-i).next.within)

pub add_cells-requires : goal.add_cells-requires
add_cells-requires c =
    let b = (goal.at.add_cells-requires c).In-loop-i in
    let h = here b in
    rw (row_lent (ws b) (i b) (a b)) (
      omega (arith, naming-room (row b).cells (rest b) (to_come b), (to_come b).added.long, b.requires.words_in_bounds),
      omega (arith, h.size, h.next.within, b.requires.instance_of.0.well_formed.few),
      h.cells,
      c.loop-i.invariant.2,
    )

pub loop-i-preserved : goal.loop-i-preserved
loop-i-preserved c =
    let b = (goal.at.loop-i-preserved c).In-loop-i in
    let added = rw (row_lent (ws b) (i b) (a b)) at c.add_cells.ensures.added in
    rw (sum b) ((given b, (here b).next), omega (arith, added.most, (here b).size), c.add_cells.ensures.chained, naming-node (row b).cells (rest b) (to_come b) added)

all_listed :
    (c : After-loop-i) →
    Naming
    (cells_of (rows_from c.args.arities.now 0 c.args.words.now))
    c.args.buffer.now 0 c.loop-i.buffer c.loop-i.chains.count []
unfolding cells_of
all_listed c =
    let ws = c.args.words.now in
    let e : c.loop-i.i ≡ length ws = omega (arith, c.loop-i.invariant.0.1.within) in
    rw (rows_end c.args.arities.now ws _ e) at c.loop-i.invariant.3

pub returns : goal.returns
returns c =
    record {
      chained = c.loop-i.invariant.2;
      added = naming-all (all_listed c);
    }
