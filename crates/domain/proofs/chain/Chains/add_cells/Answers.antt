-- `domain::chain::Chains::add_cells` meets its contract: the cells before the index are added. Assumes nothing.
use Prim.Native.Nat.{ℕ, ◌+◌, ◌≤◌}
use mathlib.Core.Path.{◌≡◌, refl, ap, ◌∙◌}
use mathlib.Core.List.{List, [], ◌∷◌, ◌++◌}
use native.Mathlib.Omega.{arith}
use native.Mathlib.Numerals.{add-one}
use lib.ListN.{length, take, get_or, length-take}
use lib.Seq.{take-suc}
use Rattle.calculus.specs.Cell.{is_cell}
use Rattle.calculus.proofs.All.{all_get_d}
use Rattle.calculus.proofs.Cells.{cell_below}
use Rattle.domain.proofs.Chains.{added_none, added_then}
use Rattle.domain.proofs.chain.Chains.add_cells.Goals as goal
use Rattle.domain.proofs.chain.Chains.add_cells.Goals.{In-loop-cell}

pub loop-cell-init : goal.loop-cell-init
loop-cell-init c = (c.requires.3, added_none _ _)

-- the cell at the index, and those before it
module _ (c : In-loop-cell) where
  abbrev cs : List ℕ
  cs = c.args.cells.now

  abbrev i : ℕ
  i = c.loop-cell.cell-index

  room : c.loop-cell.self.count + 1 ≤ c.args.self.now.count + length cs
  room = omega (arith, c.loop-cell.invariant.1.most, length-take i cs)

  small : get_or cs i 0 ≤ 1000200
  unfolding is_cell
  small = cell_below (get_or cs i 0) (all_get_d is_cell cs i 0 refl c.requires.2)

  next : take (i + 1) cs ≡ take i cs ++ get_or cs i 0 ∷ []
  next = ap (λ (k : ℕ). take k cs) (add-one i) ∙ take-suc cs i 0 (omega arith)

pub add_value-requires : goal.add_value-requires
add_value-requires c =
    let b = (goal.at.add_value-requires c).In-loop-cell in
    (omega (arith, room b, c.requires.0), omega (arith, room b, c.requires.1), omega (arith, small b), c.loop-cell.invariant.0)

pub loop-cell-preserved : goal.loop-cell-preserved
loop-cell-preserved c =
    let b = (goal.at.loop-cell-preserved c).In-loop-cell in
    let more = added_then c.loop-cell.invariant.1 c.add_value.ensures.added in
    (c.add_value.ensures.chained, rw (← next b) at more)
