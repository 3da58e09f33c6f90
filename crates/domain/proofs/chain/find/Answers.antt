-- `domain::chain::find` meets its contract: the chain of the cell's bucket goes on at `place`. Assumes nothing.
use Prim.Native.Nat.{ℕ, ◌-◌, ◌≤◌, ◌<◌}
use mathlib.Core.Path.{◌≡◌, sym}
use mathlib.Core.Bool.{true}
use mathlib.Core.List.{List}
use native.Mathlib.Omega.{arith}
use lib.ListN.{length, get_or}
use Rattle.calculus.specs.Listed.{listed}
use Rattle.domain.specs.Chains.{word_value, word_link, values_of, Chain}
use Rattle.domain.proofs.Chains.{chain_falls, chain_ends, chain_goes, chain_none}
use Rattle.domain.proofs.chain.find.Goals as goal
use Rattle.domain.proofs.chain.find.Goals.{In-loop-place}

-- the word at `place`, which counts from 1
module _ (c : In-loop-place) where
  abbrev list : List ℕ
  list = c.args.list.now

  abbrev head : ℕ
  head = c.args.head

  abbrev cell : ℕ
  cell = c.args.cell

  abbrev place : ℕ
  place = c.loop-place.place

  abbrev w : ℕ
  w = get_or list (place - 1) 0

  within : place ≤ length list
  within = omega (arith, c.loop-place.invariant.within)

  found : word_value w ≡ cell → listed cell (values_of head list) ≡ true
  found e = chain_ends c.requires.1 c.loop-place.invariant within (omega arith) e

  other : (word_value w ≡ cell → ⊥) → Chain list cell head (word_link w)
  other ne = chain_goes c.requires.1 c.loop-place.invariant within (omega arith) ne

  falls : word_link w < place
  falls = chain_falls c.requires.1 c.loop-place.invariant within (omega arith)

pub returns-then-w-cell : goal.returns-then-w-cell
returns-then-w-cell c = sym (found (goal.at.returns-then-w-cell c).In-loop-place c.if-w-cell.true)

pub loop-place-smaller : goal.loop-place-smaller
loop-place-smaller c = falls (goal.at.loop-place-smaller c).In-loop-place

pub loop-place-preserved : goal.loop-place-preserved
loop-place-preserved c = other (goal.at.loop-place-preserved c).In-loop-place c.if-w-cell.false

pub returns : goal.returns
returns c = sym (chain_none c.loop-place.invariant (omega arith))
