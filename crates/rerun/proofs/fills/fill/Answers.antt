-- `rerun::fills::fill` meets its contract: an accepted fill is of a null, and counts at most as many cells as an instance has words. Assumes nothing.
use Prim.Native.Nat.{ℕ}
use mathlib.Core.Path.{◌≡◌, sym, ◌∙◌}
use mathlib.Core.List.{List}
use native.Mathlib.Omega.{arith}
use borrow.Author.Tests.{leb-true}
use lib.Dec.{leb}
use Rattle.std.specs.Prelude.{Ok}
use Rattle.calculus.specs.Cell.{nulls}
use Rattle.calculus.specs.Model.{Fill}
use Rattle.calculus.proofs.Bools.{and_parts}
use Rattle.instance.specs.declared.header.Header.{Header}
use Rattle.instance.specs.Run.{fill_answer}
use Rattle.instance.proofs.Accepted.{substitute-accepted}
use Rattle.rerun.specs.Fills.{fed}
use Rattle.rerun.proofs.FillLaws.{count-few}
use Rattle.rerun.proofs.fills.fill.Goals as goal
use Rattle.rerun.proofs.fills.fill.Goals.{In_ok-count}

-- the fill that was accepted
module _ (c : In_ok-count) where
  abbrev h : Header
  h = c.args.header

  abbrev ws : List ℕ
  ws = c.args.instance.now

  abbrev f : Fill
  f = fed c.args.fill c.args.log.now c.args.used.now

  accepted : fill_answer h f ws ≡ Ok c.in_ok-count.count
  accepted = sym c.fill_instance.ensures.answer ∙ c.in_ok-count.was

pub replace-requires : goal.replace-requires
replace-requires c =
    let b = (goal.at.replace-requires c).In_ok-count in
    let m = c.args.fill.mark in
    let mark = and_parts (leb 1 m) (leb m nulls) (substitute-accepted (h b) (ws b) (f b).log m c.args.fill.cell _ (accepted b)).mark in
    (omega (arith, leb-true m nulls mark.1), c.requires)

pub returns-clause-few : goal.returns-clause-few
returns-clause-few c = let b = (goal.at.returns-clause-few c).In_ok-count in λ k e. count-few (h b) (f b) (ws b) k (accepted b ∙ e)
