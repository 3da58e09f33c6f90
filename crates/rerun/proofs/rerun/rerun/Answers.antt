-- `rerun::rerun::rerun` meets its contract: its three ends are those of the definition. Assumes nothing.
use Prim.Native.Nat.{ℕ}
use mathlib.Core.Path.{◌≡◌, ◌∙◌}
use mathlib.Core.List.{List}
use native.Mathlib.Omega.{arith}
use borrow.Author.Rules.{rules}
use Rattle.std.specs.Prelude.{Ok, Err}
use Rattle.rerun.specs.Rerun.{Given, given}
use Rattle.rerun.proofs.Endings.{no_place, refused, few-cells, both_asked}
use Rattle.rerun.proofs.rerun.rerun.Goals as goal
use Rattle.rerun.proofs.rerun.rerun.Goals.{Start}

-- what the call is given
module _ (c : Start) where
  abbrev g : Given
  g = given c.args.way c.args.header c.args.query.now c.args.candidate.now c.args.buffer.now c.args.budget c.args.fills.now c.args.answers.now c.args.log.now c.args.used.now c.args.buffer2.now c.args.budget2

  abbrev ws : List ℕ
  ws = c.args.instance.now

pub returns-then-answers-fills : goal.returns-then-answers-fills
returns-then-answers-fills c =
    let s = (goal.at.returns-then-answers-fills c).Start in
    no_place (g s) (ws s) c.if-answers-fills.true

pub fill_all-requires : goal.fill_all-requires
fill_all-requires c =
    let s = (goal.at.fill_all-requires c).Start in
    let was : Ok c.in_ok-first.first ≡ c.ask_by.result = grind arith in
    let few = few-cells (g s) (ws s) _ _ (was ∙ c.ask_by.ensures.answer) in
    (omega arith, c.if-answers-fills.false)

pub returns-in_err-first : goal.returns-in_err-first
returns-in_err-first c =
    let s = (goal.at.returns-in_err-first c).Start in
    let e : c.from_residual.result ≡ Err c.in_err-first.field-0.0 = search rules in
    let was : Err c.in_err-first.field-0.0 ≡ c.ask_by.result = grind arith in
    rw e (refused (g s) (ws s) c.if-answers-fills.false _ (was ∙ c.ask_by.ensures.answer) _ c.ask_by.ensures.buffer)

pub returns : goal.returns
returns c =
    let s = (goal.at.returns c).Start in
    let was : Ok c.in_ok-first.first ≡ c.ask_by.result = grind arith in
    both_asked (g s) (ws s) c.if-answers-fills.false c.in_ok-first.first.truth c.in_ok-first.first.cost (was ∙ c.ask_by.ensures.answer)
    _ _ _ _ _ _ _ _ c.ask_by.ensures.buffer c.fill_all.ensures.left c.fill_all.ensures.answers (grind arith ∙ c.ask_by-second.ensures.answer)
    c.ask_by-second.ensures.buffer
