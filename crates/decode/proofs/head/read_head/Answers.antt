-- `decode::head::read_head` meets its contract: each path through the tests is a law of reading a head. Assumes nothing.
use Prim.Native.Nat.{◌≤◌}
use mathlib.Core.Path.{◌≡◌, sym, ◌∙◌}
use mathlib.Core.Bool.{true}
use native.Mathlib.Omega.{arith}
use lib.ListN.{length, get_or}
use Rattle.std.proofs.lemmas.Result.{err_from_is_err_and}
use Rattle.instance.specs.Header.{is_count}
use Rattle.decode.proofs.Opening.{head-none, head_bad, head-refused, head-long, head_cut, head-answer, arities_opened}
use Rattle.decode.proofs.head.read_head.Goals as goal
use Rattle.decode.proofs.head.read_head.Goals.{In_ok-arities}

pub returns-in_err-relations : goal.returns-in_err-relations
returns-in_err-relations c =
    let p = err_from_is_err_and c.from_residual.result c.from_residual.ensures.1 in
    let none = c.in_err-relations.ensures in
    rw (p.1, p.2, none.1) record { head = sym (head-none c.args.card.now (omega (arith, none))); counted = tt }

pub returns-then-not-is_count : goal.returns-then-not-is_count
returns-then-not-is_count c =
    let n = c.in_ok-relations.ensures in
    record { head = sym (head_bad c.args.card.now _ n.0 n.1 (sym c.is_count.ensures ∙ c.if-not-is_count.true)); counted = tt }

pub returns-in_err-arities : goal.returns-in_err-arities
returns-in_err-arities c =
    let n = c.in_ok-relations.ensures in
    let p = err_from_is_err_and c.from_residual-in_err-arities.result c.from_residual-in_err-arities.ensures.1 in
    rw (p.1, p.2) record {
      head = sym (head-refused c.args.card.now _ n.0 n.1 (sym c.is_count.ensures ∙ c.if-not-is_count.false) _ c.in_err-arities.ensures);
      counted = tt;
    }

-- the arities that were read
module _ (c : In_ok-arities) where
  some : 1 ≤ length c.args.card.now
  some = c.in_ok-relations.ensures.0

  is : c.in_ok-relations.relations ≡ get_or c.args.card.now 0 0
  is = c.in_ok-relations.ensures.1

  good : is_count c.in_ok-relations.relations ≡ true
  good = sym c.is_count.ensures ∙ c.if-not-is_count.false

pub overflow_sub-card : goal.overflow_sub-card
overflow_sub-card c =
    let b = (goal.at.overflow_sub-card c).In_ok-arities in
    let a = arities_opened c.args.card.now c.in_ok-relations.relations c.in_ok-arities.arities c.in_ok-arities.ensures in
    head-long c.args.card.now _ (some b) (is b) (good b) a.0 a.1 a.2

pub returns-then-card-at-lt2 : goal.returns-then-card-at-lt2
returns-then-card-at-lt2 c =
    let b = (goal.at.returns-then-card-at-lt2 c).In_ok-arities in
    let a = arities_opened c.args.card.now c.in_ok-relations.relations c.in_ok-arities.arities c.in_ok-arities.ensures in
    record { head = sym (head_cut c.args.card.now _ (some b) (is b) (good b) a.0 a.1 a.2 c.if-card-at-lt2.true); counted = tt }

pub returns : goal.returns
returns c =
    let b = (goal.at.returns c).In_ok-arities in
    let a = arities_opened c.args.card.now c.in_ok-relations.relations c.in_ok-arities.arities c.in_ok-arities.ensures in
    record {
      head = rw a.3 (sym (head-answer c.args.card.now _ (some b) (is b) (good b) a.0 a.1 a.2 c.number-rows.ensures.read));
      counted = c.number-rows.ensures.small;
    }
