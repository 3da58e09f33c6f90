-- `exports::plotask_ask_unlisted` meets its contract: 41 if the header slice is not as long as a header, otherwise the library's call. Assumes nothing.
use mathlib.Core.Path.{sym, ap, ◌∙◌}
use Rattle.answer.specs.Asked.{Asked}
use Rattle.std.specs.Prelude.{Err}
use Rattle.calculus.specs.declared.refusal.Refusal.TheVariants.{Unsound}
use Rattle.answer.specs.Ask.{none, ask}
use Rattle.answer.specs.Numbers.{asked_number, verdict_of, cost_of}
use Rattle.exports.specs.Calls.{ask_answer}
use Rattle.exports.proofs.Headed.{kept_no, left}
use Rattle.exports.proofs.plotask_ask_unlisted.Goals as goal

pub returns-then-header-ne-HEADER : goal.returns-then-header-ne-HEADER
unfolding ask_answer
returns-then-header-ne-HEADER c =
    let args = c.args in
    let a = sym (kept_no args.header.now c.if-header-ne-HEADER.true _ (Err Unsound)) in record {
      number = c.from.ensures ∙ ap asked_number a;
      truth = ap (λ (x : Asked). verdict_of x args.truth.now) a;
      cost = ap (λ (x : Asked). cost_of x args.cost.now) a;
    }

pub returns : goal.returns
unfolding ask_answer
returns c =
    let args = c.args in
    let hs = args.header.now in
    let made = c.ask_unlisted-asked.ensures in
    let a =
    left hs c.if-header-ne-HEADER.false c.read_header.ensures (λ h. ask h args.instance.now args.query.now args.candidate.now none args.budget) (Err Unsound)
    made.answer
    in record {
      number = c.tell_verdict.ensures.number ∙ ap asked_number a;
      truth = c.tell_verdict.ensures.truth ∙ ap (λ (x : Asked). verdict_of x args.truth.now) a;
      cost = c.tell_verdict.ensures.cost ∙ ap (λ (x : Asked). cost_of x args.cost.now) a;
    }
