-- `exports::plotask_ask` meets its contract: 41 if the header slice is not as long as a header, otherwise the library's call. Assumes nothing.
use mathlib.Core.Path.{sym, ap, ◌∙◌}
use Rattle.answer.specs.Asked.{Asked}
use Rattle.std.specs.Prelude.{Err}
use Rattle.calculus.specs.declared.refusal.Refusal.TheVariants.{Unsound}
use Rattle.answer.specs.Ask.{list, ask, asked_buffer}
use Rattle.answer.specs.Numbers.{asked_number, verdict_of, cost_of}
use Rattle.exports.specs.Calls.{ask_answer, ask_buffer}
use Rattle.exports.proofs.Headed.{kept_no, left}
use Rattle.exports.proofs.plotask_ask.Goals as goal

pub returns-then-header-ne-HEADER : goal.returns-then-header-ne-HEADER
unfolding ask_answer ask_buffer
returns-then-header-ne-HEADER c =
    let args = c.args in
    let a = sym (kept_no args.header.now c.if-header-ne-HEADER.true _ (Err Unsound)) in record {
      number = c.from.ensures ∙ ap asked_number a;
      buffer = sym (kept_no args.header.now c.if-header-ne-HEADER.true _ _);
      truth = ap (λ (x : Asked). verdict_of x args.truth.now) a;
      cost = ap (λ (x : Asked). cost_of x args.cost.now) a;
    }

pub returns : goal.returns
unfolding ask_answer ask_buffer
returns c =
    let args = c.args in
    let hs = args.header.now in
    let long = c.if-header-ne-HEADER.false in
    let is = c.read_header.ensures in
    let made = c.ask-asked.ensures in
    let a = left hs long is (λ h. ask h args.instance.now args.query.now args.candidate.now (list args.buffer.now) args.budget) (Err Unsound) made.answer in record {
      number = c.tell_verdict.ensures.number ∙ ap asked_number a;
      buffer = left hs long is (λ h. asked_buffer h args.instance.now args.query.now args.candidate.now args.buffer.now) _ made.buffer;
      truth = c.tell_verdict.ensures.truth ∙ ap (λ (x : Asked). verdict_of x args.truth.now) a;
      cost = c.tell_verdict.ensures.cost ∙ ap (λ (x : Asked). cost_of x args.cost.now) a;
    }
