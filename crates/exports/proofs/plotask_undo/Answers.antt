-- `exports::plotask_undo` meets its contract: 41 if the header slice is not as long as a header, otherwise the library's call. Assumes nothing.
use mathlib.Core.Path.{sym, ap, ◌∙◌}
use Rattle.calculus.specs.Answer.{Answer}
use Rattle.calculus.specs.Answer.{number_of, value_of}
use Rattle.undo_log.specs.Log.{undone, undone_words, undone_used}
use Rattle.exports.specs.Calls.{undo_answer, undo_words, undo_used}
use Rattle.exports.proofs.Headed.{headed_no, kept_no, answered, left}
use Rattle.exports.proofs.plotask_undo.Goals as goal

pub returns-then-header-ne-HEADER : goal.returns-then-header-ne-HEADER
unfolding undo_answer undo_words undo_used
returns-then-header-ne-HEADER c =
    let args = c.args in
    let hs = args.header.now in
    let no = c.if-header-ne-HEADER.true in
    let a = headed_no hs no _ in record {
      number = c.from.ensures ∙ sym (ap number_of a);
      words = sym (kept_no hs no _ _);
      used = sym (kept_no hs no _ _);
      count = sym (ap (λ (x : Answer). value_of x args.count.now) a);
    }

pub returns : goal.returns
unfolding undo_answer undo_words undo_used
returns c =
    let args = c.args in
    let hs = args.header.now in
    let long = c.if-header-ne-HEADER.false in
    let is = c.read_header.ensures in
    let made = c.undo-answer.ensures in
    let a = answered hs long is (λ h. undone h args.instance.now args.log.now args.used.now) made.answer in record {
      number = c.tell.ensures.number ∙ ap number_of a;
      words = left hs long is (λ h. undone_words h args.instance.now args.log.now args.used.now) _ made.words;
      used = left hs long is (λ h. undone_used h args.instance.now args.log.now args.used.now) _ made.used;
      count = c.tell.ensures.value ∙ ap (λ (x : Answer). value_of x args.count.now) a;
    }
