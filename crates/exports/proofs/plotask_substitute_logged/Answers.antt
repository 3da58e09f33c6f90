-- `exports::plotask_substitute_logged` meets its contract: 41 if the header slice is not as long as a header, otherwise the library's call. Assumes nothing.
use mathlib.Core.Path.{sym, ap, ◌∙◌}
use Rattle.calculus.specs.Answer.{Answer}
use Rattle.calculus.specs.Answer.{number_of, value_of}
use Rattle.undo_log.specs.Log.{logged, logged_words, logged_log, logged_used}
use Rattle.exports.specs.Calls.{log_answer, log_words, log_log, log_used}
use Rattle.exports.proofs.Headed.{headed_no, kept_no, answered, left}
use Rattle.exports.proofs.plotask_substitute_logged.Goals as goal

pub returns-then-header-ne-HEADER : goal.returns-then-header-ne-HEADER
unfolding log_answer log_words log_log log_used
returns-then-header-ne-HEADER c =
    let args = c.args in
    let hs = args.header.now in
    let no = c.if-header-ne-HEADER.true in
    let a = headed_no hs no _ in record {
      number = c.from.ensures ∙ sym (ap number_of a);
      words = sym (kept_no hs no _ _);
      log = sym (kept_no hs no _ _);
      used = sym (kept_no hs no _ _);
      count = sym (ap (λ (x : Answer). value_of x args.count.now) a);
    }

pub returns : goal.returns
unfolding log_answer log_words log_log log_used
returns c =
    let args = c.args in
    let hs = args.header.now in
    let long = c.if-header-ne-HEADER.false in
    let is = c.read_header-head.ensures in
    let made = c.substitute_logged-answer.ensures in
    let a = answered hs long is (λ h. logged h args.instance.now args.log.now args.used.now args.mark args.cell) made.answer in record {
      number = c.tell.ensures.number ∙ ap number_of a;
      words = left hs long is (λ h. logged_words h args.instance.now args.log.now args.used.now args.mark args.cell) _ made.words;
      log = left hs long is (λ h. logged_log h args.instance.now args.log.now args.used.now args.mark args.cell) _ made.log;
      used = left hs long is (λ h. logged_used h args.instance.now args.log.now args.used.now args.mark args.cell) _ made.used;
      count = c.tell.ensures.value ∙ ap (λ (x : Answer). value_of x args.count.now) a;
    }
