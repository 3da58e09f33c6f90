-- `exports::plotask_decode` meets its contract: 41 if the header slice is not as long as a header, otherwise the library's call. Assumes nothing.
use mathlib.Core.Path.{◌≡◌, sym, ap, ◌∙◌}
use Rattle.calculus.specs.Answer.{Answer}
use Rattle.calculus.specs.Answer.{after, number_of}
use Rattle.instance.specs.declared.header.Header.{Header}
use Rattle.card.specs.Decode.{decoded}
use Rattle.undo_log.specs.Log.{fresh}
use Rattle.undo_log.specs.declared.Restarted.{Restarted}
use Rattle.decode.specs.Restarted.{restarted_with, answer_of}
use Rattle.std.specs.Prelude.{Ok, Err}
use Rattle.exports.specs.Words.{header_words}
use Rattle.exports.specs.Calls.{decode_answer, decode_header, decode_words, decode_used}
use Rattle.exports.proofs.Headed.{headed_no, kept_no, headed_yes, kept_yes}
use Rattle.exports.proofs.HeaderWords.{words_back}
use Rattle.exports.proofs.plotask_decode.Goals as goal

-- what an accepted card leaves
restarted_is : (a : Answer) (h : Header) (r : Restarted) → restarted_with a h ≡ Ok r → r ≡ record { header = h; log = fresh }
restarted_is (Ok n) h r e = cc
restarted_is (Err why) h r e = cc

pub returns-then-header-ne-HEADER : goal.returns-then-header-ne-HEADER
unfolding decode_answer decode_header decode_words decode_used
returns-then-header-ne-HEADER c =
    let args = c.args in
    let hs = args.header.now in
    let a = headed_no hs c.if-header-ne-HEADER.true _ in record {
      number = c.from.ensures ∙ sym (ap number_of a);
      header = sym (ap (λ (x : Answer). after x (header_words (decoded args.card.now args.instance.now).header) hs) a);
      words = sym (kept_no hs c.if-header-ne-HEADER.true _ _);
      used = sym (ap (λ (x : Answer). after x fresh args.used.now) a);
    }

pub returns-in-Ok : goal.returns-in-Ok
unfolding decode_answer decode_header decode_words decode_used
returns-in-Ok c =
    let args = c.args in
    let hs = args.header.now in
    let long = c.if-header-ne-HEADER.false in
    let made = c.decode.ensures in
    let d = decoded args.card.now args.instance.now in
    let a = sym (ap answer_of c.in-Ok.is) ∙ made.answer ∙ sym (headed_yes hs long d.answer) in
    let same = restarted_is d.answer d.header c.in-Ok.restarted (sym made.result ∙ c.in-Ok.is) in record {
      number = ap number_of a;
      header = c.write_header.ensures ∙ ap (λ (r : Restarted). header_words r.header) same ∙ ap (λ (x : Answer). after x (header_words d.header) hs) a;
      words = made.words ∙ sym (kept_yes hs long d.words args.instance.now);
      used = ap (λ (r : Restarted). r.log) same ∙ ap (λ (x : Answer). after x fresh args.used.now) a;
    }

-- also where the header's own words were written back
pub returns-in-Err : goal.returns-in-Err
unfolding decode_answer decode_header decode_words decode_used
returns-in-Err c =
    let args = c.args in
    let hs = args.header.now in
    let long = c.if-header-ne-HEADER.false in
    let made = c.decode.ensures in
    let d = decoded args.card.now args.instance.now in
    let a = sym (ap answer_of c.in-Err.is) ∙ made.answer ∙ sym (headed_yes hs long d.answer) in record {
      number = c.from-in-Err.ensures ∙ ap number_of a;
      header = cc (ap (λ (x : Answer). after x (header_words d.header) hs) a, words_back hs long);
      words = made.words ∙ sym (kept_yes hs long d.words args.instance.now);
      used = ap (λ (x : Answer). after x fresh args.used.now) a;
    }
