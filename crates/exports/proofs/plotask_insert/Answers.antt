-- `exports::plotask_insert` meets its contract: 41 if the header slice is not as long as a header, otherwise the library's call. Assumes nothing.
use Prim.Native.Nat.{ℕ}
use mathlib.Core.Path.{◌≡◌, refl, sym, ap, ◌∙◌}
use mathlib.Core.Bool.{true, false, false≢true}
use mathlib.Core.List.{List}
use Rattle.std.specs.Prelude.{Ok, Err}
use Rattle.std.specs.Result.{is_ok}
use Rattle.calculus.specs.Answer.{Answer}
use Rattle.calculus.specs.Answer.{after, number_of}
use Rattle.instance.specs.declared.header.Header.{Header}
use Rattle.instance.specs.Insert.{inserted, inserted_header, inserted_words}
use Rattle.exports.specs.Words.{header_of, header_words}
use Rattle.exports.specs.Calls.{insert_answer, insert_header, insert_words}
use Rattle.exports.proofs.Headed.{headed_no, kept_no, answered, left}
use Rattle.exports.proofs.HeaderWords.{words_back}
use Rattle.exports.proofs.plotask_insert.Goals as goal
use Rattle.exports.proofs.plotask_insert.Goals.{then-is_ok, else-is_ok}

after_ok : (a : Answer) (new old : List ℕ) → is_ok a ≡ true → after a new old ≡ new
after_ok (Ok n) new old e = refl
after_ok (Err r) new old e = absurd (false≢true e)

after_err : (a : Answer) (new old : List ℕ) → is_ok a ≡ false → after a new old ≡ old
after_err (Ok n) new old e = absurd (false≢true (sym e))
after_err (Err r) new old e = refl

pub returns-then-header-ne-HEADER : goal.returns-then-header-ne-HEADER
unfolding insert_answer insert_header insert_words
returns-then-header-ne-HEADER c =
    let args = c.args in
    let hs = args.header.now in
    let a = headed_no hs c.if-header-ne-HEADER.true _ in record {
      number = c.from.ensures ∙ sym (ap number_of a);
      header = sym (ap (λ (x : Answer). after x (header_words (inserted_header (header_of hs) args.instance.now args.relation args.cells.now)) hs) a);
      words = sym (kept_no hs c.if-header-ne-HEADER.true _ _);
    }

-- a refused call leaves the header, also where its own words were written back
pub returns : goal.returns
unfolding insert_answer insert_header insert_words
returns c =
    let args = c.args in
    let hs = args.header.now in
    let ws = args.instance.now in
    let long = c.if-header-ne-HEADER.false in
    let is = c.read_header-grown.ensures in
    let made = c.insert-answer.ensures in
    let a = answered hs long is (λ h. inserted h ws args.relation args.cells.now) made.answer in
    let new = header_words (inserted_header (header_of hs) ws args.relation args.cells.now) in
    let header : c.if-is_ok.header ≡ after c.insert-answer.result new hs = elim c.if-is_ok.branch [
      | then-is_ok w ↦
          w.header-is ∙ w.write_header.ensures ∙ ap header_words (made.header ∙ ap (λ (h : Header). inserted_header h ws args.relation args.cells.now) is) ∙
          sym (after_ok _ new hs (sym c.is_ok.ensures.value ∙ w.if-is_ok.true))
      | else-is_ok w ↦ cc (after_err _ new hs (sym c.is_ok.ensures.value ∙ w.if-is_ok.false), words_back hs long)
    ] in record {
      number = c.number.ensures ∙ ap number_of a;
      header = header ∙ ap (λ (x : Answer). after x new hs) a;
      words = left hs long is (λ h. inserted_words h ws args.relation args.cells.now) _ made.words;
    }
