-- `exports::plotask_substitute` meets its contract: 41 if the header slice is not as long as a header, otherwise the library's call. Assumes nothing.
use Rattle.calculus.specs.Fill.{unlogged}
use Rattle.instance.specs.Substitute.{substituted, substituted_words}
use Rattle.exports.proofs.Headed.{counted_no, counted-yes}
use Rattle.exports.specs.Calls.{substitute_answer, substitute_words}
use Rattle.exports.proofs.plotask_substitute.Goals as goal

pub returns-then-header-ne-HEADER : goal.returns-then-header-ne-HEADER
unfolding substitute_answer substitute_words
returns-then-header-ne-HEADER c =
    let args = c.args in
    let refused = counted_no args.header.now (λ h. substituted h args.instance.now unlogged args.mark args.cell) (λ h. substituted_words h args.instance.now unlogged args.mark args.cell) _ args.count.now c.from.ensures c.if-header-ne-HEADER.true in record {
      number = refused.0;
      words = refused.1.0;
      count = refused.1.1;
    }

pub returns : goal.returns
unfolding substitute_answer substitute_words
returns c =
    let args = c.args in
    let made = c.substitute-answer.ensures in
    let answered = counted-yes args.header.now (λ h. substituted h args.instance.now unlogged args.mark args.cell) (λ h. substituted_words h args.instance.now unlogged args.mark args.cell) _ args.count.now c.if-header-ne-HEADER.false c.read_header.ensures
    made.answer made.words c.tell.ensures.number c.tell.ensures.value in record {
      number = answered.0;
      words = answered.1.0;
      count = answered.1.1;
    }
