-- `exports::plotask_null_counts` meets its contract: 41 if the header slice is not as long as a header, otherwise the library's call. Assumes nothing.
use Rattle.instance.specs.NullCounts.{counted, counted_words}
use Rattle.exports.proofs.Headed.{counted_no, counted-yes}
use Rattle.exports.specs.Calls.{counts_answer, counts_words}
use Rattle.exports.proofs.plotask_null_counts.Goals as goal

pub returns-then-header-ne-HEADER : goal.returns-then-header-ne-HEADER
unfolding counts_answer counts_words
returns-then-header-ne-HEADER c =
    let args = c.args in
    let refused = counted_no args.header.now (λ h. counted h args.instance.now args.counts.now) (λ h. counted_words h args.instance.now args.counts.now) _ args.count.now c.from.ensures c.if-header-ne-HEADER.true in record {
      number = refused.0;
      words = refused.1.0;
      count = refused.1.1;
    }

pub returns : goal.returns
unfolding counts_answer counts_words
returns c =
    let args = c.args in
    let made = c.null_counts-answer.ensures in
    let answered = counted-yes args.header.now (λ h. counted h args.instance.now args.counts.now) (λ h. counted_words h args.instance.now args.counts.now) _ args.count.now c.if-header-ne-HEADER.false c.read_header.ensures
    made.answer made.words c.tell.ensures.number c.tell.ensures.value in record {
      number = answered.0;
      words = answered.1.0;
      count = answered.1.1;
    }
