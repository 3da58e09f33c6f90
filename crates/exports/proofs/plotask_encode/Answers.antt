-- `exports::plotask_encode` meets its contract: 41 if the header slice is not as long as a header, otherwise the library's call. Assumes nothing.
use Rattle.card.specs.Encode.{encoded, encoded_bytes}
use Rattle.exports.proofs.Headed.{counted_no, counted-yes}
use Rattle.exports.specs.Calls.{encode_answer, encode_bytes}
use Rattle.exports.proofs.plotask_encode.Goals as goal

pub returns-then-header-ne-HEADER : goal.returns-then-header-ne-HEADER
unfolding encode_answer encode_bytes
returns-then-header-ne-HEADER c =
    let args = c.args in
    let refused = counted_no args.header.now (λ h. encoded h args.instance.now args.card.now) (λ h. encoded_bytes h args.instance.now args.card.now) _ args.count.now c.from.ensures c.if-header-ne-HEADER.true in record {
      number = refused.0;
      bytes = refused.1.0;
      count = refused.1.1;
    }

pub returns : goal.returns
unfolding encode_answer encode_bytes
returns c =
    let args = c.args in
    let made = c.encode-answer.ensures in
    let answered = counted-yes args.header.now (λ h. encoded h args.instance.now args.card.now) (λ h. encoded_bytes h args.instance.now args.card.now) _ args.count.now c.if-header-ne-HEADER.false c.read_header.ensures
    made.answer made.bytes c.tell.ensures.number c.tell.ensures.value in record {
      number = answered.0;
      bytes = answered.1.0;
      count = answered.1.1;
    }
