-- `line::asking::answer` meets its contract: the input or its card is refused, or the question is asked. Assumes nothing.
use mathlib.Core.Path.{◌∙◌}
use Rattle.std.proofs.lemmas.Result.{err_from_is_err_and}
use Rattle.card.specs.Decode.{decoded}
use Rattle.line.specs.Fields.{fields_in}
use Rattle.line.specs.Line.{blank, asked_card, answered}
use Rattle.line.proofs.Answering.{card-refused, card-read}
use Rattle.line.proofs.asking.answer.Goals as goal

pub returns-in_err-parts : goal.returns-in_err-parts
unfolding answered
returns-in_err-parts c =
    let p = err_from_is_err_and c.from_residual.result c.from_residual.ensures.1 in
    rw (p.1, p.2, c.in_err-parts.ensures)

pub returns-in_err-restarted : goal.returns-in_err-restarted
unfolding blank asked_card answered
returns-in_err-restarted c =
    let p = err_from_is_err_and c.from_residual-in_err-restarted.result c.from_residual-in_err-restarted.ensures.1 in
    let parts = c.in_ok-parts.parts in
    rw (p.1, p.2, c.in_ok-parts.ensures.0) (card-refused (fields_in parts) (decoded parts.card.now blank) c.in_err-restarted.ensures.result)

pub ask_instance-requires : goal.ask_instance-requires
ask_instance-requires c = c.in_ok-parts.ensures.1

pub returns : goal.returns
unfolding blank asked_card answered
returns c =
    let parts = c.in_ok-parts.parts in
    c.ask_instance.ensures
    ∙ rw c.in_ok-parts.ensures.0 (card-read (fields_in parts) (decoded parts.card.now blank) c.in_ok-restarted.restarted _ c.in_ok-restarted.ensures.result c.in_ok-restarted.ensures.words)
