-- What an accepted decoding returns: the header, and a fresh log.
use Rattle.std.specs.Prelude.{Result, Ok, Err}
use Rattle.calculus.specs.Answer.{Answer}
use Rattle.calculus.specs.declared.refusal.Refusal.{Refusal}
use Rattle.instance.specs.declared.header.Header.{Header}
use Rattle.undo_log.specs.declared.Restarted.{Restarted}
use Rattle.undo_log.specs.Log.{fresh}
use Rattle.card.specs.Decode.{Decoded}

abbrev pub restarted_with : Answer → Header → Result Restarted Refusal
restarted_with (Ok n) h = Ok (record { header = h; log = fresh })
restarted_with (Err why) h = Err why

abbrev pub restarted : Decoded → Result Restarted Refusal
restarted d = restarted_with d.answer d.header

-- the number of words in use, or the refusal
abbrev pub answer_of : Result Restarted Refusal → Answer
answer_of (Ok r) = Ok r.header.used
answer_of (Err why) = Err why
