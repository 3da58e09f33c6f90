-- The whole job: from the input's bytes to the line's. Document 01, "The program": "Its plot slice and working list have 4,096 words each. Its own
-- fields are checked first (10, 11, 18), then the card, then the question."
use Rattle.std.specs.Prelude.{ℕ, ◌+◌, ◌*◌, List, length, replicate, leb}
use Rattle.calculus.specs.Answer.{Answer}
use Rattle.std.specs.Prelude.{Ok, Err}
use Rattle.calculus.specs.Demand.{demand}
use Rattle.calculus.specs.Overwrite.{overwrite}
use Rattle.calculus.specs.Reading.{read, refused}
use Rattle.calculus.specs.Refusal.{refusal_number}
use Rattle.instance.specs.declared.header.Header.{Header}
use Rattle.instance.specs.Header.{max_words}
use Rattle.parse.specs.Parse.{Parsed}
use Rattle.card.specs.Decode.{Decoded, decoded}
use Rattle.answer.specs.Asked.{Asked}
use Rattle.answer.specs.Ask.{list, ask}
use Rattle.query.specs.Words.{node_words, max_nodes}
use Rattle.line.specs.Fields.{Fields, read_input}
use Rattle.line.specs.Text.{verdict_line, refused_line, max_line}

-- the plot slice before the card is read, and also the working list
unfoldable pub blank : List ℕ
blank = replicate max_words 0

-- One node more than a question may have. A question with more words is refused for its length, so its other words are not read.
abbrev pub looked_at : ℕ
looked_at = (max_nodes + 1) * node_words

-- the answer to the question about a plot
abbrev pub asked_instance : Fields → Header → List ℕ → Asked
asked_instance f h ws = ask h ws f.words f.candidate (list blank) f.budget

-- goes on only if the card is accepted
abbrev pub if_read : Answer → Asked → Asked
if_read (Ok used) a = a
if_read (Err r) a = Err r

-- "then the card, then the question"
abbrev pub asked_decoded : Fields → Decoded → Asked
asked_decoded f d = if_read d.answer (asked_instance f d.header d.words)

unfoldable pub asked_card : Fields → Asked
asked_card f = asked_decoded f (decoded f.card blank)

abbrev pub asked_fields : Parsed Fields → Asked
asked_fields (read f bs) = asked_card f
asked_fields (refused r) = Err r

unfoldable pub answered : List ℕ → Asked
answered input = asked_fields (read_input input)

abbrev pub line_for : Asked → List ℕ
line_for (Ok v) = verdict_line v.truth v.cost
line_for (Err r) = refused_line (refusal_number r)

unfoldable pub line_of : List ℕ → List ℕ
line_of input = line_for (answered input)

-- an output of fewer than max_line bytes gets no line
unfoldable pub line_length : List ℕ → List ℕ → ℕ
line_length input out = demand (leb max_line (length out)) 0 (length (line_of input))

unfoldable pub line_out : List ℕ → List ℕ → List ℕ
line_out input out = demand (leb max_line (length out)) out (overwrite (line_of input) out)
