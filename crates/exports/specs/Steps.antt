-- The exported calls as the steps of a run. A call is lent a header and a plot: those of the run, or other slices.
use Rattle.std.specs.Prelude.{ℕ, ◌≡◌, List, [], ◌∷◌, length}
use Rattle.calculus.specs.Answer.{Answer}
use Rattle.calculus.specs.Answer.{number_of, value_of}
use Rattle.calculus.specs.Fill.{Logging, unlogged, into_log}
use Rattle.calculus.specs.Model.{Fill, Model, answer_of, next}
use Rattle.answer.specs.Ask.{Lent}
use Rattle.answer.specs.Numbers.{asked_as}
use Rattle.exports.specs.Calls.{decode_answer, decode_header, decode_words, insert_answer, insert_header, insert_words}
use Rattle.exports.specs.Calls.{substitute_answer, substitute_words, log_answer, log_words, undo_answer, undo_words, counts_answer, encode_answer, ask_answer}

-- the run's header and plot
pub record Instance : Type 0 where
  pub header : List ℕ
  pub words : List ℕ

-- a slice that is lent to a call: the run's own, or another one that holds the given words
pub data Slice : Type 0 where
  own : Slice
  another : List ℕ → Slice

abbrev pub given : Slice → List ℕ → List ℕ
given own ws = ws
given (another other) ws = other

-- what is left of the run's own slice, if `new` is left of the slice that was lent
abbrev pub left : Slice → List ℕ → List ℕ → List ℕ
left own new ws = new
left (another other) new ws = ws

-- the calls, each with its own arguments; `used` is the value of the log's words in use before the call
pub data Job : Type 0 where
  asks : (query candidate : List ℕ) → Lent → (budget : ℕ) → Job
  counts encodes : (out : List ℕ) → Job
  inserts : (relation : ℕ) → (cells : List ℕ) → Job
  substitutes : (mark cell : ℕ) → Job
  logs : (log : List ℕ) → (used mark cell : ℕ) → Job
  undoes : (log : List ℕ) → (used : ℕ) → Job
  decodes : (card : List ℕ) → (used : ℕ) → Job

-- the answer of a call, and the number that it returns
abbrev pub answer_on : Job → List ℕ → List ℕ → Answer
answer_on (asks qs candidate lent budget) hs ws = asked_as (ask_answer hs ws qs candidate lent budget)
answer_on (counts out) hs ws = counts_answer hs ws out
answer_on (encodes out) hs ws = encode_answer hs ws out
answer_on (inserts relation cells) hs ws = insert_answer hs ws relation cells
answer_on (substitutes m c) hs ws = substitute_answer hs ws m c
answer_on (logs log used m c) hs ws = log_answer hs ws log used m c
answer_on (undoes log used) hs ws = undo_answer hs ws log used
answer_on (decodes card used) hs ws = decode_answer card hs ws

abbrev pub number_on : Job → List ℕ → List ℕ → ℕ
number_on j hs ws = number_of (answer_on j hs ws)

-- what it leaves of the header and of the plot; a slice that it only reads keeps its content
abbrev pub header_left : Job → List ℕ → List ℕ → List ℕ
header_left (asks qs candidate lent budget) hs ws = hs
header_left (counts out) hs ws = hs
header_left (encodes out) hs ws = hs
header_left (inserts relation cells) hs ws = insert_header hs ws relation cells
header_left (substitutes m c) hs ws = hs
header_left (logs log used m c) hs ws = hs
header_left (undoes log used) hs ws = hs
header_left (decodes card used) hs ws = decode_header card hs ws

abbrev pub words_left : Job → List ℕ → List ℕ → List ℕ
words_left (asks qs candidate lent budget) hs ws = ws
words_left (counts out) hs ws = ws
words_left (encodes out) hs ws = ws
words_left (inserts relation cells) hs ws = insert_words hs ws relation cells
words_left (substitutes m c) hs ws = substitute_words hs ws m c
words_left (logs log used m c) hs ws = log_words hs ws log used m c
words_left (undoes log used) hs ws = undo_words hs ws log used
words_left (decodes card used) hs ws = decode_words card hs ws

pub record Call : Type 0 where
  pub header : Slice
  pub instance : Slice
  pub job : Job

abbrev pub number : Call → Instance → ℕ
number c p = number_on c.job (given c.header p.header) (given c.instance p.words)

abbrev pub leaves : Call → Instance → Instance
leaves c p = record {
  header = left c.header (header_left c.job (given c.header p.header) (given c.instance p.words)) p.header;
  words = left c.instance (words_left c.job (given c.header p.header) (given c.instance p.words)) p.words;
}

-- how C makes a fill: by `plotask_substitute`, or by `plotask_substitute_logged` with a log and its words in use
pub data Making : Type 0 where
  plainly : Making
  with_log : (log : List ℕ) → (used : ℕ) → Making

abbrev pub kind_of : Making → Logging
kind_of plainly = unlogged
kind_of (with_log log used) = into_log (length log) used

abbrev pub fill_of : Making → ℕ → ℕ → Fill
fill_of k m c = record { mark = m; cell = c; log = kind_of k }

abbrev pub fill_job : Making → ℕ → ℕ → Job
fill_job plainly m c = substitutes m c
fill_job (with_log log used) m c = logs log used m c

-- a fill of the run's plot, with the value of `count` before it; or another call
pub data Step : Type 0 where
  fills : Making → (mark cell count : ℕ) → Step
  calls : Call → Step

abbrev pub filled : Making → ℕ → ℕ → Instance → Instance
filled k m c p = record { header = p.header; words = words_left (fill_job k m c) p.header p.words }

unfoldable pub instance_after : List Step → Instance → Instance
instance_after [] p = p
instance_after (fills k m c count ∷ ss) p = instance_after ss (filled k m c p)
instance_after (calls c ∷ ss) p = instance_after ss (leaves c p)

-- "Calls that write no word of the plot may stand between."
unfoldable pub WriteNoWord : List Step → Instance → Type 0
WriteNoWord [] p = Unit
WriteNoWord (fills k m c count ∷ ss) p = WriteNoWord ss (filled k m c p)
WriteNoWord (calls c ∷ ss) p = (leaves c p ≡ p) × WriteNoWord ss (leaves c p)

unfoldable pub fills_among : List Step → List Fill
fills_among [] = []
fills_among (fills k m c count ∷ ss) = fill_of k m c ∷ fills_among ss
fills_among (calls c ∷ ss) = fills_among ss

-- what C sees of a fill: the number that it returns, and the value of `count` after it
pub record Seen : Type 0 where
  pub number : ℕ
  pub count : ℕ

abbrev pub seen : Answer → ℕ → Seen
seen a count = record { number = number_of a; count = value_of a count }

-- what C sees of each fill among the steps, and what it would see by the model's answers
unfoldable pub fills_seen : List Step → Instance → List Seen
fills_seen [] p = []
fills_seen (fills k m c count ∷ ss) p = seen (answer_on (fill_job k m c) p.header p.words) count ∷ fills_seen ss (filled k m c p)
fills_seen (calls c ∷ ss) p = fills_seen ss (leaves c p)

unfoldable pub model_seen : List Step → Model → List Seen
model_seen [] b = []
model_seen (fills k m c count ∷ ss) b = seen (answer_of (fill_of k m c) b) count ∷ model_seen ss (next (fill_of k m c) b)
model_seen (calls c ∷ ss) b = model_seen ss b
