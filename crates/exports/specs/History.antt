-- The history for the exported calls, as C sees it: `plotask_substitute_logged`, `plotask_undo` and `plotask_insert` in any sequence on one plot and log,
-- from a log of no words in use.
use Rattle.std.specs.Prelude.{ℕ, ◌≡◌, ◌↔◌, true, List, [], ◌∷◌, map, length}
use Rattle.calculus.specs.Answer.{Answer}
use Rattle.calculus.specs.Answer.{number_of, value_of}
use Rattle.calculus.specs.Refusal.{log_empty, bad_log}
use Rattle.calculus.specs.Row.{Row}
use Rattle.instance.specs.declared.header.Header.{Header}
use Rattle.instance.specs.Sound.{sound, rows, header_for}
use Rattle.undo_log.specs.Log.{fresh}
use Rattle.undo_log.specs.History.{Event, rows_by, fills_in, answer_by, events_after, history}
use Rattle.undo_log.specs.History as library
use Rattle.exports.specs.Words.{header_length, header_of, header_words}
use Rattle.exports.specs.Calls.{decode_answer, decode_header, decode_words, decode_used}
use Rattle.exports.specs.Calls.{log_answer, log_words, log_log, log_used, undo_answer, undo_words, undo_used, insert_answer, insert_header, insert_words}
use Rattle.exports.specs.Steps.{Seen}

-- each call with its own arguments; `count` is the value of the number that it is lent for the count
pub data Step : Type 0 where
  fills : (mark cell count : ℕ) → Step
  undoes : (count : ℕ) → Step
  inserts : Row → Step

-- the plot with its header's words, the log, and the log's words in use
pub record State : Type 0 where
  pub header : List ℕ
  pub words : List ℕ
  pub log : List ℕ
  pub used : ℕ

abbrev pub step_answer : Step → State → Answer
step_answer (fills m c count) s = log_answer s.header s.words s.log s.used m c
step_answer (undoes count) s = undo_answer s.header s.words s.log s.used
step_answer (inserts r) s = insert_answer s.header s.words r.relation r.cells

abbrev pub step_state : Step → State → State
step_state (fills m c count) s = record {
  header = s.header;
  words = log_words s.header s.words s.log s.used m c;
  log = log_log s.header s.words s.log s.used m c;
  used = log_used s.header s.words s.log s.used m c;
}
step_state (undoes count) s = record {
  header = s.header;
  words = undo_words s.header s.words s.log s.used;
  log = s.log;
  used = undo_used s.header s.words s.log s.used;
}
step_state (inserts r) s = record {
  header = insert_header s.header s.words r.relation r.cells;
  words = insert_words s.header s.words r.relation r.cells;
  log = s.log;
  used = s.used;
}

-- what C sees of a call that returned a: its number, and the count, of which an insert has none
abbrev pub seen_of : Step → Answer → Seen
seen_of (fills m c count) a = record { number = number_of a; count = value_of a count }
seen_of (undoes count) a = record { number = number_of a; count = value_of a count }
seen_of (inserts r) a = record { number = number_of a; count = 0 }

unfoldable pub steps_seen : List Step → State → List Seen
steps_seen [] s = []
steps_seen (p ∷ ps) s = seen_of p (step_answer p s) ∷ steps_seen ps (step_state p s)

unfoldable pub state_after : List Step → State → State
state_after [] s = s
state_after (p ∷ ps) s = state_after ps (step_state p s)

-- the library's step
abbrev pub step_of : Step → library.Step
step_of (fills m c count) = library.fills m c
step_of (undoes count) = library.undoes
step_of (inserts r) = library.inserts r

module _ (h : Header) (ws log : List ℕ) where
  -- what C would see by the history's answers
  unfoldable pub history_seen : List Step → List Event → List Seen
  history_seen [] es = []
  history_seen (p ∷ ps) es = seen_of p (answer_by h ws log (step_of p) es) ∷ history_seen ps (events_after h ws log (step_of p) es)

  abbrev pub events_of : List Step → List Event
  events_of ps = history h ws log (map step_of ps) []

abbrev pub start : List ℕ → List ℕ → List ℕ → State
start hs ws log = record { header = hs; words = ws; log = log; used = fresh }

abbrev pub state_of : State → library.State
state_of s = record { header = header_of s.header; words = s.words; log = s.log; used = s.used }

-- what holds after a list of steps, if hs is the header slice at the start
pub record Ended (hs ws log : List ℕ) (ps : List Step) : Type 0 where
  pub seen : steps_seen ps (start hs ws log) ≡ history_seen (header_of hs) ws log ps []
  -- the header's words are those of the header of the history's rows; the rest as in the library's claim
  pub header :
      (state_after ps (start hs ws log)).header ≡
      header_words (header_for (header_of hs).relations (header_of hs).arities (rows_by (events_of (header_of hs) ws log ps) (rows (header_of hs) ws)))
  pub follows : library.Follows (header_of hs) ws log (events_of (header_of hs) ws log ps) (state_of (state_after ps (start hs ws log)))
  -- no call returns 49 next, and undo returns 48 exactly if no fill counts
  pub never_bad : (p : Step) → number_of (step_answer p (state_after ps (start hs ws log))) ≡ bad_log → ⊥
  pub empty :
      (count : ℕ) → (number_of (step_answer (undoes count) (state_after ps (start hs ws log))) ≡ log_empty) ↔ (fills_in (events_of (header_of hs) ws log ps) ≡ 0)

-- every sound plot with its header's words, every log and list of steps, refused ones included
abbrev pub ExportedHistory : Type 0
ExportedHistory =
    (hs ws log : List ℕ) (ps : List Step) → length hs ≡ header_length → sound (header_of hs) ws ≡ true → Ended hs ws log ps

-- "Reading a card starts a fresh log": whatever header, plot, log and words in use were before, an accepted decode leaves a start of a history
abbrev pub HistoryFromCard : Type 0
HistoryFromCard =
    (card hs ws log : List ℕ) (used : ℕ) (ps : List Step) → number_of (decode_answer card hs ws) ≡ 0 →
    (decode_used card hs ws used ≡ fresh) × Ended (decode_header card hs ws) (decode_words card hs ws) log ps
