-- Document 02, request 1: "Over noted fills, take-backs and row entries, in any sequence from a fresh log, each handed plot and log as the last left
-- them, the plot is what the history says: the rows as entered, with the fills that still count."
use Rattle.std.specs.Prelude.{ℕ, suc, ◌≡◌, ◌↔◌, true, List, [], ◌∷◌, ◌++◌, length, take}
use Rattle.calculus.specs.Answer.{Answer}
use Rattle.std.specs.Prelude.{Ok, Err}
use Rattle.calculus.specs.Answer.{after}
use Rattle.calculus.specs.Fill.{into_log, held, substitute, filled}
use Rattle.calculus.specs.Overwrite.{overwrite}
use Rattle.calculus.specs.declared.refusal.Refusal.TheVariants.{LogEmpty, BadLog}
use Rattle.calculus.specs.Row.{Row}
use Rattle.instance.specs.declared.header.Header.{Header}
use Rattle.instance.specs.Rows.{words_of}
use Rattle.instance.specs.Sound.{sound, rows, header_for}
use Rattle.instance.specs.Insert.{enterable, inserted, inserted_header, inserted_words}
use Rattle.undo_log.specs.Log.{fresh, entry_of, logged, logged_words, logged_log, logged_used, undone, undone_words, undone_used}

-- ---- the calls

-- a logged fill of a null by a cell, an undo, an insert
pub data Step : Type 0 where
  fills : (mark cell : ℕ) → Step
  undoes : Step
  inserts : Row → Step

-- an instance and its log
pub record State : Type 0 where
  pub header : Header
  pub words : List ℕ
  pub log : List ℕ
  pub used : ℕ

-- what a call returns, and what it leaves
abbrev pub step_answer : Step → State → Answer
step_answer (fills m c) s = logged s.header s.words s.log s.used m c
step_answer undoes s = undone s.header s.words s.log s.used
step_answer (inserts r) s = inserted s.header s.words r.relation r.cells

abbrev pub step_state : Step → State → State
step_state (fills m c) s = record {
  header = s.header;
  words = logged_words s.header s.words s.log s.used m c;
  log = logged_log s.header s.words s.log s.used m c;
  used = logged_used s.header s.words s.log s.used m c;
}
step_state undoes s = record {
  header = s.header;
  words = undone_words s.header s.words s.log s.used;
  log = s.log;
  used = undone_used s.header s.words s.log s.used;
}
step_state (inserts r) s = record {
  header = inserted_header s.header s.words r.relation r.cells;
  words = inserted_words s.header s.words r.relation r.cells;
  log = s.log;
  used = s.used;
}

unfoldable pub step_answers : List Step → State → List Answer
step_answers [] s = []
step_answers (p ∷ ps) s = step_answer p s ∷ step_answers ps (step_state p s)

unfoldable pub state_after : List Step → State → State
state_after [] s = s
state_after (p ∷ ps) s = state_after ps (step_state p s)

-- ---- the history

-- what counts: a row that was inserted, a fill that was made and not taken back
pub data Event : Type 0 where
  insertion : Row → Event
  filling : (mark cell : ℕ) → Event

-- A history is a list of events, the latest first.

-- the rows that a history leaves of the rows at its start; a fill acts on the rows that stand at its time
unfoldable pub rows_by : List Event → List Row → List Row
rows_by [] rs = rs
rows_by (insertion r ∷ es) rs = rows_by es rs ++ r ∷ []
rows_by (filling m c ∷ es) rs = substitute m c (rows_by es rs)

-- the log's words: the entries of the fills that count, the oldest first
unfoldable pub entries_by : List Event → List Row → List ℕ
entries_by [] rs = []
entries_by (insertion r ∷ es) rs = entries_by es rs
entries_by (filling m c ∷ es) rs = entries_by es rs ++ entry_of m (rows_by es rs)

-- the number of fills that count
unfoldable pub fills_in : List Event → ℕ
fills_in [] = 0
fills_in (insertion r ∷ es) = fills_in es
fills_in (filling m c ∷ es) = suc (fills_in es)

-- the latest fill struck out
unfoldable pub struck : List Event → List Event
struck [] = []
struck (insertion r ∷ es) = insertion r ∷ struck es
struck (filling m c ∷ es) = es

-- what undo returns, asked of the history: the number of cells of the latest fill, or 48 if no fill counts
unfoldable pub undo_by : List Event → List Row → Answer
undo_by [] rs = Err LogEmpty
undo_by (insertion r ∷ es) rs = undo_by es rs
undo_by (filling m c ∷ es) rs = Ok (held m (rows_by es rs))

module _ (h : Header) (ws log : List ℕ) where
  -- what a step returns, asked of the history
  abbrev pub answer_by : Step → List Event → Answer
  answer_by (fills m c) es = filled (into_log (length log) (length (entries_by es (rows h ws)))) m c (rows_by es (rows h ws))
  answer_by undoes es = undo_by es (rows h ws)
  answer_by (inserts r) es = enterable (header_for h.relations h.arities (rows_by es (rows h ws))) r.relation r.cells (length ws)

  -- the history after an accepted step; a refused step adds nothing
  abbrev pub happens : Step → List Event → List Event
  happens (fills m c) es = filling m c ∷ es
  happens undoes es = struck es
  happens (inserts r) es = insertion r ∷ es

  abbrev pub events_after : Step → List Event → List Event
  events_after p es = after (answer_by p es) (happens p es) es

  unfoldable pub answers_by : List Step → List Event → List Answer
  answers_by [] es = []
  answers_by (p ∷ ps) es = answer_by p es ∷ answers_by ps (events_after p es)

  unfoldable pub history : List Step → List Event → List Event
  history [] es = es
  history (p ∷ ps) es = history ps (events_after p es)

-- ---- the claim

-- the state is what the history makes of an instance and a fresh log: sound, the history's rows and their header, the words after them as at the start;
-- the log's words in use are the entries of the fills that count
pub record Follows (h : Header) (ws log : List ℕ) (es : List Event) (s : State) : Type 0 where
  pub is_sound : sound s.header s.words ≡ true
  pub holds : rows s.header s.words ≡ rows_by es (rows h ws)
  pub header : s.header ≡ header_for h.relations h.arities (rows_by es (rows h ws))
  pub words : s.words ≡ overwrite (words_of (rows_by es (rows h ws))) ws
  pub size : length s.words ≡ length ws
  pub log_size : length s.log ≡ length log
  pub used : s.used ≡ length (entries_by es (rows h ws))
  pub entries : take s.used s.log ≡ entries_by es (rows h ws)

abbrev pub start : Header → List ℕ → List ℕ → State
start h ws log = record { header = h; words = ws; log = log; used = fresh }

-- every sound instance, log and list of steps, refused ones included: every answer, and what is left
abbrev pub HistoryHolds : Type 0
HistoryHolds =
    (h : Header) (ws log : List ℕ) (ps : List Step) → sound h ws ≡ true →
    (step_answers ps (start h ws log) ≡ answers_by h ws log ps []) × Follows h ws log (history h ws log ps []) (state_after ps (start h ws log))

-- after any list of steps: no step is refused with 49, and undo is refused with 48 exactly if no fill counts
abbrev pub NeverBad : Type 0
NeverBad =
    (h : Header) (ws log : List ℕ) (ps : List Step) (p : Step) → sound h ws ≡ true →
    step_answer p (state_after ps (start h ws log)) ≡ Err BadLog → ⊥

abbrev pub EmptyIfNoFillCounts : Type 0
EmptyIfNoFillCounts =
    (h : Header) (ws log : List ℕ) (ps : List Step) → sound h ws ≡ true →
    (step_answer undoes (state_after ps (start h ws log)) ≡ Err LogEmpty) ↔ (fills_in (history h ws log ps []) ≡ 0)
