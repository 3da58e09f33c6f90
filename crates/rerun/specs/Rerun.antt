-- Run A, a list of fills and run B, as one call on lent slices. Document 00, demand 3, document 01, "Run A and run B", and document 02, request 1:
-- "Demand 3's list may hold both kinds".
use Rattle.std.specs.Prelude.{ℕ, ◌≤◌, ◌≡◌, Bool, cond, List, ◌++◌, length, drop, leb}
use Rattle.calculus.specs.Answer.{Answer}
use Rattle.std.specs.Prelude.{Result, Ok, Err}
use Rattle.calculus.specs.declared.refusal.Refusal.{Refusal}
use Rattle.calculus.specs.declared.truth.Truth.{Truth}
use Rattle.calculus.specs.Answer.{after}
use Rattle.calculus.specs.declared.refusal.Refusal.TheVariants.{OutputTooShort}
use Rattle.calculus.specs.Model.{after_fills, outcome_of as outcome}
use Rattle.instance.specs.declared.header.Header.{Header}
use Rattle.instance.specs.Rows.{words_of}
use Rattle.instance.specs.Run.{model_of}
use Rattle.answer.specs.Asked.{Asked}
use Rattle.answer.specs.Asked.{verdict}
use Rattle.answer.specs.Ask.{ask}
use Rattle.answer.specs.Ways.{NoShorter, lent_by, left_by}
use Rattle.answer.specs.declared.way.Way.{Way}
use Rattle.query.specs.Named.{query_of}
use Rattle.answer.specs.Numbers.{TellsVerdict}
use Rattle.answer.specs.Rerun.{Rerun}
use Rattle.rerun.specs.declared.reran.Reran.{Reran}
use Rattle.rerun.specs.declared.fills.Wanted.{Wanted}
use Rattle.rerun.specs.Fills.{wanted_of, Account, account_next, accounts_told, fed_all, stored}
use Rattle.calculus.specs.Demand.{demand}

-- run A's verdict and run B's answer, or a refusal before the fills
abbrev pub Answers : Type 0
Answers = Result Reran Refusal

-- the answers of both runs; run B is not asked if run A is refused
abbrev pub both_runs : Asked → Asked → Answers
both_runs (Ok v) b = Ok (record { first = v; second = b })
both_runs (Err r) b = Err r

-- What a rerun's answer says of run A and of run B; `answer/specs/Numbers.antt` gives each as the paper's numbers.
abbrev pub first_of : Answers → Asked
first_of (Ok r) = Ok r.first
first_of (Err r) = Err r

abbrev pub second_of : Answers → Asked
second_of (Ok r) = r.second
second_of (Err r) = Err r

-- the fills are made only if run A got a verdict
abbrev pub goes_on : Asked → Answer
goes_on (Ok v) = Ok 0
goes_on (Err r) = Err r

-- what a rerun is given besides the instance's words: both runs ask by the same way; run A's buffer and budget are `buffer` and `budget`, run B's are
-- `buffer2` and `budget2`
pub record Given : Type 0 where
  pub way : Way
  pub header : Header
  pub query : List ℕ
  pub candidate : List ℕ
  pub buffer : List ℕ
  pub budget : ℕ
  pub fills : List ℕ
  pub answers : List ℕ
  pub log : List ℕ
  pub used : ℕ
  pub buffer2 : List ℕ
  pub budget2 : ℕ

abbrev pub given : Way → Header → (qs candidate buffer : List ℕ) → (budget : ℕ) → (fills answers log : List ℕ) → (used : ℕ) → (buffer2 : List ℕ) → (budget2 : ℕ) → Given
given way h qs candidate buffer budget fills answers log used buffer2 budget2 = record {
  way = way;
  header = h;
  query = qs;
  candidate = candidate;
  buffer = buffer;
  budget = budget;
  fills = fills;
  answers = answers;
  log = log;
  used = used;
  buffer2 = buffer2;
  budget2 = budget2;
}

module _ (g : Given) (ws : List ℕ) where
  abbrev pub wanted : List Wanted
  wanted = wanted_of g.fills

  -- the model and its log before the fills, and after them
  abbrev pub start : Account
  start = record { model = model_of g.header ws g.candidate; log = g.log; used = g.used }

  abbrev pub end : Account
  end = after_fills account_next wanted start

  -- "afterwards the words in use are the book's rows, all other words and the head are A's"
  abbrev pub model_words : List ℕ
  model_words = words_of end.model.rows ++ drop g.header.used ws

  abbrev pub run_a : Asked
  run_a = ask g.header ws g.query g.candidate (lent_by g.way g.buffer) g.budget

  -- "B asks with the book's candidate"
  abbrev pub run_b : Asked
  run_b = ask g.header model_words g.query end.model.candidate (lent_by g.way g.buffer2) g.budget2

  -- the slice for the answers is at least as long as the slice of the fills
  abbrev pub has_answers : Bool
  has_answers = leb (length g.fills) (length g.answers)

  -- 44 before anything is asked, then the refusals of run A
  unfoldable pub begun : Answer
  begun = demand has_answers (Err OutputTooShort) (goes_on run_a)

  unfoldable pub reran : Answers
  reran = cond has_answers (both_runs run_a run_b) (Err OutputTooShort)

  -- what is left of the instance's words, the candidate, the slice for the answers, the log with its words in use, and the buffers
  unfoldable pub reran_words : List ℕ
  reran_words = after begun model_words ws

  unfoldable pub reran_candidate : List ℕ
  reran_candidate = after begun end.model.candidate g.candidate

  unfoldable pub reran_answers : List ℕ
  reran_answers = after begun (stored (accounts_told wanted start) g.answers) g.answers

  unfoldable pub reran_log : List ℕ
  reran_log = after begun end.log g.log

  unfoldable pub reran_used : ℕ
  reran_used = after begun end.used g.used

  unfoldable pub reran_buffer : List ℕ
  reran_buffer = cond has_answers (left_by g.way g.header ws g.query g.candidate g.buffer) g.buffer

  unfoldable pub reran_buffer2 : List ℕ
  reran_buffer2 = after begun (left_by g.way g.header model_words g.query end.model.candidate g.buffer2) g.buffer2

  -- demand 3 for the answer, if there is room for the fills' answers, run B's buffer and budget are no smaller than run A's, and run A gets a verdict:
  -- r has it, and B is not refused, keeps it if it is true or false, costs no more, and is the verdict of two-valued logic if no null is left
  abbrev pub Claim : Answers → Type 0
  Claim r =
      length g.fills ≤ length g.answers → NoShorter (lent_by g.way g.buffer) (lent_by g.way g.buffer2) → g.budget ≤ g.budget2 →
      (t : Truth) (n : ℕ) → run_a ≡ verdict t n →
      (first_of r ≡ verdict t n) × Rerun g.header ws g.query g.candidate (fed_all wanted start) t n (second_of r)

  -- the answer in the paper's numbers: that of run A, and that of run B on what the fills left
  pub record TellsRuns (r : Answers) : Type 0 where
    pub first : TellsVerdict (first_of r) (first_of reran)
        (outcome start.model (query_of g.header.arities g.query))
    pub second : TellsVerdict (second_of r) (second_of reran)
        (outcome (model_of g.header model_words end.model.candidate) (query_of g.header.arities g.query))

  -- what a rerun returns, and what it leaves of everything that it was lent
  pub record Reruns (r : Answers) (ws' candidate' buffer' answers' log' : List ℕ) (used' : ℕ) (buffer2' : List ℕ) : Type 0 where
    pub answer : r ≡ reran
    pub words : ws' ≡ reran_words
    pub candidate : candidate' ≡ reran_candidate
    pub buffer : buffer' ≡ reran_buffer
    pub answers : answers' ≡ reran_answers
    pub log : log' ≡ reran_log
    pub used : used' ≡ reran_used
    pub buffer2 : buffer2' ≡ reran_buffer2
    pub claim : Claim r
    pub told : TellsRuns r
