-- Worked histories, as one table under one claim: what the calls return and leave, and what the history says of them.
use Rattle.calculus.specs.declared.refusal.Refusal.TheVariants.{NoSuchNull, NullAbsent, LogTooShort, LogEmpty}
use Rattle.std.specs.Prelude.{ℕ, ◌≡◌, List, [], ◌∷◌, ◌++◌, map, take, replicate}
use Rattle.calculus.specs.Answer.{Answer}
use Rattle.std.specs.Prelude.{Ok, Err}
use Rattle.calculus.specs.Cell.{null}
use Rattle.calculus.specs.Row.{Row, cells_of}
use Rattle.instance.specs.declared.header.Header.{Header}
use Rattle.instance.specs.Rows.{words_of}
use Rattle.instance.specs.Sound.{rows, header_for}
use Rattle.undo_log.specs.History.{Step, fills, undoes, inserts, State, Event, step_answers, state_after, start, answers_by, history, rows_by, entries_by}

-- what steps return, the cells of the rows that they leave, and the log's words in use
pub record Result : Type 0 where
  pub answers : List Answer
  pub left : List ℕ
  pub entries : List ℕ

-- An instance of one relation with one column, and its steps. `cells` has the cell of each row, and there is room for two more rows; `log` is the
-- number of words of the log.
pub record Case : Type 0 where
  pub cells : List ℕ
  pub log : ℕ
  pub steps : List Step
  pub result : Result

abbrev row : ℕ → Row
row c = record { relation = 0; cells = c ∷ [] }

module _ (c : Case) where
  abbrev pub header : Header
  header = header_for 1 (1 ∷ 0 ∷ 0 ∷ 0 ∷ 0 ∷ 0 ∷ 0 ∷ 0 ∷ []) (map row c.cells)

  abbrev pub words : List ℕ
  words = words_of (map row c.cells) ++ replicate 4 0

  abbrev pub log_given : List ℕ
  log_given = replicate c.log 9

  abbrev pub end : State
  end = state_after c.steps (start header words log_given)

  abbrev pub by_calls : Result
  by_calls = record {
    answers = step_answers c.steps (start header words log_given);
    left = cells_of (rows end.header end.words);
    entries = take end.used end.log;
  }

  abbrev pub events : List Event
  events = history header words log_given c.steps []

  abbrev pub by_history : Result
  by_history = record {
    answers = answers_by header words log_given c.steps [];
    left = cells_of (rows_by events (rows header words));
    entries = entries_by events (rows header words);
  }

  abbrev pub Holds : Type 0
  Holds = (by_calls ≡ c.result) × (by_history ≡ c.result)

unfoldable pub AllHold : List Case → Type 0
AllHold [] = Unit
AllHold (c ∷ cs) = Holds c × AllHold cs

abbrev m1 : ℕ
m1 = null 1

abbrev m2 : ℕ
m2 = null 2

abbrev case : List ℕ → ℕ → List Step → List Answer → List ℕ → List ℕ → Case
case cells log steps answers left entries = record { cells = cells; log = log; steps = steps; result = record { answers = answers; left = left; entries = entries } }

abbrev pub table : List Case
table =
    -- two cells are noted, by their places, the mark and their number
    case (m1 ∷ 8 ∷ m1 ∷ []) 4 (fills 1 5 ∷ []) (Ok 2 ∷ []) (5 ∷ 8 ∷ 5 ∷ []) (1 ∷ 5 ∷ 1 ∷ 2 ∷ [])
    -- the entry needs four words
    ∷ case (m1 ∷ 8 ∷ m1 ∷ []) 3 (fills 1 5 ∷ []) (Err LogTooShort ∷ []) (m1 ∷ 8 ∷ m1 ∷ []) []
    -- taken back, the mark is in the cells that it left and in no other
    ∷ case (m1 ∷ 5 ∷ m1 ∷ []) 4 (fills 1 5 ∷ undoes ∷ undoes ∷ []) (Ok 2 ∷ Ok 2 ∷ Err LogEmpty ∷ []) (m1 ∷ 5 ∷ m1 ∷ []) []
    -- a fill does not reach a row that is inserted after it, and stays if a later one is taken back
    ∷ case (m1 ∷ []) 6 (fills 1 5 ∷ inserts (row m1) ∷ fills 1 7 ∷ undoes ∷ []) (Ok 1 ∷ Ok 4 ∷ Ok 1 ∷ Ok 1 ∷ []) (5 ∷ m1 ∷ []) (1 ∷ 1 ∷ 1 ∷ [])
    -- an insert is not taken back: the latest fill is
    ∷ case (m1 ∷ []) 3 (fills 1 5 ∷ inserts (row 8) ∷ undoes ∷ []) (Ok 1 ∷ Ok 4 ∷ Ok 1 ∷ []) (m1 ∷ 8 ∷ []) []
    -- a mark by another and back, and by itself
    ∷ case (m1 ∷ m2 ∷ []) 7 (fills 1 m2 ∷ fills 2 m2 ∷ undoes ∷ undoes ∷ []) (Ok 1 ∷ Ok 2 ∷ Ok 2 ∷ Ok 1 ∷ []) (m1 ∷ m2 ∷ []) []
    -- refused steps add nothing
    ∷ case (m1 ∷ []) 3 (undoes ∷ fills 0 5 ∷ fills 2 5 ∷ fills 1 5 ∷ fills 1 5 ∷ undoes ∷ [])
    (Err LogEmpty ∷ Err NoSuchNull ∷ Err NullAbsent ∷ Ok 1 ∷ Err NullAbsent ∷ Ok 1 ∷ []) (m1 ∷ []) []
    ∷ []

abbrev pub WorkedHistories : Type 0
WorkedHistories = AllHold table
