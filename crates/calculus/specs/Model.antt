-- The model of a run (document 01, "Run A and run B": the book). "It starts with A's rows, in plot order, and A's candidate. A fill that the
-- tables refuse, asked of the book's rows, leaves it as it is and answers that refusal .. Any other puts c in every cell of rows and
-- candidate that held m, and answers how many of those were in rows."
use Rattle.std.specs.Prelude.{ℕ, ◌≡◌, Bool, true, ◌&&◌, List, [], ◌∷◌, map}
use Rattle.calculus.specs.Answer.{Answer}
use Rattle.calculus.specs.Answer.{after}
use Rattle.calculus.specs.Cell.{put, all_constant}
use Rattle.calculus.specs.Row.{Row, map_row, cells_of}
use Rattle.calculus.specs.Formula.{Query, assignment}
use Rattle.calculus.specs.Domain.{range_over}
use Rattle.calculus.specs.Eval.{Outcome, eval}
use Rattle.calculus.specs.Closed.{closed}
use Rattle.calculus.specs.TwoValued.{says}
use Rattle.calculus.specs.Unify.{Valuation, under}
use Rattle.calculus.specs.Order.{◌⊑ₒ◌, of_bool}
use Rattle.calculus.specs.Fill.{Logging, substitute, filled}

-- "fed each one's mark and cell alone"; "for a noted one the book is also fed the log's length and the log's words in use"
pub record Fill : Type 0 where
  pub mark : ℕ
  pub cell : ℕ
  pub log : Logging

pub record Model : Type 0 where
  pub rows : List Row
  pub candidate : List ℕ

-- a question asked of the model, by the three-valued rules and by two-valued logic
abbrev pub outcome_of : Model → Query → Outcome
outcome_of b q = eval (closed q.named b.rows) q.formula (assignment b.candidate)

abbrev pub says_yes : Model → Query → Bool
says_yes b q = says (range_over q.named b.rows) b.rows q.formula (assignment b.candidate)

-- no cell of the rows or of the candidate holds a null
abbrev pub complete : Model → Bool
complete b = all_constant (cells_of b.rows) && all_constant b.candidate

abbrev pub answer_of : Fill → Model → Answer
answer_of f b = filled f.log f.mark f.cell b.rows

abbrev pub next : Fill → Model → Model
next f b = after (answer_of f b) (record { rows = substitute f.mark f.cell b.rows; candidate = map (put f.mark f.cell) b.candidate }) b

-- a list of fills, each applied to what the previous one left: the state after all of them, and what each of them returns
unfoldable pub after_fills : {S F : Type 0} → (F → S → S) → List F → S → S
after_fills step [] s = s
after_fills step (f ∷ fs) s = after_fills step fs (step f s)

unfoldable pub fill_answers : {S F A : Type 0} → (F → S → A) → (F → S → S) → List F → S → List A
fill_answers answer step [] s = []
fill_answers answer step (f ∷ fs) s = answer f s ∷ fill_answers answer step fs (step f s)

-- the same for the model
abbrev pub run : List Fill → Model → Model
run fs b = after_fills next fs b

abbrev pub answers : List Fill → Model → List Answer
answers fs b = fill_answers answer_of next fs b

-- the model under a valuation of its nulls
abbrev pub valued : Valuation → Model → Model
valued v b = record { rows = map (map_row (under v)) b.rows; candidate = map (under v) b.candidate }

-- What run A and run B share, for one question and a whole list of fills. "if A's verdict is true or false, B's is the same .. the looks it
-- answers are at most those that A answered. If B's plot and candidate hold no mark, B's verdict is true exactly when ordinary two-valued
-- logic .. says yes, and false exactly when it says no."
pub record Shared (fs : List Fill) (b : Model) (q : Query) : Type 0 where
  pub kept : outcome_of b q ⊑ₒ outcome_of (run fs b) q
  pub two_valued : complete (run fs b) ≡ true → (outcome_of (run fs b) q).truth ≡ of_bool (says_yes (run fs b) q)
