-- Asking. Document 01: "Question: 41, 21, 26, then nodes by number .., then 45, 46"; "Each call answers either a verdict with its looks or a
-- refusal."
use Rattle.std.specs.Prelude.{ℕ, Bool, true, List, ◌++◌, length, leb}
use Rattle.calculus.specs.Answer.{Answer}
use Rattle.std.specs.Prelude.{Ok, Err}
use Rattle.calculus.specs.Answer.{after}
use Rattle.calculus.specs.declared.refusal.Refusal.TheVariants.{Unsound, BufferTooShort, BudgetSpent, BadQueryLength}
use Rattle.calculus.specs.Row.{Row, cells_of}
use Rattle.calculus.specs.Domain.{range_over}
use Rattle.calculus.specs.Closed.{closed_over}
use Rattle.calculus.specs.Eval.{Outcome, eval}
use Rattle.calculus.specs.Formula.{Query, assignment}
use Rattle.calculus.specs.Model.{Model}
use Rattle.instance.specs.declared.header.Header.{Header}
use Rattle.instance.specs.Sound.{sound, rows}
use Rattle.instance.specs.Run.{model_of}
use Rattle.range.specs.Walked.{walked_range}
use Rattle.query.specs.Named.{named_in, query_of}
use Rattle.query.specs.Check.{Checked, check_query}
use Rattle.calculus.specs.Reading.{refused, read}
use Rattle.answer.specs.Asked.{Asked}
use Rattle.answer.specs.Asked.{verdict}
use Rattle.evaluate.specs.declared.evaluated.Evaluated.{Evaluated}
use Rattle.evaluate.specs.declared.evaluated.Evaluated.TheVariants as evaluated
use Rattle.evaluate.specs.Within.{within}
use Rattle.calculus.specs.Demand.{demand}
use Rattle.calculus.specs.Overwrite.{overwrite}
use Rattle.query.specs.Words.{right_length}

-- goes on only if the question passed its check
abbrev pub if_passed : Checked → Answer → Answer
if_passed (read done s) a = a
if_passed (refused r) a = Err r

-- an evaluation's answer; "46: the question's looks exceed the allowance"
abbrev pub evaluated_as : Evaluated → Asked
evaluated_as (evaluated.Verdict t n) = verdict t n
evaluated_as evaluated.Spent = Err BudgetSpent

-- the answer of the evaluation, if nothing is refused before it
abbrev pub answered_by : Answer → Evaluated → Asked
answered_by (Ok n) e = evaluated_as e
answered_by (Err r) e = Err r

-- the refusals that do not depend on what is lent, in their order; the number of rows if there is none
unfoldable pub admitted : Header → (ws qs candidate : List ℕ) → Answer
admitted h ws qs candidate =
    demand (sound h ws) (Err Unsound)
    (demand (right_length qs) (Err BadQueryLength)
    (if_passed (check_query h.relations h.arities qs candidate) (Ok (length (rows h ws)))))

-- what is lent to a question besides: a list for what quantifiers range over, or none (document 02, request 4: "Asking
-- with no working list")
pub data Lent : Type 0 where
  list : List ℕ → Lent
  none : Lent

-- "45: working list shorter than" its need, n words; document 02: "45 never occurs on this way"
abbrev pub has_place : Lent → ℕ → Bool
has_place (list buffer) n = leb n (length buffer)
has_place none n = true

-- Document 02, request 6: "The working list needs a word for each cell of the plot and each inked term"
abbrev pub needed : Header → (ws qs : List ℕ) → List ℕ
needed h ws qs = cells_of (rows h ws) ++ named_in h.arities qs

-- The most that a question may need: 3,510 cells and 300 inked terms. `proofs/Need.antt`, `need_few`: none needs more.
abbrev pub most_needed : ℕ
most_needed = 3810

-- Where "some" and "every" get their values from: from the list; or by walking the rows "and passing over any cell that
-- stood earlier" (document 02, request 4), and then the question's inked terms in the same way.
abbrev pub range_of : Lent → List ℕ → List Row → List ℕ
range_of (list buffer) named rs = range_over named rs
range_of none named rs = walked_range named rs

-- the question's outcome with that range
abbrev pub outcome_by : Lent → Model → Query → Outcome
outcome_by lent b q = eval (closed_over (range_of lent q.named b.rows) b.rows) q.formula
    (assignment b.candidate)

-- goes on only if nothing is refused so far
abbrev pub if_done : Answer → Answer → Answer
if_done (Ok n) a = a
if_done (Err r) a = Err r

module _ (h : Header) (ws qs candidate : List ℕ) (lent : Lent) where
  -- the refusals before the evaluation
  unfoldable pub askable : Answer
  askable =
      if_done (admitted h ws qs candidate) (demand (has_place lent (length (needed h ws qs)))
      (Err BufferTooShort) (Ok 0))

  unfoldable pub ask : ℕ → Asked
  ask budget = answered_by askable (within budget (outcome_by lent (model_of h ws candidate) (query_of h.arities qs)))

-- "After a verdict or number 46 it holds" what the question ranges over "first, and its other words keep their content.
-- No other refusal touches it."
unfoldable pub asked_buffer : Header → (ws qs candidate buffer : List ℕ) → List ℕ
asked_buffer h ws qs candidate buffer = after (askable h ws qs candidate (list buffer))
    (overwrite (range_over (named_in h.arities qs) (rows h ws)) buffer) buffer
