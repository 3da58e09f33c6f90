-- Demand 3 for the exported calls, as C sees it: run A by `plotask_ask` or `plotask_ask_unlisted`, a list of steps with fills by `plotask_substitute` and
-- `plotask_substitute_logged` among them, run B by the same call as run A.
use Rattle.std.specs.Prelude.{ℕ, ◌≤◌, ◌≡◌, true, List, ◌++◌, drop}
use Rattle.calculus.specs.declared.truth.Truth.TheVariants.{Unknown}
use Rattle.calculus.specs.Kleene.{rank}
use Rattle.calculus.specs.Order.{of_bool}
use Rattle.calculus.specs.Model.{Model, run, complete, says_yes}
use Rattle.instance.specs.Rows.{words_of}
use Rattle.instance.specs.Run.{model_of}
use Rattle.query.specs.Named.{query_of}
use Rattle.answer.specs.Asked.{Asked}
use Rattle.answer.specs.Ask.{Lent}
use Rattle.answer.specs.Ways.{NoShorter}
use Rattle.answer.specs.Numbers.{asked_number, verdict_of, cost_of}
use Rattle.exports.specs.Words.{header_of}
use Rattle.exports.specs.Calls.{ask_answer}
use Rattle.exports.specs.Steps.{Instance, Step, instance_after, WriteNoWord, fills_among, fills_seen, model_seen}

-- the model before the steps, and after them
abbrev pub start : Instance → List ℕ → Model
start p candidate = model_of (header_of p.header) p.words candidate

abbrev pub model_after : Instance → List ℕ → List Step → Model
model_after p candidate ss = run (fills_among ss) (start p candidate)

-- What holds of run B, if a and b are the answers of the two runs. `truth` and `cost` are the old values of the places lent to run A, `truth'` and
-- `cost'` those of the places lent to run B.
pub record ExportedRerun (p : Instance) (qs candidate : List ℕ) (ss : List Step) (a b : Asked) (truth cost truth' cost' : ℕ) : Type 0 where
  -- "Each fill answers as the book; afterwards the words in use are the book's rows, all other words and the head are A's"
  pub answered : fills_seen ss p ≡ model_seen ss (start p candidate)
  pub header : (instance_after ss p).header ≡ p.header
  pub words : (instance_after ss p).words ≡ words_of (model_after p candidate ss).rows ++ drop (header_of p.header).used p.words
  -- "B is not refused"
  pub number : asked_number b ≡ 0
  -- "if A's verdict is true or false, B's is the same"
  pub kept : (verdict_of a truth ≡ rank Unknown → ⊥) → verdict_of b truth' ≡ verdict_of a truth
  -- "the looks it answers are at most those that A answered"
  pub no_more : cost_of b cost' ≤ cost_of a cost
  -- "If B's plot and candidate hold no mark, B's verdict is true exactly when ordinary two-valued logic .. says yes, and false exactly when it says no."
  pub two_valued :
      complete (model_after p candidate ss) ≡ true → verdict_of b truth'
      ≡ rank (of_bool (says_yes (model_after p candidate ss) (query_of (header_of p.header).arities qs)))

-- Every header, plot, question, candidate, allowance, working list or none, and list of steps; B's allowance and list may be larger. Run A got a verdict if it
-- returned 0.
abbrev pub ExportedDemandThree : Type 0
ExportedDemandThree =
    (p : Instance) (qs candidate : List ℕ) (lent : Lent) (budget : ℕ) (ss : List Step) (lent' : Lent) (budget' truth cost truth' cost' : ℕ) →
    WriteNoWord ss p → NoShorter lent lent' → budget ≤ budget' →
    asked_number (ask_answer p.header p.words qs candidate lent budget) ≡ 0 →
    ExportedRerun p qs candidate ss (ask_answer p.header p.words qs candidate lent budget)
    (ask_answer (instance_after ss p).header (instance_after ss p).words qs (model_after p candidate ss).candidate lent' budget') truth cost truth' cost'
