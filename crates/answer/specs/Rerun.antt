-- Runs A and B of a question, with a list of fills between them. Document 00, demand 3, and document 01, "Run A and run B".
use Rattle.std.specs.Prelude.{ℕ, ◌≤◌, ◌≡◌, true, List}
use Rattle.calculus.specs.declared.truth.Truth.{Truth}
use Rattle.calculus.specs.Order.{◌⊑◌, of_bool}
use Rattle.calculus.specs.Model.{Fill, run, complete, says_yes}
use Rattle.instance.specs.declared.header.Header.{Header}
use Rattle.instance.specs.Run.{filled_words, model_of, Ran}
use Rattle.query.specs.Named.{query_of}
use Rattle.answer.specs.Asked.{Asked}
use Rattle.answer.specs.Asked.{verdict}
use Rattle.answer.specs.Ask.{Lent, ask}
use Rattle.answer.specs.Ways.{NoShorter}

-- The answer b of run B after the fills, if run A got the verdict t with cost n: b is not refused; it is t if t is true or false; it costs no
-- more; and if no null is left, it is the verdict of two-valued logic.
pub record Rerun (h : Header) (ws qs candidate : List ℕ) (fs : List Fill) (t : Truth) (n : ℕ) (b : Asked) : Type 0 where
  pub ran : Ran h fs ws candidate
  pub truth : Truth
  pub cost : ℕ
  pub answers : b ≡ verdict truth cost
  pub kept : t ⊑ truth
  pub no_more : cost ≤ n
  pub two_valued :
      complete (run fs (model_of h ws candidate)) ≡ true →
      truth ≡ of_bool (says_yes (run fs (model_of h ws candidate)) (query_of h.arities qs))

-- the whole of demand 3: every instance, question, candidate, budget and list of fills, by every way of asking; run B asks by the same way as run A
abbrev pub DemandThree : Type 0
DemandThree =
    (h : Header) (ws qs candidate : List ℕ) (lent : Lent) (budget : ℕ) (fs : List Fill) (lent' : Lent) (budget' : ℕ) →
    NoShorter lent lent' → budget ≤ budget' →
    (t : Truth) (n : ℕ) → ask h ws qs candidate lent budget ≡ verdict t n →
    Rerun h ws qs candidate fs t n (ask h (filled_words h fs ws) qs (run fs (model_of h ws candidate)).candidate lent' budget')
