-- The answer to a question in the paper's numbers, if it is the definition's answer. Assumes nothing.
use Prim.Native.Nat.{ℕ}
use mathlib.Core.Path.{◌≡◌, refl, sym, ap, ◌∙◌}
use mathlib.Core.List.{List}
use Rattle.calculus.specs.declared.truth.Truth.{Truth}
use Rattle.calculus.specs.Answer.{after}
use Rattle.calculus.specs.Kleene.{rank}
use Rattle.calculus.specs.Eval.{Outcome}
use Rattle.calculus.specs.Model.{outcome_of}
use Rattle.instance.specs.declared.header.Header.{Header}
use Rattle.instance.specs.Run.{model_of}
use Rattle.query.specs.Named.{query_of}
use Rattle.answer.specs.Asked.{Asked}
use Rattle.answer.specs.Asked.{verdict}
use Rattle.std.specs.Prelude.{Ok, Err}
use Rattle.answer.specs.Ask.{Lent, ask}
use Rattle.answer.specs.Numbers.{asked_as, asked_number, verdict_of, cost_of, TellsVerdict}
use Rattle.evaluate.proofs.Budget.{was_verdict}
use Rattle.answer.proofs.RerunLaws.{verdict-asked}

-- if the answer is a verdict, it is the outcome's
abbrev pub Of : Outcome → Asked → Type 0
Of o a = (t : Truth) (n : ℕ) → a ≡ verdict t n → (o.truth ≡ t) × (o.cost ≡ n)

pub tells_verdict : {r a : Asked} (o : Outcome) → r ≡ a → Of o a → TellsVerdict r a o
tells_verdict {r} {a} o e of = record {
  number = ap asked_number e;
  verdict = λ old. ap (λ (x : Asked). verdict_of x old) e ∙ verdict a of old;
  cost = λ old. ap (λ (x : Asked). cost_of x old) e ∙ cost a of old;
}
  where
    verdict : (x : Asked) → Of o x → (old : ℕ) → verdict_of x old ≡ after (asked_as x) (rank o.truth) old
    verdict (Ok v) of old = ap rank (sym (of v.truth v.cost refl).0)
    verdict (Err r) of old = refl

    cost : (x : Asked) → Of o x → (old : ℕ) → cost_of x old ≡ after (asked_as x) o.cost old
    cost (Ok v) of old = sym (of v.truth v.cost refl).1
    cost (Err r) of old = refl

module _ (h : Header) (ws qs cs : List ℕ) (lent : Lent) (budget : ℕ) where
  pub ask_outcome : Of (outcome_of (model_of h ws cs) (query_of h.arities qs)) (ask h ws qs cs lent budget)
  ask_outcome t n e =
      let w = was_verdict budget (outcome_of (model_of h ws cs) (query_of h.arities qs)) t n (verdict-asked h ws qs cs lent budget t n e).1 in
      (w.truth, w.cost)

  pub ask-told :
      {r : Asked} → r ≡ ask h ws qs cs lent budget →
      TellsVerdict r (ask h ws qs cs lent budget) (outcome_of (model_of h ws cs) (query_of h.arities qs))
  ask-told p = tells_verdict (outcome_of (model_of h ws cs) (query_of h.arities qs)) p ask_outcome
