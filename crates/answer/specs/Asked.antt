-- The answer to a question. Document 01: "Each call answers either a verdict with its looks or a refusal."
use Rattle.std.specs.Prelude.{ℕ, Result, Ok, List, ◌∷◌, ◌++◌, decimal}
use Rattle.calculus.specs.declared.truth.Truth.{Truth}
use Rattle.calculus.specs.Kleene.{truth_word}
use Rattle.calculus.specs.declared.refusal.Refusal.{Refusal}
use Rattle.answer.specs.declared.asked.Verdict.{Verdict}

abbrev pub Asked : Type 0
Asked = Result Verdict Refusal

abbrev pub verdict : Truth → ℕ → Asked
verdict t n = Ok (record { truth = t; cost = n })

-- what is printed of a verdict: its word, a space and its cost
abbrev pub verdict_text : Verdict → List ℕ
verdict_text v = truth_word v.truth ++ 32 ∷ decimal v.cost
