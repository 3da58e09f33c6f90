-- What the verdicts of both calls for a question say of the completed plot, as C sees them. Document 02, request 7. A
-- call returns 0 if it stored a verdict; 2 is true, 0 is false.
use Rattle.std.specs.Prelude.{ℕ, ◌≡◌, Bool, true, false, ◌↔◌, List}
use Rattle.calculus.specs.declared.truth.Truth.TheVariants.{True}
use Rattle.calculus.specs.Kleene.{rank}
use Rattle.calculus.specs.Order.{of_bool}
use Rattle.calculus.specs.Unify.{Valuation}
use Rattle.answer.specs.Ask.{Lent}
use Rattle.answer.specs.Numbers.{asked_number, verdict_of}
use Rattle.plain.specs.Plain.{plain_words}
use Rattle.plain.specs.Missed.{satisfied}
use Rattle.exports.specs.Words.{header_of}
use Rattle.exports.specs.Calls.{ask_answer}

-- `truth` is the old content of the place that is lent for the verdict
abbrev pub ExportedNothingMissed : Type 0
ExportedNothingMissed =
    (hs ws qs candidate : List ℕ) (lent : Lent) (budget truth : ℕ) → plain_words qs ≡ true →
    asked_number (ask_answer hs ws qs candidate lent budget) ≡ 0 →
    verdict_of (ask_answer hs ws qs candidate lent budget) truth ≡ rank True ↔
    ((v : Valuation) → satisfied (header_of hs) ws qs candidate v ≡ true)

abbrev pub ExportedFalseSomehow : Type 0
ExportedFalseSomehow =
    (hs ws qs candidate : List ℕ) (lent : Lent) (budget truth : ℕ) → plain_words qs ≡ true →
    asked_number (ask_answer hs ws qs candidate lent budget) ≡ 0 →
    (verdict_of (ask_answer hs ws qs candidate lent budget) truth ≡ rank True → ⊥) →
    (v : Valuation) × (satisfied (header_of hs) ws qs candidate v ≡ false)

abbrev pub ExportedVerdictsRight : Type 0
ExportedVerdictsRight =
    (hs ws qs candidate : List ℕ) (lent : Lent) (budget truth : ℕ) (t : Bool) →
    asked_number (ask_answer hs ws qs candidate lent budget) ≡ 0 →
    verdict_of (ask_answer hs ws qs candidate lent budget) truth ≡ rank (of_bool t) →
    (v : Valuation) → satisfied (header_of hs) ws qs candidate v ≡ t
