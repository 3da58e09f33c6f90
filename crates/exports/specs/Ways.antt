-- The two calls for a question, as C sees them: `plotask_ask_unlisted` returns and stores what `plotask_ask` does,
-- unless that returns 45. The former never returns 45, and neither does the latter with at least 3,810 list words
-- (PLOTASK_LIST_WORDS).
use Rattle.std.specs.Prelude.{ℕ, ◌≡◌, List}
use Rattle.calculus.specs.Refusal.{buffer_too_short}
use Rattle.answer.specs.Ask.{Lent, list, none}
use Rattle.answer.specs.Ways.{Ample}
use Rattle.answer.specs.Numbers.{asked_number, verdict_of, cost_of}
use Rattle.exports.specs.Calls.{ask_answer}

module _ (hs ws qs candidate buffer : List ℕ) (budget : ℕ) where
  -- with the old values of the places that are lent for them
  pub record SameSeen (old-truth old-cost : ℕ) : Type 0 where
    pub number : asked_number (ask_answer hs ws qs candidate none budget) ≡ asked_number (ask_answer hs ws qs candidate (list buffer) budget)
    pub verdict : verdict_of (ask_answer hs ws qs candidate none budget) old-truth ≡ verdict_of (ask_answer hs ws qs candidate (list buffer) budget) old-truth
    pub cost : cost_of (ask_answer hs ws qs candidate none budget) old-cost ≡ cost_of (ask_answer hs ws qs candidate (list buffer) budget) old-cost

abbrev pub ExportedWaysAgree : Type 0
ExportedWaysAgree =
    (hs ws qs candidate buffer : List ℕ) (budget truth cost : ℕ) →
    (asked_number (ask_answer hs ws qs candidate (list buffer) budget) ≡ buffer_too_short → ⊥) →
    SameSeen hs ws qs candidate buffer budget truth cost

abbrev pub ExportedNeverShort : Type 0
ExportedNeverShort =
    (hs ws qs candidate : List ℕ) (lent : Lent) → Ample lent → (budget : ℕ) →
    asked_number (ask_answer hs ws qs candidate lent budget) ≡ buffer_too_short → ⊥
