-- What verdicts say of the completed plot. Document 02, request 7: "a verdict, where one is given, is true exactly when
-- the completed plot and candidate satisfy the question for every giving of inked values to all marks. Ranges are
-- request 6's, over the completed plot. For the others only one direction stands: a true verdict is right, but a true
-- may be missed."
use Rattle.std.specs.Prelude.{ℕ, ◌≡◌, Bool, true, false, ◌↔◌, List}
use Rattle.calculus.specs.declared.truth.Truth.{Truth}
use Rattle.calculus.specs.declared.truth.Truth.TheVariants.{True}
use Rattle.calculus.specs.Order.{of_bool}
use Rattle.calculus.specs.Unify.{Valuation}
use Rattle.calculus.specs.Model.{says_yes, valued}
use Rattle.instance.specs.declared.header.Header.{Header}
use Rattle.instance.specs.Run.{model_of}
use Rattle.query.specs.Named.{query_of}
use Rattle.answer.specs.Asked.{verdict}
use Rattle.answer.specs.Ask.{Lent, ask}
use Rattle.plain.specs.Plain.{plain_words}

-- Whether plot and candidate, completed by one giving of inked values to all marks, satisfy the question: by two-valued
-- logic, with the range of the completed plot.
abbrev pub satisfied : Header → (ws qs candidate : List ℕ) → Valuation → Bool
satisfied h ws qs candidate v = says_yes (valued v (model_of h ws candidate)) (query_of h.arities qs)

-- Nothing is missed of a plain question, by either way of asking.
abbrev pub NothingMissed : Type 0
NothingMissed =
    (h : Header) (ws qs candidate : List ℕ) (lent : Lent) (budget : ℕ) (t : Truth) (n : ℕ) →
    plain_words qs ≡ true → ask h ws qs candidate lent budget ≡ verdict t n →
    t ≡ True ↔ ((v : Valuation) → satisfied h ws qs candidate v ≡ true)

-- If a plain question's verdict is not true, there is a giving of inked values that makes the question false.
abbrev pub FalseSomehow : Type 0
FalseSomehow =
    (h : Header) (ws qs candidate : List ℕ) (lent : Lent) (budget : ℕ) (t : Truth) (n : ℕ) →
    plain_words qs ≡ true → ask h ws qs candidate lent budget ≡ verdict t n → (t ≡ True → ⊥) →
    (v : Valuation) × (satisfied h ws qs candidate v ≡ false)

-- A true verdict of any question is right, and so is a false one.
abbrev pub VerdictsRight : Type 0
VerdictsRight =
    (h : Header) (ws qs candidate : List ℕ) (lent : Lent) (budget n : ℕ) (t : Bool) →
    ask h ws qs candidate lent budget ≡ verdict (of_bool t) n → (v : Valuation) → satisfied h ws qs candidate v ≡ t
