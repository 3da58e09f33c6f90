-- Document 01: "Equal rows may stand twice and mean what one would."
use Rattle.std.specs.Prelude.{ℕ, ◌≤◌, ◌≡◌, true, List, ◌∷◌, ◌++◌, length}
use Rattle.calculus.specs.declared.truth.Truth.{Truth}
use Rattle.calculus.specs.declared.refusal.Refusal.TheVariants.{BudgetSpent}
use Rattle.calculus.specs.Row.{Row}
use Rattle.instance.specs.declared.header.Header.{Header}
use Rattle.instance.specs.Sound.{sound, rows}
use Rattle.answer.specs.Asked.{Asked}
use Rattle.answer.specs.Asked.{verdict}
use Rattle.std.specs.Prelude.{Err}
use Rattle.answer.specs.Ask.{Lent, has_place, needed, ask}

-- the verdict t, with a cost of at most n
pub record SameVerdict (a : Asked) (t : Truth) (n : ℕ) : Type 0 where
  pub cost : ℕ
  pub no_more : cost ≤ n
  pub is : a ≡ verdict t cost

-- the verdict t, with a cost of at least n; or the budget is spent
pub data SameOrSpent (a : Asked) (t : Truth) (n : ℕ) : Type 0 where
  same : (cost : ℕ) → n ≤ cost → a ≡ verdict t cost → SameOrSpent a t n
  spent : a ≡ Err BudgetSpent → SameOrSpent a t n

-- Two sound instances with the same relations: the second has the rows of the first without one that equals an earlier row of its relation.
pub record Repeat (h h' : Header) (ws ws' : List ℕ) : Type 0 where
  pub relations : h'.relations ≡ h.relations
  pub arities : h'.arities ≡ h.arities
  pub first_sound : sound h ws ≡ true
  pub second_sound : sound h' ws' ≡ true
  pub before : List Row
  pub row : Row
  pub between : List Row
  pub behind : List Row
  pub twice : rows h ws ≡ before ++ (row ∷ (between ++ (row ∷ behind)))
  pub once : rows h' ws' ≡ before ++ (row ∷ (between ++ behind))

-- A verdict of the first instance is also the second's, with the same question, candidate and budget, by the same way of asking. A verdict of the second is
-- also the first's, if the list, where one is lent, is long enough for the first and the budget suffices.
pub record MeansOne (h h' : Header) (ws ws' qs candidate : List ℕ) (lent : Lent) (budget : ℕ) (t : Truth) (n : ℕ) : Type 0 where
  pub to_second : ask h ws qs candidate lent budget ≡ verdict t n → SameVerdict (ask h' ws' qs candidate lent budget) t n
  pub to-first :
      ask h' ws' qs candidate lent budget ≡ verdict t n → has_place lent (length (needed h ws qs)) ≡ true →
      SameOrSpent (ask h ws qs candidate lent budget) t n

abbrev pub RepeatMeansOne : Type 0
RepeatMeansOne =
    (h h' : Header) (ws ws' qs candidate : List ℕ) (lent : Lent) (budget : ℕ) (t : Truth) (n : ℕ) → Repeat h h' ws ws' →
    MeansOne h h' ws ws' qs candidate lent budget t n
