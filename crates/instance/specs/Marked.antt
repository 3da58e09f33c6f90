-- The nulls that blanks get. Document 01: "A column whose bit does not stand is blank: it gets a mark of its own."
use Rattle.std.specs.Prelude.{ℕ, ◌<◌, ◌≡◌, List, length, get_or}
use Rattle.calculus.specs.Cell.{constants}
use Rattle.instance.specs.Blanks.{Field, written, blank}

-- The cells made from fields, one for each: a written field gives its cell; a blank gives a number above all constants, and no other cell,
-- written or blank, equals it.
pub record Marked (fs : List Field) (cs : List ℕ) : Type 0 where
  pub long : length cs ≡ length fs
  pub kept : (i c : ℕ) → get_or fs i blank ≡ written c → get_or cs i 0 ≡ c
  pub mark : (i : ℕ) → get_or fs i (written 0) ≡ blank → constants < get_or cs i 0
  pub own : (i j : ℕ) → get_or fs i (written 0) ≡ blank → j < length cs → (i ≡ j → ⊥) → get_or cs i 0 ≡ get_or cs j 0 → ⊥
