-- Kind 1 by its meaning. Document 01: "true if the very row stands in the sheet; false if no row of the sheet unifies with it; else unknown."
-- Document 02, request 2: its cost is 1 plus "the rows of its sheet up to and including the first identical one, or all of them where none is
-- identical".
use Rattle.std.specs.Prelude.{ℕ, suc, ◌≡◌, ◌↔◌, length}
use mathlib.Core.List.{List, ◌∷◌, ◌++◌, Memᴰ}
use Rattle.calculus.specs.declared.truth.Truth.{Truth}
use Rattle.calculus.specs.declared.truth.Truth.TheVariants.{False, True}
use Rattle.calculus.specs.Kleene.{rank}
use Rattle.calculus.specs.Unify.{Unify}

-- what verdict t on a row means, by its rank; ts are the tuples of the relation
pub record MeansStands (ts : List (List ℕ)) (row : List ℕ) (t : Truth) : Type 0 where
  pub certain : rank t ≡ rank True ↔ Memᴰ row ts
  pub impossible : rank t ≡ rank False ↔ ((u : List ℕ) → Memᴰ u ts → Unify row u → ⊥)

-- what the number n of rows examined means: `first` is for a relation that has the row, and `before` are the tuples before the first identical one
pub record MeansExamined (ts : List (List ℕ)) (row : List ℕ) (n : ℕ) : Type 0 where
  pub first : (before after : List (List ℕ)) → ts ≡ before ++ (row ∷ after) → (Memᴰ row before → ⊥) → n ≡ suc (length before)
  pub none : (Memᴰ row ts → ⊥) → n ≡ length ts
