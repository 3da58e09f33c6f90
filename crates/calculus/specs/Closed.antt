-- The closed instance as a structure: what document 01, "Verdicts and looks", and document 02, request 2, say of kinds 1 and 2.
use Rattle.std.specs.Prelude.{ℕ, suc, ◌+◌, Bool, true, false, ◌&&◌, ◌||◌, cond, List, [], ◌∷◌, eqb}
use Rattle.calculus.specs.declared.truth.Truth.{Truth}
use Rattle.calculus.specs.declared.truth.Truth.TheVariants.{False, Unknown, True}
use Rattle.calculus.specs.Cell.{is_constant}
use Rattle.calculus.specs.Row.{Row}
use Rattle.calculus.specs.Kleene.{unit}
use Rattle.calculus.specs.Unify.{unifies}
use Rattle.calculus.specs.Domain.{range_over}
use Rattle.calculus.specs.Eval.{Structure}

-- the tuples of relation r, in the order of their rows
unfoldable pub tuples : ℕ → List Row → List (List ℕ)
tuples r [] = []
tuples r (row ∷ rs) = cond (eqb row.relation r) (row.cells ∷ tuples r rs) (tuples r rs)

-- some tuple passes the test
unfoldable pub some : (List ℕ → Bool) → List (List ℕ) → Bool
some test [] = false
some test (t ∷ ts) = test t || some test ts

-- the number of tuples up to and including the first that passes the test, or of all of them if none passes
unfoldable pub up_to : (List ℕ → Bool) → List (List ℕ) → ℕ
up_to test [] = 0
up_to test (t ∷ ts) = suc (cond (test t) 0 (up_to test ts))

unfoldable pub identical : List ℕ → List ℕ → Bool
identical [] [] = true
identical [] (y ∷ ys) = false
identical (x ∷ xs) [] = false
identical (x ∷ xs) (y ∷ ys) = eqb x y && identical xs ys

-- "Kind 1: true if the very row stands in the sheet; false if no row of the sheet unifies with it; else unknown." In Libkin's paper Eval₃ᵥ(R(x̄), D, ν):
-- 1 for a tuple of R, 0 for a tuple that unifies (⇑) with none of R, otherwise ½.
unfoldable pub stands : List (List ℕ) → List ℕ → Truth
stands ts row = cond (some (identical row) ts) True (cond (some (unifies row) ts) Unknown False)

-- "Kind 2: true for the same cell, false for two different inked values, else unknown." In Libkin's paper Eval₃ᵥ(x = y, D, ν).
unfoldable pub equality : ℕ → ℕ → Truth
equality a b = cond (eqb a b) True (cond (is_constant a && is_constant b) False Unknown)

-- Document 02, request 2: "the rows of its sheet up to and including the first identical one, or all of them where none is identical"
unfoldable pub examined : List (List ℕ) → List ℕ → ℕ
examined ts row = up_to (identical row) ts

-- "a kind 1 node costs 1 plus" the rows examined. The closed world of Libkin's paper: a row that unifies with none of them is false.
abbrev pub closed_over : List ℕ → List Row → Structure
closed_over range rs = record {
  holds = λ r row. record { truth = stands (tuples r rs) row; cost = 1 + examined (tuples r rs) row };
  equals = equality;
  start = unit;
  range = range;
}

-- "some" and "every" range over the rows' values and then the inked terms that a question names
abbrev pub closed : List ℕ → List Row → Structure
closed named rs = closed_over (range_over named rs) rs
