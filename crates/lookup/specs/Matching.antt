-- How two lists of cells compare.
use Rattle.std.specs.Prelude.{ℕ, suc, Bool, cond, List, [], ◌∷◌, eqb}
use Rattle.calculus.specs.Closed.{identical}
use Rattle.calculus.specs.Unify.{unifies}
use Rattle.calculus.specs.declared.truth.Truth.{Truth}
use Rattle.calculus.specs.declared.truth.Truth.TheVariants.{False, Unknown, True}
use Rattle.lookup.specs.declared.row.Match.{Match}
use Rattle.lookup.specs.declared.row.Match.TheVariants.{Identical, Unifies, Apart}

abbrev pub unified : Bool → Match
unified b = cond b Unifies Apart

-- "true if the very row stands in the sheet; false if no row of the sheet unifies with it; else unknown": what one row of the relation says
unfoldable pub matching : List ℕ → List ℕ → Match
matching xs ys = cond (identical xs ys) Identical (unified (unifies xs ys))

-- the same once an earlier row may unify: after one that does, a row that is not identical changes nothing
abbrev pub match_after : Bool → List ℕ → List ℕ → Match
match_after possible xs ys = cond possible (cond (identical xs ys) Identical Unifies) (matching xs ys)

-- the same as a verdict: what kind 1 says of a relation that has only this row
abbrev pub row_verdict : Match → Truth
row_verdict Identical = True
row_verdict Unifies = Unknown
row_verdict Apart = False

-- the number of columns before the first that differs
unfoldable pub alike : List ℕ → List ℕ → ℕ
alike [] ys = 0
alike (x ∷ xs) [] = 0
alike (x ∷ xs) (y ∷ ys) = cond (eqb x y) (suc (alike xs ys)) 0
