-- The rows of a relation that are left at a place, and those that a probe of one column passes over.
use Rattle.std.specs.Prelude.{ℕ, zero, suc, ◌+◌, ◌≤◌, ◌<◌, ◌≡◌, Bool, true, not, ◌&&◌, cond, List, [], ◌∷◌, length, get_or, drop, eqb, ltb}
use Rattle.calculus.specs.Cell.{constants, is_constant}
use Rattle.calculus.specs.Closed.{tuples}
use Rattle.calculus.specs.Row.{Row}
use Rattle.instance.specs.InstanceWellFormed.{InstanceOf}
use Rattle.instance.specs.Rows.{words_of_row, words_well_formed, rows_from}

-- above every cell
abbrev pub any_cell : ℕ
any_cell = 4294967295

-- from a place of an instance's words on, they are whole rows, of which at least m are those of one of its relations
pub record RowsLeft (ars ws : List ℕ) (relation place m : ℕ) : Type 0 where
  pub given : InstanceOf ars ws
  pub known : relation < given.relations
  pub within : place ≤ length ws
  pub well_formed : words_well_formed given.relations ars 0 (drop place ws) ≡ true
  pub some : m ≤ length (tuples relation (rows_from ars 0 (drop place ws)))

-- the cell in a column differs from the asked one, and is below the limit
abbrev pub told_apart : ℕ → ℕ → ℕ → List ℕ → Bool
told_apart column cell limit t = not (eqb (get_or t column 0) cell) && ltb (get_or t column 0) limit

-- Below this limit, a cell other than the asked one tells enough: that the row does not unify, since both cells are constants, or, once an earlier row
-- has unified, that it is not identical.
unfoldable pub limit_of : Bool → ℕ → ℕ
limit_of possible cell = cond possible any_cell (cond (is_constant cell) constants 0)

-- the tuples from the first that fails the test on
unfoldable pub passing : (List ℕ → Bool) → List (List ℕ) → List (List ℕ)
passing test [] = []
passing test (t ∷ ts) = cond (test t) (passing test ts) (t ∷ ts)

-- how many words the rows have that are passed over: those before the first of the relation's next n rows that fails the test, or up to and including the last
-- of the n if none fails
unfoldable pub words_passed : (List ℕ → Bool) → ℕ → ℕ → List Row → ℕ
words_passed test relation zero rs = 0
words_passed test relation (suc n) [] = 0
words_passed test relation (suc n) (r ∷ rs) =
    cond (eqb r.relation relation)
    (cond (test r.cells) (length (words_of_row r) + words_passed test relation n rs) 0)
    (length (words_of_row r) + words_passed test relation (suc n) rs)
