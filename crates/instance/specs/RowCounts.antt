-- The number of rows of each relation. Document 02, request 10: "eight row counts in the head, 0 for sheets that do not
-- exist".
use Rattle.std.specs.Prelude.{ℕ, ◌+◌, List, [], ◌∷◌, length}
use Rattle.calculus.specs.Row.{Row}
use Rattle.calculus.specs.Closed.{tuples}
use Rattle.calculus.specs.Table.{table}
use Rattle.instance.specs.Header.{max_relations}

-- for each of the eight relations that a header has room for; 0 for one that does not exist
abbrev pub row_counts : List Row → List ℕ
row_counts rs = table (λ r. length (tuples r rs)) max_relations

-- the rows that counts add up to
unfoldable pub sum_of : List ℕ → ℕ
sum_of [] = 0
sum_of (c ∷ cs) = c + sum_of cs
