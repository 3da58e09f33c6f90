-- What quantifiers range over without a list of it. Document 02, request 4: "finds the plot's values by walking the
-- rows and passing over any cell that stood earlier"; request 6: and then the question's inked terms.
use Rattle.std.specs.Prelude.{ℕ, zero, suc, Bool, true, cond, List, [], ◌∷◌, ◌++◌}
use Rattle.calculus.specs.Listed.{listed}
use Rattle.calculus.specs.Row.{Row, cells_of}
use Rattle.instance.specs.Header.{arity_of}

-- the cells cs, which follow the cells `earlier`, without any that stood earlier
unfoldable pub walked : List ℕ → List ℕ → List ℕ
walked earlier [] = []
walked earlier (c ∷ cs) = cond (listed c earlier) (walked (earlier ++ c ∷ []) cs) (c ∷ walked (earlier ++ c ∷ []) cs)

-- the rows' cells, walked from the first, and then the constants that a question names (`proofs/Walked.antt`,
-- `walked_range_lem`: they are the range)
abbrev pub walked_range : List ℕ → List Row → List ℕ
walked_range named rs = walked [] (cells_of rs ++ named)

-- The same, word by word: whether the walk passes over each of the words ws, of which the first `left` are the remaining cells of a row. It passes
-- over a relation's number, and over a cell that stood earlier.
unfoldable pub passes : List ℕ → List ℕ → ℕ → List ℕ → List Bool
passes ars earlier left [] = []
passes ars earlier zero (w ∷ ws) = true ∷ passes ars earlier (arity_of ars w) ws
passes ars earlier (suc left) (w ∷ ws) = listed w earlier ∷ passes ars (earlier ++ w ∷ []) left ws
