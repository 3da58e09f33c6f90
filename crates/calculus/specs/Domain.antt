-- The active domain, and what quantifiers range over. Document 01: "The plot's values are its cells, marks included,
-- each once, in order of first standing."
use Rattle.std.specs.Prelude.{ℕ, cond, List, [], ◌∷◌, ◌++◌, eqb}
use Rattle.calculus.specs.Row.{Row, cells_of}
use Rattle.calculus.specs.Listed.{listed}

-- a list with every x left out
unfoldable pub without : ℕ → List ℕ → List ℕ
without x [] = []
without x (c ∷ cs) = cond (eqb c x) (without x cs) (c ∷ without x cs)

-- each value once, at its first occurrence
unfoldable pub distinct : List ℕ → List ℕ
distinct [] = []
distinct (c ∷ cs) = c ∷ without c (distinct cs)

-- The same from left to right: the values vs, then the values of the cells that are not listed yet (`proofs/Listing.antt`, `listing-distinct`).
unfoldable pub listing : List ℕ → List ℕ → List ℕ
listing vs [] = vs
listing vs (c ∷ cs) = listing (cond (listed c vs) vs (vs ++ c ∷ [])) cs

-- in Libkin's paper adom(D), here as a list
abbrev pub domain : List Row → List ℕ
domain rs = distinct (cells_of rs)

-- Document 02, request 6: "range over the plot's values and then the question's own inked terms, by node and word, each
-- value once". `proofs/Listing.antt`, `range-listing`: the plot's values, and then the terms that are not among them.
abbrev pub range_over : List ℕ → List Row → List ℕ
range_over named rs = distinct (cells_of rs ++ named)
