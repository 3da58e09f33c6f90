-- Document 02, request 2: "a kind 1 node costs 1 plus the rows of its sheet up to and including the first identical one, or all of them where none is
-- identical". In no reading of document 01 does an identical row stand before its relation's last, so these are a table of their own.
use Rattle.std.specs.Prelude.{ℕ, List, [], ◌∷◌}
use Rattle.calculus.specs.declared.truth.Truth.TheVariants.{False, Unknown, True}
use Rattle.calculus.specs.Model.{Fill}
use Rattle.readings.specs.Table.{Case, fill, Reading, asks, m1, x, case}

-- relation 0 has the rows (5), (6), (m1), (6) and (9), relation 1 the row (7), after the first of them
abbrev words : List ℕ
words = 0 ∷ 5 ∷ 1 ∷ 7 ∷ 0 ∷ 6 ∷ 0 ∷ m1 ∷ 0 ∷ 6 ∷ 0 ∷ 9 ∷ []

-- a relation of two columns with the rows (5, 6), (5, m1) and (5, 7)
abbrev pairs : List ℕ
pairs = 0 ∷ 5 ∷ 6 ∷ 0 ∷ 5 ∷ m1 ∷ 0 ∷ 5 ∷ 7 ∷ []

-- "every x in relation 0 or in relation 1"
abbrev every_value : List (List ℕ)
every_value = (7 ∷ 0 ∷ 1 ∷ []) ∷ (5 ∷ 2 ∷ 3 ∷ []) ∷ (1 ∷ 0 ∷ x ∷ []) ∷ (1 ∷ 1 ∷ x ∷ []) ∷ []

abbrev within : ℕ → Case → Case
within budget c = record { header = c.header; words = c.words; query = c.query; candidate = c.candidate; fills = c.fills; budget = budget }

-- whether the row (c) is in relation r, after the fills
abbrev stand : List ℕ → ℕ → ℕ → List Fill → Case
stand ws r c = case (1 ∷ 1 ∷ []) ws ((1 ∷ r ∷ x ∷ []) ∷ []) (c ∷ [])

abbrev pub charges : List Reading
charges =
    -- the identical row is the first; or in the middle, repeated, and after a row of the other relation; or the last, after one that unifies
    asks (stand words 0 5 []) True 2
    ∷ asks (stand words 0 6 []) True 3
    ∷ asks (stand words 0 9 []) True 6
    -- rows that only unify do not end the count, whether an identical one follows or not
    ∷ asks (stand words 0 m1 []) True 4
    ∷ asks (stand words 0 8 []) Unknown 6
    -- only the rows of its own relation count
    ∷ asks (stand words 1 7 []) True 2
    ∷ asks (stand words 1 6 []) False 2
    ∷ asks (stand words 0 7 []) Unknown 6
    -- a fill makes a row identical, an earlier one too, and may leave no row that unifies
    ∷ asks (stand words 0 8 (fill 1 8 ∷ [])) True 4
    ∷ asks (stand words 0 m1 (fill 1 5 ∷ [])) True 2
    ∷ asks (stand words 0 8 (fill 1 5 ∷ [])) False 6
    -- there are no rows
    ∷ asks (stand [] 0 5 []) False 1
    -- rows count as a whole: (5, 6) agrees with (5, 7) in a column, and (5, m1) unifies with it
    ∷ asks (case (2 ∷ []) pairs ((1 ∷ 0 ∷ x ∷ 7 ∷ []) ∷ []) (5 ∷ []) []) True 4
    -- 2 for 5, 6 + 2 for 7, 3 for 6, 4 for m1 and 6 for 9
    ∷ asks (case (1 ∷ 1 ∷ []) words every_value [] []) True 23
    -- a budget that covers the first row alone
    ∷ asks (within 2 (stand words 0 5 [])) True 2
    ∷ []
