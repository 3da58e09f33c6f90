-- Document 02, request 7: "a true verdict is right, but a true may be missed. Show case 8, and beside it the plain
-- "some x in the sheet and x = x", which is true on the same plot." The other rows show what completing means.
use Rattle.std.specs.Prelude.{ℕ, true, false, List, [], ◌∷◌}
use Rattle.calculus.specs.declared.truth.Truth.TheVariants.{Unknown, True}
use Rattle.readings.specs.Table.{Case, Reading, every_giving, decides, m1, x, case, case8}

-- a question about the row (m1) and a candidate
abbrev of_m1 : List (List ℕ) → List ℕ → Case
of_m1 ns cs = case (1 ∷ []) (0 ∷ m1 ∷ []) ns cs []

-- "some x in the sheet and x = x"
abbrev pub plain8 : Case
plain8 = of_m1 ((6 ∷ 0 ∷ 1 ∷ []) ∷ (4 ∷ 2 ∷ 3 ∷ []) ∷ (1 ∷ 0 ∷ x ∷ []) ∷ (2 ∷ x ∷ x ∷ []) ∷ []) []

-- the candidate (m1) is 1 and is 2
abbrev pub two_values : Case
two_values = of_m1 ((4 ∷ 1 ∷ 2 ∷ []) ∷ (2 ∷ x ∷ 1 ∷ []) ∷ (2 ∷ x ∷ 2 ∷ []) ∷ []) (m1 ∷ [])

-- the candidate (m1) is in the sheet, or is 5
abbrev pub same_mark : Case
same_mark = of_m1 ((5 ∷ 1 ∷ 2 ∷ []) ∷ (1 ∷ 0 ∷ x ∷ []) ∷ (2 ∷ x ∷ 5 ∷ []) ∷ []) (m1 ∷ [])

-- some x is 7, which stands in the question alone
abbrev pub named7 : Case
named7 = of_m1 ((6 ∷ 0 ∷ 1 ∷ []) ∷ (2 ∷ x ∷ 7 ∷ []) ∷ []) []

-- every x is in the sheet
abbrev pub every_value : Case
every_value = of_m1 ((7 ∷ 0 ∷ 1 ∷ []) ∷ (1 ∷ 0 ∷ x ∷ []) ∷ []) []

-- 5 is in the sheet
abbrev pub stands5 : Case
stands5 = of_m1 ((1 ∷ 0 ∷ x ∷ []) ∷ []) (5 ∷ [])

-- the candidate (m1) is 1
abbrev pub is_one : Case
is_one = of_m1 ((2 ∷ x ∷ 1 ∷ []) ∷ []) (m1 ∷ [])

abbrev pub missed : List Reading
missed =
    -- a true is missed of case 8, and none of the plain question beside it
    every_giving case8 false Unknown 7 true
    ∷ every_giving plain8 true True 3 true
    -- unknown does not say that some giving makes the question true, not even of a plain one
    ∷ every_giving two_values true Unknown 2 false
    -- the candidate is completed as the plot is, and the question's inked terms are in the completed plot's range
    ∷ every_giving same_mark true True 2 true
    ∷ every_giving named7 true True 2 true
    -- every is not plain; a true verdict is right all the same
    ∷ every_giving every_value false True 2 true
    -- what mark 1 is given decides, in the plot and in the candidate
    ∷ decides stands5 Unknown 2 5 6
    ∷ decides is_one Unknown 1 1 2
    ∷ []
