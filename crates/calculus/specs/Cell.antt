-- Cells: constants and marked nulls. Document 01, "Plot, cells, marks".
use Rattle.std.specs.Prelude.{ℕ, ◌+◌, ◌-◌, Bool, ◌&&◌, ◌||◌, cond, List, leb, ltb, eqb}
use Rattle.calculus.specs.All.{all}

-- "0 to 999,999 is an inked value"
abbrev pub constants : ℕ
constants = 1000000

-- "m from 1 to 200"
abbrev pub nulls : ℕ
nulls = 200

abbrev pub is_constant : ℕ → Bool
is_constant c = ltb c constants

-- "1,000,000 + m is pencil mark m"
abbrev pub null : ℕ → ℕ
null m = constants + m

abbrev pub is_mark : ℕ → Bool
is_mark m = leb 1 m && leb m nulls

-- the null's number; 0 for a constant
abbrev pub mark_of : ℕ → ℕ
mark_of c = c - constants

abbrev pub is_null : ℕ → Bool
is_null c = ltb constants c && leb c (constants + nulls)

-- "All else, 1,000,000 itself included, is no cell."
unfoldable pub is_cell : ℕ → Bool
is_cell c = is_constant c || is_null c

-- a fill (substitution) of null m by c, in one cell
unfoldable pub put : ℕ → ℕ → ℕ → ℕ
put m c x = cond (eqb x (null m)) c x

-- a list of cells that holds no null
abbrev pub all_constant : List ℕ → Bool
all_constant cs = all is_constant cs
