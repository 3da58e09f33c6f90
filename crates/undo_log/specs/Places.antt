-- The places of cells: a place is the index of a word. Document 02, request 1: "the cells' word places in the plot, counted from 0, in plot order".
use Rattle.std.specs.Prelude.{ℕ, zero, suc, ◌+◌, ◌-◌, Bool, false, ◌||◌, cond, List, [], ◌∷◌, ◌++◌, length, set, ltb, eqb}
use Rattle.calculus.specs.All.{all}
use Rattle.calculus.specs.Row.{Row}

-- the places of the elements that are x, if the first element has place p
unfoldable pub places_in : ℕ → ℕ → List ℕ → List ℕ
places_in x p [] = []
places_in x p (c ∷ cs) = cond (eqb c x) (p ∷ places_in x (suc p) cs) (places_in x (suc p) cs)

-- the places of the cells that hold x, if the first row's first word has place p: a row's cells follow its relation's number
unfoldable pub places_of : ℕ → ℕ → List Row → List ℕ
places_of x p [] = []
places_of x p (r ∷ rs) = places_in x (suc p) r.cells ++ places_of x (suc p + length r.cells) rs

-- whether a place, counted from the first row's first word, is that of a cell
unfoldable pub is_place : List Row → ℕ → Bool
is_place [] p = false
is_place (r ∷ rs) zero = false
is_place (r ∷ rs) (suc p) = ltb p (length r.cells) || is_place rs (p - length r.cells)

abbrev pub are_places : List Row → List ℕ → Bool
are_places rs ps = all (is_place rs) ps

-- x at each of the places
unfoldable pub put_at : List ℕ → ℕ → List ℕ → List ℕ
put_at [] x ws = ws
put_at (p ∷ ps) x ws = put_at ps x (set ws p x)
