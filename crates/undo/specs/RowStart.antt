-- Where rows start in the words of an instance, and the row that has a place.
use Rattle.std.specs.Prelude.{ℕ, ◌+◌, ◌≤◌, ◌<◌, ◌≡◌, true, List, length, get_or, take}
use Rattle.instance.specs.Header.{arity_of}
use Rattle.instance.specs.Rows.{words_well_formed}

-- the words before index i are whole rows, so a row starts there, or the words end
pub record RowStart (n : ℕ) (ars ws : List ℕ) (i : ℕ) : Type 0 where
  pub within : i ≤ length ws
  pub whole : words_well_formed n ars 0 (take i ws) ≡ true

-- the row that starts at index i has the place p
pub record RowOf (n : ℕ) (ars ws : List ℕ) (p i : ℕ) : Type 0 where
  pub start : RowStart n ars ws i
  pub low : i ≤ p
  pub high : p < i + (1 + arity_of ars (get_or ws i 0))
