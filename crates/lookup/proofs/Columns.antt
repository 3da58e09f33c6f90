-- The cells of a row, one by one: of a row that is lent as a slice, and of the row at a place of an instance's words. Assumes nothing.
use Prim.Native.Nat.{ℕ, ◌+◌, ◌-◌, ◌≤◌, ◌<◌}
use mathlib.Core.Path.{◌≡◌, sym, ap, ◌∙◌}
use mathlib.Core.List.{List, [], ◌∷◌}
use native.Mathlib.Omega.{arith}
use lib.ListN.{length, get_or, take, drop, length-drop, drop_of_length-le}
use lib.Seq.{take_all, get_or-take, get_or-drop, length-take-le}
use Rattle.calculus.proofs.Lists.{drop_step}
use Rattle.lookup.specs.Place.{cells_at}

pub cells-size : (ws : List ℕ) (place n : ℕ) → place + (1 + n) ≤ length ws → n ≡ length (cells_at ws place n)
cells-size ws place n m = sym (length-take-le n (drop (place + 1) ws) (omega (arith, length-drop (place + 1) ws)))

module _ (ws : List ℕ) (place n i : ℕ) where
  -- the cell at index i
  pub cells_at_lem : i < n → get_or (cells_at ws place n) i 0 ≡ get_or ws (place + 1 + i) 0
  cells_at_lem l = get_or-take n (drop (place + 1) ws) i 0 l ∙ get_or-drop (place + 1) ws i 0

  -- from index i: the cell there, and those from the next index
  pub cells-step :
      place + (1 + n) ≤ length ws → i < n →
      drop i (cells_at ws place n) ≡ get_or ws (place + 1 + i) 0 ∷ drop (i + 1) (cells_at ws place n)
  cells-step m l =
      drop_step (cells_at ws place n) i (omega (arith, l, cells-size ws place n m)) ∙
      ap (λ (x : ℕ). x ∷ drop (i + 1) (cells_at ws place n)) (cells_at_lem l)

-- from a slice's length, none
pub row-end : (xs : List ℕ) (i : ℕ) → length xs ≤ i → drop i xs ≡ []
row-end xs i l = drop_of_length-le xs {i = i} l

-- the part of a slice from index i on
pub rest_of : (xs : List ℕ) (i : ℕ) → take (length xs - i) (drop i xs) ≡ drop i xs
rest_of xs i = take_all (length xs - i) (drop i xs) (omega (arith, length-drop i xs))
