-- Which places are those of cells: of a row's words all but the first, and none past the rows. Assumes nothing.
use Prim.Native.Nat.{ℕ, zero, suc, ◌+◌, ◌-◌, ◌≤◌, ◌<◌}
use mathlib.Core.Path.{◌≡◌, refl, sym, ap, ◌∙◌}
use mathlib.Core.Bool.{Bool, true, false, false≢true}
use mathlib.Core.List.{List, [], ◌∷◌}
use native.Mathlib.Nat.{not-suc-le-zero, le_of_suc-le-suc}
use native.Mathlib.Omega.{arith}
use borrow.Author.Tests.{lt-ltb, le-ltb, leb-true, leb-false}
use lib.ListN.{length, get_or, take, drop, length-append}
use lib.Dec.{leb}
use Rattle.calculus.specs.Row.{Row}
use Rattle.calculus.proofs.All.{all_parts}
use Rattle.instance.specs.Header.{arity_of}
use Rattle.instance.specs.Rows.{words_well_formed, rows_from, words_of}
use Rattle.undo_log.specs.Places.{is_place, are_places}
use Rattle.undo_log.proofs.Places.{place_past}
use Rattle.instance.proofs.Walk.{AtRow}
use Rattle.undo.specs.RowStart.{RowOf}
use Rattle.undo.proofs.RowStarts.{row_at, start-rows, start-length, start-row}

-- a cell's place is below the number of words
pub place_beyond : (rs : List Row) (p : ℕ) → length (words_of rs) ≤ p → is_place rs p ≡ false
unfolding is_place words_of
place_beyond [] p l = refl
place_beyond (r ∷ rs) zero l = refl
place_beyond (r ∷ rs) (suc p) l =
    let n = length r.cells in
    let long = length-append r.cells (words_of rs) in
    rw (le-ltb p n (omega arith)) (place_beyond rs (p - n) (omega arith))

place_below : (rs : List Row) (p : ℕ) → is_place rs p ≡ true → p < length (words_of rs)
place_below rs p e = go (leb (length (words_of rs)) p) refl
  where
    go : (b : Bool) → leb (length (words_of rs)) p ≡ b → p < length (words_of rs)
    go true q = absurd (false≢true (sym (place_beyond rs p (leb-true _ _ q)) ∙ e))
    go false q = leb-false _ _ q

pub places_below : (rs : List Row) (ps : List ℕ) → are_places rs ps ≡ true → (k : ℕ) → k < length ps → get_or ps k 0 < length (words_of rs)
places_below rs [] e k l = absurd (not-suc-le-zero l)
places_below rs (p ∷ ps) e zero l = place_below rs p (all_parts (is_place rs) p ps e).0
places_below rs (p ∷ ps) e (suc k) l = places_below rs ps (all_parts (is_place rs) p ps e).1 k (le_of_suc-le-suc l)

-- a place p of an instance's words, in the row that starts at index i
module _ {n : ℕ} {ars ws : List ℕ} {p i : ℕ} (r : RowOf n ars ws p i) (e : words_well_formed n ars 0 ws ≡ true) (l : p < length ws) where
  here : AtRow n ars ws i
  here = start-row r.start e (omega arith)

  -- counted from the row's start
  in_row : (q : ℕ) → p ≡ i + q → is_place (rows_from ars 0 ws) p ≡ is_place (row_at ars ws i ∷ rows_from ars 0 (drop (i + (1 + arity_of ars (get_or ws i 0))) ws)) q
  in_row q is =
      let before = rows_from ars 0 (take i ws) in
      let at : p ≡ length (words_of before) + q = omega (arith, start-length r.start) in
      ap (is_place (rows_from ars 0 ws)) at
      ∙ ap (λ (rs : List Row). is_place rs (length (words_of before) + q)) (start-rows r.start)
      ∙ place_past before (rows_from ars 0 (drop i ws)) q
      ∙ ap (λ (rs : List Row). is_place rs q) here.rows

  -- the row's first word is its relation's number, and the others are its cells
  pub place_of-relation : i ≡ p → is_place (rows_from ars 0 ws) p ≡ false
  unfolding is_place
  place_of-relation q = in_row 0 (omega arith)

  pub place_of-cell : (i ≡ p → ⊥) → is_place (rows_from ars 0 ws) p ≡ true
  unfolding is_place
  place_of-cell ne =
      let j = p - (i + 1) in
      in_row (suc j) (omega (arith, r.low)) ∙ simp (lt-ltb j (length (row_at ars ws i).cells) (omega (arith, r.low, r.high, here.size)))
