-- Well-formed words, read row by row: what is known at an index at which a row starts, and where the next row starts. Assumes nothing.
use Prim.Native.Nat.{ℕ, zero, suc, ◌+◌, ◌≤◌, ◌<◌, ◌-◌}
use mathlib.Core.Path.{◌≡◌, refl, ap, ◌∙◌}
use mathlib.Core.Bool.{true, false≢true}
use mathlib.Core.List.{List, [], ◌∷◌}
use native.Mathlib.Omega.{arith}
use borrow.Author.Tests.{ltb-true}
use lib.ListN.{length, get_or, take, drop, length-drop}
use lib.Seq.{drop-drop, drop-length}
use Rattle.calculus.specs.Row.{Row}
use Rattle.calculus.specs.Closed.{tuples}
use Rattle.calculus.proofs.Lists.{drop_step}
use Rattle.calculus.proofs.Tuples.{tuples_le}
use Rattle.instance.specs.Header.{arity_of, max_relations, max_columns}
use Rattle.instance.specs.Rows.{are_cells, words_well_formed, rows_from}
use Rattle.instance.specs.InstanceWellFormed.{InstanceWellFormed, InstanceOf}
use Rattle.instance.proofs.Rows.{headed, at_row, at_cell, cells-first, cells-within}

-- past the cells that are still to come, a row starts, or the words end
rows_past : (ars : List ℕ) (left : ℕ) (ws : List ℕ) → left ≤ length ws → rows_from ars left ws ≡ rows_from ars 0 (drop left ws)
unfolding rows_from
rows_past ars zero ws l = refl
rows_past ars (suc left) [] l = absurd (omega arith)
rows_past ars (suc left) (w ∷ ws) l = rows_past ars left ws (omega arith)

-- the row at index i, if the words have all its cells, and the rows after it
pub rows_at : (ars ws : List ℕ) (i : ℕ) → i < length ws → i + 1 + arity_of ars (get_or ws i 0) ≤ length ws
    → rows_from ars 0 (drop i ws)
    ≡ record { relation = get_or ws i 0; cells = take (arity_of ars (get_or ws i 0)) (drop (i + 1) ws) } ∷ rows_from ars 0 (drop (i + 1 + arity_of ars (get_or ws i 0)) ws)
unfolding rows_from
rows_at ars ws i l m =
    let a = arity_of ars (get_or ws i 0) in
    ap (rows_from ars 0) (drop_step ws i l)
    ∙ ap (λ (rs : List Row). record { relation = get_or ws i 0; cells = take a (drop (i + 1) ws) } ∷ rs)
    (rows_past ars a (drop (i + 1) ws) (omega (arith, length-drop (i + 1) ws)) ∙ ap (rows_from ars 0) (drop-drop a (i + 1) ws))

module _ (n : ℕ) (ars : List ℕ) where
  past_cells : (left : ℕ) (ws : List ℕ) → words_well_formed n ars left ws ≡ true → words_well_formed n ars 0 (drop left ws) ≡ true
  unfolding words_well_formed
  past_cells zero ws e = e
  past_cells (suc left) [] e = absurd (false≢true e)
  past_cells (suc left) (w ∷ ws) e = past_cells left ws (at_cell n ars left w ws e).1

-- a walk that has reached index i: the words from there are well formed, so a row starts there, or the words end
pub record Walk (n : ℕ) (ars ws : List ℕ) (i : ℕ) : Type 0 where
  pub within : i ≤ length ws
  pub well_formed : words_well_formed n ars 0 (drop i ws) ≡ true

pub walk_starts : (n : ℕ) (ars ws : List ℕ) → words_well_formed n ars 0 ws ≡ true → Walk n ars ws 0
walk_starts n ars ws e = record { within = omega arith; well_formed = e }

-- the same in an instance that holds its number of relations
abbrev pub WalkIn : List ℕ → List ℕ → ℕ → Type 0
WalkIn ars ws i = (g : InstanceOf ars ws) × Walk g.relations ars ws i

pub walk_in : (ars ws : List ℕ) → InstanceOf ars ws → WalkIn ars ws 0
walk_in ars ws g = (g, walk_starts g.relations ars ws g.well_formed.words)

-- the row at index i, and the walk after it
pub record AtRow (n : ℕ) (ars ws : List ℕ) (i : ℕ) : Type 0 where
  pub relation : get_or ws i 0 < n
  pub cells : are_cells (take (arity_of ars (get_or ws i 0)) (drop (i + 1) ws)) ≡ true
  pub size : length (take (arity_of ars (get_or ws i 0)) (drop (i + 1) ws)) ≡ arity_of ars (get_or ws i 0)
  pub next : Walk n ars ws (i + (1 + arity_of ars (get_or ws i 0)))
  pub rows :
      rows_from ars 0 (drop i ws) ≡
      record { relation = get_or ws i 0; cells = take (arity_of ars (get_or ws i 0)) (drop (i + 1) ws) }
      ∷ rows_from ars 0 (drop (i + (1 + arity_of ars (get_or ws i 0))) ws)

module _ (n : ℕ) (ars ws : List ℕ) (i : ℕ) where
  pub row_here : i < length ws → Walk n ars ws i → AtRow n ars ws i
  row_here l walk =
      let w = get_or ws i 0 in
      let a = arity_of ars w in
      let here = drop_step ws i l in
      let f : words_well_formed n ars 0 (w ∷ drop (i + 1) ws) ≡ true = rw here at walk.well_formed in
      let p = at_row n ars w (drop (i + 1) ws) f in
      let q = past_cells n ars a (drop (i + 1) ws) p.1 in
      let c = cells-first n ars a (drop (i + 1) ws) p.1 in
      let sum : i + 1 + a ≡ i + (1 + a) = omega arith in
      let next : drop a (drop (i + 1) ws) ≡ drop (i + (1 + a)) ws = drop-drop a (i + 1) ws ∙ ap (λ (k : ℕ). drop k ws) sum in
      record {
        relation = ltb-true w n p.0;
        cells = c.1;
        size = c.0;
        next = record { within = omega (arith, cells-within n ars a (drop (i + 1) ws) p.1, length-drop (i + 1) ws); well_formed = rw next at q };
        rows =
            rows_at ars ws i l (omega (arith, cells-within n ars a (drop (i + 1) ws) p.1, length-drop (i + 1) ws)) ∙
            ap (λ (k : ℕ). record { relation = w; cells = take a (drop (i + 1) ws) } ∷ rows_from ars 0 (drop k ws)) sum;
      }

-- the cells of a row at index i, as a slice of the words
pub row_lent : (ws : List ℕ) (i a : ℕ) → take (i + 1 + a - (i + 1)) (drop (i + 1) ws) ≡ take a (drop (i + 1) ws)
row_lent ws i a = let e : i + 1 + a - (i + 1) ≡ a = omega arith in ap (λ (k : ℕ). take k (drop (i + 1) ws)) e

-- at the end of the words there are no rows
pub rows_end : (ars ws : List ℕ) (i : ℕ) → i ≡ length ws → rows_from ars 0 (drop i ws) ≡ []
unfolding rows_from
rows_end ars ws i e = rw (e, drop-length)

-- a relation's number is below eight, and it has at most six columns
pub relation-few : (n : ℕ) (ars ws : List ℕ) (r : ℕ) → InstanceWellFormed n ars ws → r < n → r < max_relations
relation-few n ars ws r s l = let h = headed n ars s.header in omega (arith, h.few)

pub arity_few : (n : ℕ) (ars ws : List ℕ) (r : ℕ) → InstanceWellFormed n ars ws → r < n → arity_of ars r ≤ max_columns
arity_few n ars ws r s l = ((headed n ars s.header).columns r l).1

rows_le : (ars : List ℕ) (left : ℕ) (ws : List ℕ) → length (rows_from ars left ws) ≤ length ws
unfolding rows_from
rows_le ars left [] = omega arith
rows_le ars zero (w ∷ ws) = omega (arith, rows_le ars (arity_of ars w) ws)
rows_le ars (suc left) (w ∷ ws) = omega (arith, rows_le ars left ws)

-- there are no more tuples than words
pub tuples-few : (r : ℕ) (ars : List ℕ) (ws : List ℕ) → length (tuples r (rows_from ars 0 ws)) ≤ length ws
tuples-few r ars ws = omega (arith, tuples_le r (rows_from ars 0 ws), rows_le ars 0 ws)
