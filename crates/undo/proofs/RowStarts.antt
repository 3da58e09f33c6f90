-- Where a row starts: the rows before and from there, the row's words, and the start of the next row. Assumes nothing.
use Prim.Native.Nat.{ℕ, ◌+◌, ◌<◌}
use mathlib.Core.Path.{◌≡◌, refl, sym, ap, ◌∙◌}
use mathlib.Core.Bool.{true}
use mathlib.Core.List.{List, [], ◌∷◌, ◌++◌, append-nil}
use native.Mathlib.Numerals.{one-add}
use native.Mathlib.Omega.{arith}
use lib.ListN.{length, get_or, take, drop, take-append-drop}
use lib.Seq.{take-add, length-take-le}
use Rattle.calculus.specs.All.{all}
use Rattle.calculus.specs.Row.{Row}
use Rattle.calculus.proofs.Bools.{and_intro}
use Rattle.calculus.proofs.Lists.{drop_step}
use Rattle.instance.specs.Header.{arity_of}
use Rattle.instance.specs.Rows.{words_well_formed, rows_from, words_of}
use Rattle.instance.proofs.Rows.{append-well_formed, append-rows, words_back, row_well_formed_lem, rows-words_well_formed}
use Rattle.instance.proofs.Walk.{AtRow, row_here}
use Rattle.undo.specs.RowStart.{RowStart}

-- the row that starts at index i
abbrev pub row_at : List ℕ → List ℕ → ℕ → Row
row_at ars ws i = record { relation = get_or ws i 0; cells = take (arity_of ars (get_or ws i 0)) (drop (i + 1) ws) }

pub row-start_0 : (n : ℕ) (ars ws : List ℕ) → RowStart n ars ws 0
unfolding words_well_formed
row-start_0 n ars ws = record { within = omega arith; whole = refl }

module _ {n : ℕ} {ars ws : List ℕ} {i : ℕ} (s : RowStart n ars ws i) where
  pub start-rows : rows_from ars 0 ws ≡ rows_from ars 0 (take i ws) ++ rows_from ars 0 (drop i ws)
  start-rows = ap (rows_from ars 0) (sym (take-append-drop i ws)) ∙ append-rows n ars (drop i ws) 0 (take i ws) s.whole

  pub start-length : length (words_of (rows_from ars 0 (take i ws))) ≡ i
  start-length = ap length (words_back n ars 0 (take i ws) s.whole) ∙ length-take-le i ws s.within

  module _ (e : words_well_formed n ars 0 ws ≡ true) (l : i < length ws) where
    pub start-row : AtRow n ars ws i
    start-row =
        row_here n ars ws i l
        record {
          within = s.within;
          well_formed = sym (append-well_formed n ars (drop i ws) 0 (take i ws) s.whole) ∙ ap (words_well_formed n ars 0) (take-append-drop i ws) ∙ e;
        }

    row_words : take (1 + arity_of ars (get_or ws i 0)) (drop i ws) ≡ words_of (row_at ars ws i ∷ [])
    unfolding words_of
    row_words = rw (drop_step ws i l, one-add, append-nil)

    pub start-next : RowStart n ars ws (i + (1 + arity_of ars (get_or ws i 0)))
    unfolding all
    start-next =
        let row = row_at ars ws i in
        record {
          within = start-row.next.within;
          whole =
              ap (words_well_formed n ars 0) (take-add i (1 + arity_of ars (get_or ws i 0)) ws ∙ ap (λ (l : List ℕ). take i ws ++ l) row_words)
              ∙ append-well_formed n ars (words_of (row ∷ [])) 0 (take i ws) s.whole
              ∙ rows-words_well_formed n ars (row ∷ []) (and_intro (row_well_formed_lem n ars row start-row.relation start-row.size start-row.cells) refl);
        }
