-- How long a list has to be at most: a sound instance has few cells, and a question that passed its check few inked terms. Assumes nothing.
use Prim.Native.Nat.{ℕ, ◌+◌, ◌*◌, ◌≤◌}
use mathlib.Core.Path.{◌≡◌, refl, sym, ap, ◌∙◌}
use mathlib.Core.Bool.{true}
use mathlib.Core.List.{List, [], ◌∷◌}
use native.Mathlib.Omega.{arith}
use lib.ListN.{length, length-append}
use Rattle.calculus.specs.Row.{Row, cells_of}
use Rattle.calculus.specs.Domain.{range_over}
use Rattle.calculus.proofs.Distinct.{distinct_le}
use Rattle.instance.specs.declared.header.Header.{Header}
use Rattle.instance.specs.Header.{arity_of, max_columns}
use Rattle.instance.specs.Rows.{words_of, rows_well_formed}
use Rattle.instance.specs.Sound.{sound, rows}
use Rattle.instance.proofs.Rows.{row_parts}
use Rattle.instance.proofs.Sound.{sound_gives}
use Rattle.query.specs.Named.{named_in}
use Rattle.query.proofs.FewTerms.{few-terms}
use Rattle.answer.specs.Ask.{needed, most_needed}
use Rattle.answer.specs.Admitted.{Admitted}

-- a row takes one word and its cells
words-cells : (rs : List Row) → length (words_of rs) ≡ length rs + length (cells_of rs)
unfolding words_of cells_of
words-cells [] = refl
words-cells (r ∷ rs) =
    let a = length-append r.cells (words_of rs) in
    let b = length-append r.cells (cells_of rs) in
    omega (arith, a, b, words-cells rs)

module _ (h : Header) (ws : List ℕ) (e : sound h ws ≡ true) where
  -- the number of words in use is that of the rows plus that of their cells
  pub cells_count : h.used ≡ length (rows h ws) + length (cells_of (rows h ws))
  cells_count =
      let g = sound_gives h ws e in sym g.in_use ∙ ap length (sym g.words) ∙ words-cells (rows h ws)

-- a row has at most six cells
cells-narrow :
    (n : ℕ) (ars : List ℕ) (rs : List Row) → ((r : ℕ) → arity_of ars r ≤ max_columns) → rows_well_formed n ars rs ≡ true → length (cells_of rs) ≤ max_columns * length rs
unfolding cells_of
cells-narrow n ars [] narrow e = omega arith
cells-narrow n ars (r ∷ rs) narrow e =
    let p = row_parts n ars r rs e in
    omega (arith, length-append r.cells (cells_of rs), p.1, narrow r.relation, cells-narrow n ars rs narrow p.3)

-- rows of six columns have the most cells, 3,510 in 4,096 words
pub need_few : (h : Header) (ws qs cs : List ℕ) (count : ℕ) → Admitted h ws qs cs count → length (needed h ws qs) ≤ most_needed
need_few h ws qs cs count a =
    let g = sound_gives h ws a.is_sound in
    omega (
      arith,
      length-append (cells_of (rows h ws)) (named_in h.arities qs),
      cells_count h ws a.is_sound,
      g.few,
      cells-narrow h.relations h.arities (rows h ws) g.headed.narrow g.rows_well_formed_lem,
      few-terms h.relations h.arities qs cs a.right a.scopes a.passes g.headed.narrow,
    )

pub range-few :
    (h : Header) (ws qs cs : List ℕ) (count : ℕ) → Admitted h ws qs cs count → length (range_over (named_in h.arities qs) (rows h ws)) ≤ most_needed
range-few h ws qs cs count a = omega (arith, distinct_le (needed h ws qs), need_few h ws qs cs count a)
