-- The header of rows: it makes them a sound instance, and rows of the same relations and lengths have the same header. Assumes nothing.
use Prim.Native.Nat.{ℕ, suc, ◌≤◌}
use mathlib.Core.Path.{◌≡◌, refl, sym, ap, ap₂, ◌∙◌}
use mathlib.Core.Bool.{Bool, true, false, cond}
use mathlib.Core.List.{List, [], ◌∷◌, ◌++◌, map}
use native.Mathlib.Omega.{arith}
use borrow.Author.Tests.{le-leb}
use lib.ListN.{length, length-append, length-map}
use lib.Seq.{take_at}
use lib.Dec.{eqb}
use Rattle.calculus.specs.Row.{Row, map_row}
use Rattle.calculus.specs.Closed.{tuples}
use Rattle.calculus.proofs.Table.{table_same}
use Rattle.calculus.proofs.Tuples.{identical_refl}
use Rattle.instance.specs.declared.header.Header.{Header}
use Rattle.instance.specs.Header.{header_well_formed, max_relations, max_words, header_with}
use Rattle.instance.specs.Rows.{rows_well_formed, words_of}
use Rattle.instance.specs.Sound.{sound, rows, header_for}
use Rattle.instance.specs.RowCounts.{row_counts}
use Rattle.instance.proofs.Rows.{rows_back, rows-words_well_formed}

-- the instance is sound, and has these rows
pub record Holds (h : Header) (ws : List ℕ) (rs : List Row) : Type 0 where
  pub is_sound : sound h ws ≡ true
  pub holds : rows h ws ≡ rs

-- The words of well-formed rows, followed by any others, are a sound instance under the rows' header.
pub rows-sound : (n : ℕ) (ars : List ℕ) (rs : List Row) (back : List ℕ) → header_well_formed n ars ≡ true → length (words_of rs) ≤ max_words
    → rows_well_formed n ars rs ≡ true → Holds (header_for n ars rs) (words_of rs ++ back) rs
unfolding sound rows
rows-sound n ars rs back head few stand =
    let e = take_at (words_of rs) back (length (words_of rs)) refl in
    let within : length (words_of rs) ≤ length (words_of rs ++ back) = rw length-append (omega arith) in
    record {
      is_sound = simp (head, le-leb _ _ few, le-leb _ _ within, e, rows-words_well_formed n ars rs stand, rows_back n ars rs stand, identical_refl (row_counts rs));
      holds = rw e (rows_back n ars rs stand);
    }

-- a header is the header of its relations and of rows that have its number of words and its counts
pub header-same : (h : Header) (rs : List Row) → length (words_of rs) ≡ h.used → row_counts rs ≡ h.counts → header_for h.relations h.arities rs ≡ h
header-same h rs e f = ap₂ (header_with h.relations h.arities) e f

-- the same relations and lengths, row by row
unfoldable pub Alike : List Row → List Row → Type 0
Alike [] [] = Unit
Alike [] (s ∷ ss) = ⊥
Alike (r ∷ rs) [] = ⊥
Alike (r ∷ rs) (s ∷ ss) = (r.relation ≡ s.relation) × (length r.cells ≡ length s.cells) × Alike rs ss

pub words-alike : (rs ss : List Row) → Alike rs ss → length (words_of rs) ≡ length (words_of ss)
unfolding Alike words_of
words-alike [] [] a = refl
words-alike [] (s ∷ ss) a = absurd a
words-alike (r ∷ rs) [] a = absurd a
words-alike (r ∷ rs) (s ∷ ss) a =
    omega (arith, length-append r.cells (words_of rs), length-append s.cells (words_of ss), a.1, words-alike rs ss a.2)

tuples-alike : (r : ℕ) (rs ss : List Row) → Alike rs ss → length (tuples r rs) ≡ length (tuples r ss)
unfolding Alike tuples
tuples-alike r [] [] a = refl
tuples-alike r [] (s ∷ ss) a = absurd a
tuples-alike r (q ∷ rs) [] a = absurd a
tuples-alike r (q ∷ rs) (s ∷ ss) a = rw a.0 (go (eqb s.relation r) (tuples-alike r rs ss a.2))
  where
    go : (b : Bool) → length (tuples r rs) ≡ length (tuples r ss) → length (cond b (q.cells ∷ tuples r rs) (tuples r rs)) ≡ length (cond b (s.cells ∷ tuples r ss) (tuples r ss))
    go true e = ap suc e
    go false e = e

pub counts-alike : (rs ss : List Row) → Alike rs ss → row_counts rs ≡ row_counts ss
counts-alike rs ss a = table_same _ _ (λ r. tuples-alike r rs ss a) max_relations

pub header-alike : (n : ℕ) (ars : List ℕ) (rs ss : List Row) → Alike rs ss → header_for n ars rs ≡ header_for n ars ss
header-alike n ars rs ss a = header-same (header_for n ars ss) rs (words-alike rs ss a) (counts-alike rs ss a)

-- a map of cells leaves relations and lengths as they are
pub map-alike : (f : ℕ → ℕ) (rs : List Row) → Alike (map (map_row f) rs) rs
unfolding Alike
map-alike f [] = tt
map-alike f (r ∷ rs) = (refl, length-map r.cells f, map-alike f rs)

pub alike_refl : (rs : List Row) → Alike rs rs
unfolding Alike
alike_refl [] = tt
alike_refl (r ∷ rs) = (refl, refl, alike_refl rs)

pub alike_sym : (rs ss : List Row) → Alike rs ss → Alike ss rs
unfolding Alike
alike_sym [] [] a = tt
alike_sym [] (s ∷ ss) a = absurd a
alike_sym (r ∷ rs) [] a = absurd a
alike_sym (r ∷ rs) (s ∷ ss) a = (sym a.0, sym a.1, alike_sym rs ss a.2)

pub alike_trans : (rs ss ts : List Row) → Alike rs ss → Alike ss ts → Alike rs ts
unfolding Alike
alike_trans [] [] [] a b = tt
alike_trans [] [] (t ∷ ts) a b = absurd b
alike_trans [] (s ∷ ss) ts a b = absurd a
alike_trans (r ∷ rs) [] ts a b = absurd a
alike_trans (r ∷ rs) (s ∷ ss) [] a b = absurd b
alike_trans (r ∷ rs) (s ∷ ss) (t ∷ ts) a b = (a.0 ∙ b.0, a.1 ∙ b.1, alike_trans rs ss ts a.2 b.2)

-- with the same rows after them
pub alike-append : (rs ss more : List Row) → Alike rs ss → Alike (rs ++ more) (ss ++ more)
unfolding Alike
alike-append [] [] more a = alike_refl more
alike-append [] (s ∷ ss) more a = absurd a
alike-append (r ∷ rs) [] more a = absurd a
alike-append (r ∷ rs) (s ∷ ss) more a = (a.0, a.1, alike-append rs ss more a.2)
