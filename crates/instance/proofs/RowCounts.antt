-- The rows of each relation, counted row by row. Assumes nothing.
use Prim.Native.Nat.{ℕ, zero, suc, ◌+◌, ◌<◌}
use mathlib.Core.Path.{◌≡◌, refl, sym, ap, ◌∙◌}
use mathlib.Core.List.{List, [], ◌∷◌, ◌++◌}
use native.Mathlib.Omega.{arith}
use lib.ListN.{length, get_or, set, length-append}
use Rattle.std.specs.List.{sum}
use Rattle.std.proofs.lemmas.List.Sums.{sum_by-cons}
use Rattle.calculus.specs.Row.{Row}
use Rattle.calculus.specs.Closed.{tuples}
use Rattle.calculus.proofs.Counting.{Counting, counting-one, counting_ends}
use Rattle.calculus.proofs.Table.{table-size, table_at}
use Rattle.calculus.proofs.Tuples.{tuples-here, tuples-other, tuples-append}
use Rattle.instance.specs.Header.{max_relations}
use Rattle.instance.specs.RowCounts.{row_counts, sum_of}

-- std's word for the same
pub sum_is : (cs : List ℕ) → sum cs ≡ sum_of cs
unfolding sum_of
sum_is [] = refl
sum_is (c ∷ cs) = sum_by-cons (λ (n : ℕ). n) c cs ∙ ap (λ (n : ℕ). c + n) (sum_is cs)

-- with one more row
pub sum_one : (cs : List ℕ) (i : ℕ) → i < length cs → sum_of (set cs i (get_or cs i 0 + 1)) ≡ sum_of cs + 1
unfolding sum_of
sum_one [] i l = absurd (omega arith)
sum_one (c ∷ cs) zero l = omega arith
sum_one (c ∷ cs) (suc i) l = omega (arith, sum_one cs i (omega arith))

-- the rows of each relation are being counted, and the rows `rest` are still to come
abbrev pub RowsCounted : List Row → List Row → List ℕ → Type 0
RowsCounted rs rest counts = Counting max_relations (λ r. length (tuples r rs)) (λ r. length (tuples r rest)) counts

pub counted-row :
    (rs : List Row) (row : Row) (rest : List Row) (counts : List ℕ) → row.relation < max_relations → RowsCounted rs (row ∷ rest) counts →
    RowsCounted rs rest (set counts row.relation (get_or counts row.relation 0 + 1))
counted-row rs row rest counts l s =
    counting-one max_relations _ _ _ counts row.relation l (ap length (tuples-here row.relation row rest refl))
    (λ j ne. ap length (tuples-other j row rest (λ e. ne (sym e)))) s

-- no row is still to come
pub counted-all : (rs : List Row) (counts : List ℕ) → RowsCounted rs [] counts → counts ≡ row_counts rs
unfolding tuples
counted-all rs counts s = counting_ends max_relations _ _ counts (λ k. refl) s

-- the count of each relation, and the number of counts
module _ (rs : List Row) where
  pub row-count_at : (r : ℕ) → r < max_relations → get_or (row_counts rs) r 0 ≡ length (tuples r rs)
  row-count_at r l = table_at (λ r. length (tuples r rs)) max_relations r l

  pub row_counts-size : length (row_counts rs) ≡ max_relations
  row_counts-size = table-size (λ r. length (tuples r rs)) max_relations

-- the counts of rows that others follow
pub counts-before : (rs ss : List Row) → RowsCounted (rs ++ ss) ss (row_counts rs)
counts-before rs ss = record {
  size = row_counts-size rs;
  each = λ r l. omega (arith, row-count_at rs r l, ap length (tuples-append r rs ss), length-append (tuples r rs) (tuples r ss));
}

-- one row more
pub counts-entered :
    (rs : List Row) (row : Row) → row.relation < max_relations →
    row_counts (rs ++ row ∷ []) ≡ set (row_counts rs) row.relation (get_or (row_counts rs) row.relation 0 + 1)
counts-entered rs row l = sym (counted-all (rs ++ row ∷ []) _ (counted-row (rs ++ row ∷ []) row [] (row_counts rs) l (counts-before rs (row ∷ []))))
