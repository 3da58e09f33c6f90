-- The nulls that blanks get differ from each other and from every written cell. Assumes nothing.
use Prim.Native.Nat.{ℕ, zero, suc, ◌+◌, ◌≤◌, ◌<◌, max}
use mathlib.Core.Path.{◌≡◌, refl, sym, ap, ◌∙◌}
use mathlib.Core.List.{List, [], ◌∷◌, ◌++◌}
use native.Mathlib.Omega.{arith}
use lib.ListN.{get_or}
use Rattle.calculus.specs.Cell.{null}
use Rattle.calculus.specs.Row.{cells_of}
use Rattle.calculus.proofs.Bools.{zero_not_one}
use Rattle.instance.specs.Blanks.{Field, written, blank, Record, fields_of, blanks_in, highest_of, written_of, highest_in, highest, numbered, numbered_rows, rows_of}
use Rattle.instance.specs.Marked.{Marked}
use Rattle.instance.proofs.Blanks.{numbered-length}

not_blank : {A : Type 0} (c : ℕ) → written c ≡ blank → A
not_blank c e = let z : ◌≡◌ {A = ℕ} 0 1 = cc in absurd (zero_not_one z)

-- ---- one list of fields

kept_at : (m : ℕ) (fs : List Field) (i c : ℕ) → get_or fs i blank ≡ written c → get_or (numbered m fs) i 0 ≡ c
unfolding numbered
kept_at m [] i c e = not_blank c (sym e)
kept_at m (written d ∷ fs) zero c e = cc
kept_at m (written d ∷ fs) (suc i) c e = kept_at m fs i c e
kept_at m (blank ∷ fs) zero c e = not_blank c (sym e)
kept_at m (blank ∷ fs) (suc i) c e = kept_at (suc m) fs i c e

-- a blank gets null m or a higher one
mark_at : (m : ℕ) (fs : List Field) (i : ℕ) → get_or fs i (written 0) ≡ blank → null m ≤ get_or (numbered m fs) i 0
unfolding numbered
mark_at m [] i e = not_blank 0 e
mark_at m (written d ∷ fs) zero e = not_blank d e
mark_at m (written d ∷ fs) (suc i) e = mark_at m fs i e
mark_at m (blank ∷ fs) zero e = omega arith
mark_at m (blank ∷ fs) (suc i) e = omega (arith, mark_at (suc m) fs i e)

-- no cell is a null between the highest one written and the next one that a blank gets
other_at : (m k : ℕ) (fs : List Field) (j : ℕ) → highest_in fs < k → k < m → get_or (numbered m fs) j 0 ≡ null k → ⊥
unfolding numbered highest_of written_of
other_at m k [] j low high e = omega arith
other_at m k (written d ∷ fs) zero low high e = omega arith
other_at m k (written d ∷ fs) (suc j) low high e = other_at m k fs j (omega arith) high e
other_at m k (blank ∷ fs) zero low high e = omega arith
other_at m k (blank ∷ fs) (suc j) low high e = other_at (suc m) k fs j low (omega arith) e

own_at : (m : ℕ) (fs : List Field) (i j : ℕ) → highest_in fs < m → get_or fs i (written 0) ≡ blank → (i ≡ j → ⊥) → get_or (numbered m fs) i 0 ≡ get_or (numbered m fs) j 0 → ⊥
unfolding numbered highest_of written_of
own_at m [] i j low b ne e = not_blank 0 b
own_at m (written d ∷ fs) zero j low b ne e = not_blank d b
own_at m (written d ∷ fs) (suc i) zero low b ne e = omega (arith, mark_at m fs i b)
own_at m (written d ∷ fs) (suc i) (suc j) low b ne e = own_at m fs i j (omega arith) b (λ s. ne (ap suc s)) e
own_at m (blank ∷ fs) zero zero low b ne e = ne refl
own_at m (blank ∷ fs) zero (suc j) low b ne e = other_at (suc m) m fs j low (omega arith) (sym e)
own_at m (blank ∷ fs) (suc i) zero low b ne e = omega (arith, mark_at (suc m) fs i b)
own_at m (blank ∷ fs) (suc i) (suc j) low b ne e = own_at (suc m) fs i j (omega arith) b (λ s. ne (ap suc s)) e

-- ---- the whole card

numbered-append : (m : ℕ) (fs gs : List Field) → numbered m (fs ++ gs) ≡ numbered m fs ++ numbered (m + blanks_in fs) gs
unfolding numbered blanks_in
numbered-append m [] gs = let e : m ≡ m + 0 = omega arith in ap (λ (k : ℕ). numbered k gs) e
numbered-append m (written c ∷ fs) gs = ap (λ (l : List ℕ). c ∷ l) (numbered-append m fs gs)
numbered-append m (blank ∷ fs) gs =
    let e : suc m + blanks_in fs ≡ m + suc (blanks_in fs) = omega arith in
    ap (λ (l : List ℕ). null m ∷ l) (numbered-append (suc m) fs gs ∙ ap (λ (k : ℕ). numbered (suc m) fs ++ numbered k gs) e)

cells-numbered : (m : ℕ) (rs : List Record) → cells_of (numbered_rows m rs) ≡ numbered m (fields_of rs)
unfolding cells_of numbered_rows fields_of numbered
cells-numbered m [] = refl
cells-numbered m (r ∷ rs) =
    ap (λ (l : List ℕ). numbered m r.fields ++ l) (cells-numbered (m + blanks_in r.fields) rs) ∙ sym (numbered-append m r.fields (fields_of rs))

highest-append : (fs gs : List Field) → highest_in (fs ++ gs) ≡ max (highest_in fs) (highest_in gs)
unfolding highest_of written_of
highest-append [] gs = omega arith
highest-append (written c ∷ fs) gs = omega (arith, highest-append fs gs)
highest-append (blank ∷ fs) gs = highest-append fs gs

highest-is : (rs : List Record) → highest_in (fields_of rs) ≡ highest rs
unfolding highest_of written_of highest fields_of
highest-is [] = refl
highest-is (r ∷ rs) = highest-append r.fields (fields_of rs) ∙ ap (max (highest_in r.fields)) (highest-is rs)

pub rows-marked : (rs : List Record) → Marked (fields_of rs) (cells_of (rows_of rs))
rows-marked rs =
    let m = suc (highest rs) in
    rw (cells-numbered m rs) record {
      long = numbered-length m (fields_of rs);
      kept = kept_at m (fields_of rs);
      mark = λ i b. omega (arith, mark_at m (fields_of rs) i b);
      own = λ i j b l ne. own_at m (fields_of rs) i j (omega (arith, highest-is rs)) b ne;
    }
