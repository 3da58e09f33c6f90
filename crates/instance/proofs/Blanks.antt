-- Records whose blanks are numbered: their rows are well formed, and a record without blanks is its row. Assumes nothing.
use Prim.Native.Nat.{ℕ, suc, ◌+◌, ◌≤◌}
use mathlib.Core.Path.{◌≡◌, refl, ap, ◌∙◌}
use mathlib.Core.Bool.{Bool, true, ◌&&◌}
use mathlib.Core.List.{List, [], ◌∷◌, map}
use native.Mathlib.Omega.{arith}
use borrow.Author.Tests.{ltb-true, lt-ltb, le-ltb, le-leb, eqb-true}
use lib.ListN.{length}
use lib.Dec.{ltb, eqb}
use Rattle.calculus.specs.All.{all}
use Rattle.calculus.specs.Cell.{constants, nulls, null, is_cell}
use Rattle.calculus.specs.Row.{Row}
use Rattle.calculus.proofs.All.{all_parts}
use Rattle.calculus.proofs.Bools.{and_parts, and_intro}
use Rattle.calculus.proofs.Cells.{cell_below}
use Rattle.instance.specs.Header.{arity_of}
use Rattle.instance.specs.Rows.{are_cells, row_well_formed, rows_well_formed}
use Rattle.instance.specs.Blanks.{Field, written, blank, Record, blanks_in, blanks, highest_of, written_of, highest_in, highest, numbered, numbered_rows}
use Rattle.instance.proofs.Rows.{row_well_formed_lem, row_parts}

-- a well-formed field
unfoldable pub field_well_formed : Field → Bool
field_well_formed (written c) = is_cell c
field_well_formed blank = true

abbrev pub fields_well_formed : List Field → Bool
fields_well_formed fs = all field_well_formed fs

-- a record of one of n relations, with a field for each of its columns
unfoldable pub record_well_formed : ℕ → List ℕ → Record → Bool
record_well_formed n ars r = ltb r.relation n && eqb (length r.fields) (arity_of ars r.relation) && fields_well_formed r.fields

abbrev pub records_well_formed : ℕ → List ℕ → List Record → Bool
records_well_formed n ars rs = all (record_well_formed n ars) rs

-- null m is a cell for m from 1 to 200
pub null-cell : (m : ℕ) → 1 ≤ m → m ≤ nulls → is_cell (null m) ≡ true
unfolding is_cell
null-cell m low high =
    rw (le-ltb (constants + m) constants (omega arith), lt-ltb constants (constants + m) (omega arith))
    (le-leb (constants + m) (constants + nulls) (omega arith))

pub numbered-length : (m : ℕ) (fs : List Field) → length (numbered m fs) ≡ length fs
unfolding numbered
numbered-length m [] = refl
numbered-length m (written c ∷ fs) = ap suc (numbered-length m fs)
numbered-length m (blank ∷ fs) = ap suc (numbered-length (suc m) fs)

numbered-cells : (m : ℕ) (fs : List Field) → fields_well_formed fs ≡ true → 1 ≤ m → m + blanks_in fs ≤ suc nulls → are_cells (numbered m fs) ≡ true
unfolding numbered blanks_in field_well_formed all
numbered-cells m [] e low high = refl
numbered-cells m (written c ∷ fs) e low high =
    let p = and_parts (is_cell c) (fields_well_formed fs) e in
    and_intro p.0 (numbered-cells m fs p.1 low high)
numbered-cells m (blank ∷ fs) e low high = and_intro (null-cell m low (omega arith)) (numbered-cells (suc m) fs e (omega arith) (omega arith))

numbered-row : (n : ℕ) (ars : List ℕ) (m : ℕ) (r : Record) → record_well_formed n ars r ≡ true → 1 ≤ m → m + blanks_in r.fields ≤ suc nulls
    → row_well_formed n ars (record { relation = r.relation; cells = numbered m r.fields }) ≡ true
unfolding record_well_formed
numbered-row n ars m r e low high =
    let p = and_parts (ltb r.relation n && eqb (length r.fields) (arity_of ars r.relation)) (fields_well_formed r.fields) e in
    let q = and_parts (ltb r.relation n) (eqb (length r.fields) (arity_of ars r.relation)) p.0 in
    row_well_formed_lem n ars (record { relation = r.relation; cells = numbered m r.fields }) (ltb-true r.relation n q.0)
    (numbered-length m r.fields ∙ eqb-true (length r.fields) (arity_of ars r.relation) q.1) (numbered-cells m r.fields p.1 low high)

pub numbered-well_formed : (n : ℕ) (ars : List ℕ) (m : ℕ) (rs : List Record) → records_well_formed n ars rs ≡ true → 1 ≤ m → m + blanks rs ≤ suc nulls
    → rows_well_formed n ars (numbered_rows m rs) ≡ true
unfolding numbered_rows blanks all
numbered-well_formed n ars m [] e low high = refl
numbered-well_formed n ars m (r ∷ rs) e low high =
    let p = all_parts (record_well_formed n ars) r rs e in
    and_intro (numbered-row n ars m r p.0 low (omega arith))
    (numbered-well_formed n ars (m + blanks_in r.fields) rs p.1 (omega arith) (omega arith))

-- ---- records without blanks

-- a row as a record in which every column is written
abbrev pub full_record : Row → Record
full_record r = record { relation = r.relation; fields = map written r.cells }

no_blank : (cs : List ℕ) → blanks_in (map written cs) ≡ 0
unfolding blanks_in
no_blank [] = refl
no_blank (c ∷ cs) = no_blank cs

pub no_blanks : (rs : List Row) → blanks (map full_record rs) ≡ 0
unfolding blanks
no_blanks [] = refl
no_blanks (r ∷ rs) = rw (no_blank r.cells, no_blanks rs)

numbered_full : (m : ℕ) (cs : List ℕ) → numbered m (map written cs) ≡ cs
unfolding numbered
numbered_full m [] = refl
numbered_full m (c ∷ cs) = ap (λ (l : List ℕ). c ∷ l) (numbered_full m cs)

pub numbered_rows_lem : (m : ℕ) (rs : List Row) → numbered_rows m (map full_record rs) ≡ rs
unfolding numbered_rows
numbered_rows_lem m [] = refl
numbered_rows_lem m (r ∷ rs) = rw (numbered_full m r.cells, numbered_rows_lem (m + blanks_in (map written r.cells)) rs)

-- the highest null among cells is at most 200
highest_in_lem : (cs : List ℕ) → are_cells cs ≡ true → highest_in (map written cs) ≤ nulls
unfolding highest_of written_of
highest_in_lem [] e = omega arith
highest_in_lem (c ∷ cs) e =
    let p = all_parts is_cell c cs e in
    let l = cell_below c p.0 in
    let l' : highest_in (map written cs) ≤ nulls = highest_in_lem cs p.1 in
    omega arith

pub highest_full : (n : ℕ) (ars : List ℕ) (rs : List Row) → rows_well_formed n ars rs ≡ true → highest (map full_record rs) ≤ nulls
unfolding highest
highest_full n ars [] e = omega arith
highest_full n ars (r ∷ rs) e =
    let p = row_parts n ars r rs e in
    let l : highest_in (map written r.cells) ≤ nulls = highest_in_lem r.cells p.2 in
    let l' : highest (map full_record rs) ≤ nulls = highest_full n ars rs p.3 in
    omega arith
