-- Rows with blanks, and their numbering. Document 01: "With M the highest mark written anywhere in the card (0 if none), blanks get M + 1, M + 2 and so on
-- in card order."
use Rattle.std.specs.Prelude.{ℕ, suc, ◌+◌, max, List, [], ◌∷◌, ◌++◌}
use Rattle.calculus.specs.Cell.{null, mark_of}
use Rattle.calculus.specs.Row.{Row}

-- a column of a record: a cell that is written, or a blank
pub data Field : Type 0 where
  written : ℕ → Field
  blank : Field

-- a row whose columns may be blank
pub record Record : Type 0 where
  pub relation : ℕ
  pub fields : List Field

-- the fields of all records, in order
unfoldable pub fields_of : List Record → List Field
fields_of [] = []
fields_of (r ∷ rs) = r.fields ++ fields_of rs

unfoldable pub blanks_in : List Field → ℕ
blanks_in [] = 0
blanks_in (written c ∷ fs) = blanks_in fs
blanks_in (blank ∷ fs) = suc (blanks_in fs)

unfoldable pub blanks : List Record → ℕ
blanks [] = 0
blanks (r ∷ rs) = blanks_in r.fields + blanks rs

-- the highest null among cells, 0 if there is none
unfoldable pub highest_of : List ℕ → ℕ
highest_of [] = 0
highest_of (c ∷ cs) = max (mark_of c) (highest_of cs)

-- the cells that are written
unfoldable pub written_of : List Field → List ℕ
written_of [] = []
written_of (written c ∷ fs) = c ∷ written_of fs
written_of (blank ∷ fs) = written_of fs

-- the highest null that is written
abbrev pub highest_in : List Field → ℕ
highest_in fs = highest_of (written_of fs)

unfoldable pub highest : List Record → ℕ
highest [] = 0
highest (r ∷ rs) = max (highest_in r.fields) (highest rs)

-- the cells of the fields, if the next blank gets null m
unfoldable pub numbered : ℕ → List Field → List ℕ
numbered m [] = []
numbered m (written c ∷ fs) = c ∷ numbered m fs
numbered m (blank ∷ fs) = null m ∷ numbered (suc m) fs

unfoldable pub numbered_rows : ℕ → List Record → List Row
numbered_rows m [] = []
numbered_rows m (r ∷ rs) = record { relation = r.relation; cells = numbered m r.fields } ∷ numbered_rows (m + blanks_in r.fields) rs

-- the rows that records stand for
abbrev pub rows_of : List Record → List Row
rows_of rs = numbered_rows (suc (highest rs)) rs
