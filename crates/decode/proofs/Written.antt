-- The cells of a row's written and blank columns, one column at a time, while the row is being written. Assumes nothing.
use Prim.Native.Nat.{ℕ, suc, ◌+◌, ◌-◌, ◌/◌, ◌%◌, ◌≤◌, ◌<◌}
use mathlib.Core.Path.{◌≡◌, refl, sym, ap, ◌∙◌}
use mathlib.Core.Bool.{true}
use mathlib.Core.List.{List, [], ◌∷◌}
use native.Mathlib.Nat.{sub-zero}
use native.Mathlib.Numerals.{add-one}
use native.Mathlib.Omega.{arith}
use lib.ListN.{length, drop, set, length-drop}
use lib.Dec.{eqb}
use lib.Seq.{drop-drop, drop-set-lt}
use borrow.Author.Tests.{eq-eqb, ne_eqb}
use Rattle.calculus.specs.Cell.{null}
use Rattle.calculus.specs.Overwrite.{overwrite}
use Rattle.calculus.specs.Reading.{read, refused}
use Rattle.calculus.proofs.Bools.{false_not_true}
use Rattle.calculus.proofs.Reading.{then_read}
use Rattle.calculus.proofs.Stores.{Written, written_begin, written_store, written_anew, written_finish}
use Rattle.instance.specs.Blanks.{Field, written, blank, numbered}
use Rattle.instance.proofs.Blanks.{numbered-length}
use Rattle.parse.specs.Parse.{Parsed, is_read, got}
use Rattle.parse.specs.Number.{read_number}
use Rattle.parse.proofs.Each.{first_read}
use Rattle.card.specs.Format.{read_field, read_column, read_fields}
use Rattle.card.proofs.Parts.{field_read, fields-well_formed}

-- the cells of n columns, if the next blank gets null m
abbrev pub cells_read_in : ℕ → ℕ → ℕ → List ℕ → List ℕ
cells_read_in m n bits bs = numbered m (got [] (read_fields n bits bs))

abbrev pub all_read : ℕ → ℕ → List ℕ → Type 0
all_read n bits bs = is_read (read_fields n bits bs) ≡ true

pub cells-long : (m n bits : ℕ) (bs : List ℕ) → all_read n bits bs → length (cells_read_in m n bits bs) ≡ n
cells-long m n bits bs = go (read_fields n bits bs) refl
  where
    go : (p : Parsed (List Field)) → read_fields n bits bs ≡ p → is_read p ≡ true → length (numbered m (got [] p)) ≡ n
    go (read fs rest) e h = numbered-length m fs ∙ (fields-well_formed n bits bs e).0
    go (refused r) e h = false_not_true h

module _ (k bits m : ℕ) (bs : List ℕ) (h : all_read (suc k) bits bs) where
  -- a column that is written: its cell, and the columns after it
  pub record WrittenColumn : Type 0 where
    pub cell : ℕ
    pub number : read_number 3 bs ≡ read cell (drop 3 bs)
    pub long : 3 ≤ length bs
    pub reads : all_read k (bits / 2) (drop 3 bs)
    pub cells : cells_read_in m (suc k) bits bs ≡ cell ∷ cells_read_in m k (bits / 2) (drop 3 bs)

  pub written-column : bits % 2 ≡ 1 → WrittenColumn
  unfolding read_fields numbered
  written-column odd =
      let f = first_read (read_column (eqb (bits % 2) 1) bs) (read_fields k (bits / 2)) h in
      let bit : read_column (eqb (bits % 2) 1) bs ≡ read_column true bs = rw (eq-eqb (bits % 2) 1 odd) in
      let c = then_read (read_field bs) _ (sym bit ∙ f.was_read) in
      let r = field_read bs c.first in
      let one : f.one ≡ written c.value = cc c.second in
      let after : f.between ≡ drop 3 bs = cc (c.second, r.after) in
      let fields : got [] (read_fields (suc k) bits bs) ≡ written c.value ∷ got [] (read_fields k (bits / 2) (drop 3 bs)) = cc f.all in
      record {
        cell = c.value;
        number = rw r.after at r.number;
        long = r.long;
        reads = rw after at f.reads;
        cells = ap (numbered m) fields;
      }

  pub record BlankColumn : Type 0 where
    pub reads : all_read k (bits / 2) bs
    pub cells : cells_read_in m (suc k) bits bs ≡ null m ∷ cells_read_in (suc m) k (bits / 2) bs

  pub blank-column : (bits % 2 ≡ 1 → ⊥) → BlankColumn
  unfolding read_fields numbered
  blank-column even =
      let f = first_read (read_column (eqb (bits % 2) 1) bs) (read_fields k (bits / 2)) h in
      let bit : read_column (eqb (bits % 2) 1) bs ≡ read blank bs = rw (ne_eqb (bits % 2) 1 even) in
      let e : read blank bs ≡ read f.one f.between = sym bit ∙ f.was_read in
      let one : f.one ≡ blank = cc in
      let after : f.between ≡ bs = cc in
      record { reads = rw after at f.reads; cells = ap (numbered m) (rw (one, after) at f.all) }

-- ---- a row that is being written

module _ (start : List ℕ) (relation arity map : ℕ) (fields : List ℕ) (next : ℕ) where
  abbrev row : List ℕ
  row = relation ∷ cells_read_in next arity map fields

  -- the first `column` columns of the row are in the part, and the cells of the others are still to be read
  pub record WritingRow (part : List ℕ) (bits free at column : ℕ) : Type 0 where
    pub within : column ≤ arity
    pub small : free ≤ next + column
    pub reads : all_read (arity - column) bits (drop at fields)
    pub stored : Written row (cells_read_in free (arity - column) bits (drop at fields)) start part (column + 1)

  module _ (part : List ℕ) (bits free at column : ℕ) (w : WritingRow part bits free at column) where
    module _ (more : column < arity) where
      left : arity - column ≡ suc (arity - (column + 1))
      left = omega arith

      pub row_room : column + 1 < length part
      row_room = omega (arith, w.stored.same, w.stored.room, cells-long free (arity - column) bits (drop at fields) w.reads)

      -- the next column is written in the card
      here : bits % 2 ≡ 1 → WrittenColumn (arity - (column + 1)) bits free (drop at fields) (rw left at w.reads)
      here = written-column (arity - (column + 1)) bits free (drop at fields) (rw left at w.reads)

      pub field_room : bits % 2 ≡ 1 → at + 3 ≤ length fields
      field_room odd = omega (arith, (here odd).long, length-drop at fields)

      pub written_step : bits % 2 ≡ 1 → {c : ℕ} {rest : List ℕ} → read_number 3 (drop at fields) ≡ read c rest
          → WritingRow (set part (column + 1) c) (bits / 2) free (at + 3) (column + 1)
      written_step odd {c} number =
          let col = here odd in
          let same : col.cell ≡ c = cc col.number in
          let stored = rw (left, col.cells, same, drop-drop) at w.stored in
          record {
            within = omega arith;
            small = omega (arith, w.small);
            reads = rw drop-drop at col.reads;
            stored = written_store (column + 1 + 1) refl stored;
          }

      -- the next column is blank
      pub blank_step : (bits % 2 ≡ 1 → ⊥) → WritingRow (set part (column + 1) (null free)) (bits / 2) (free + 1) at (column + 1)
      blank_step even =
          let col = blank-column (arity - (column + 1)) bits free (drop at fields) (rw left at w.reads) even in
          let stored = rw (left, col.cells, ← add-one free) at w.stored in
          record {
            within = omega arith;
            small = omega (arith, w.small);
            reads = col.reads;
            stored = written_store (column + 1 + 1) refl stored;
          }

    pub row_ends : arity ≤ column → part ≡ overwrite row start
    unfolding read_fields numbered
    row_ends done =
        let none : arity - column ≡ 0 = omega arith in
        written_finish (rw none at w.stored)

-- the relation is stored first
pub row-starts :
    (part : List ℕ) (relation arity map : ℕ) (fields : List ℕ) (next : ℕ) → 1 + arity ≤ length part → all_read arity map fields →
    WritingRow (set part 0 relation) relation arity map fields next (set part 0 relation) map next 0 0
row-starts part relation arity map fields next room reads =
    let long = cells-long next arity map fields reads in
    record {
      within = omega arith;
      small = omega arith;
      reads = rw sub-zero reads;
      stored = rw sub-zero (written_anew (written_store 1 refl (written_begin (relation ∷ cells_read_in next arity map fields) part (omega arith))));
    }

pub row-whole : (part : List ℕ) (relation : ℕ) (cells : List ℕ) → overwrite (relation ∷ cells) (set part 0 relation) ≡ overwrite (relation ∷ cells) part
row-whole part relation cells = rw (drop-set-lt (suc (length cells)) part 0 relation (omega arith))
