-- Reading the fields of a record: n is the number of set bits in its map, and n fields are read, one after the other. Assumes nothing.
use Prim.Native.Nat.{ℕ, zero, suc, ◌+◌, ◌-◌, ◌*◌, ◌/◌, ◌%◌, ◌^◌, ◌≤◌, ◌<◌, max}
use mathlib.Core.Path.{◌≡◌, refl, ap, ◌∙◌}
use mathlib.Core.Bool.{Bool, true, false}
use mathlib.Core.List.{List, [], ◌∷◌}
use native.Mathlib.Nat.{lt_of_lt_of_le, le_trans}
use native.Mathlib.Omega.{arith}
use lib.ListN.{length, drop, length-drop}
use lib.Seq.{drop-drop}
use lib.Dec.{eqb}
use lib.Pow.{pow_mono}
use lib.Count.{ones, ones_step, ones-le, count_leading_zeros, leading_length}
use borrow.Author.Tests.{eqb-true, eqb-false}
use Rattle.calculus.specs.Answer.{Answer}
use Rattle.std.specs.Prelude.{Ok, Err}
use Rattle.calculus.specs.Cell.{is_cell, mark_of, nulls}
use Rattle.calculus.specs.Reading.{read, refused, and_then}
use Rattle.calculus.specs.declared.refusal.Refusal.TheVariants.{CutShort, NotACell}
use Rattle.calculus.proofs.Cells.{cell_below}
use Rattle.instance.specs.Blanks.{Field, written, blank, blanks_in, highest_of, written_of}
use Rattle.parse.specs.Parse.{Parsed, read_each}
use Rattle.parse.specs.Number.{read_number}
use Rattle.parse.proofs.Each.{each_read}
use Rattle.parse.proofs.Numbers.{takes_number}
use Rattle.card.specs.Format.{read_field, read_column, read_fields}
use Rattle.card.proofs.Parts.{field_read}
use Rattle.decode.specs.Measure.{read_written, measured_fields}

-- A 32-bit number is below 2^a exactly if it has at least 32 - a leading zeros.

pub leading_within : (a x : ℕ) → x < 2 ^ 32 → 32 - a ≤ count_leading_zeros 32 x → x < 2 ^ a
leading_within a x f l = let s = leading_length 32 x f in lt_of_lt_of_le s.2 (pow_mono (omega arith))

pub leading_beyond : (a x : ℕ) → x < 2 ^ 32 → count_leading_zeros 32 x < 32 - a → 2 ^ a ≤ x
leading_beyond a x f l =
    let s = leading_length 32 x f in
    let p : 2 ^ suc a ≤ 2 * x + 1 = le_trans (pow_mono (omega arith)) s.3 in
    omega arith

-- ---- fields that were read

pub record WrittenRead (n : ℕ) (bs cs rest : List ℕ) : Type 0 where
  pub count : length cs ≡ n
  pub low : highest_of cs ≤ nulls
  pub long : 3 * n ≤ length bs
  pub after : rest ≡ drop (3 * n) bs

written_none : (bs : List ℕ) → WrittenRead 0 bs [] bs
unfolding highest_of
written_none bs = record { count = refl; low = omega arith; long = omega arith; after = refl }

written_more : (n : ℕ) (bs : List ℕ) (c : ℕ) (between cs rest : List ℕ) → read_field bs ≡ read c between → WrittenRead n between cs rest
    → WrittenRead (suc n) bs (c ∷ cs) rest
unfolding highest_of
written_more n bs c between cs rest e w =
    let f = field_read bs e in
    let low : mark_of c ≤ nulls = omega (arith, cell_below c f.cell) in
    let left : length between ≡ length bs - 3 = ap length f.after ∙ length-drop 3 bs in
    let place : 3 + 3 * n ≡ 3 * suc n = omega arith in
    record {
      count = ap suc w.count;
      low = omega (arith, w.low);
      long = omega (arith, w.long, f.long);
      after = w.after ∙ ap (drop (3 * n)) f.after ∙ drop-drop (3 * n) 3 bs ∙ ap (λ (i : ℕ). drop i bs) place;
    }

pub written_read : (n : ℕ) (bs : List ℕ) {cs rest : List ℕ} → read_written n bs ≡ read cs rest → WrittenRead n bs cs rest
written_read = each_read read_field WrittenRead written_none written_more

-- ---- the first pass over fields

-- what it returns for fields after others whose highest null is m
abbrev pub raised : ℕ → Answer → Answer
raised m (Ok h) = Ok (max m h)
raised m (Err why) = Err why

pub raised_none : (x : Answer) → raised 0 x ≡ x
raised_none (Ok h) = let e : max 0 h ≡ h = omega arith in rw e
raised_none (Err why) = refl

raised_more : (m n : ℕ) (x : Answer) → raised m (raised n x) ≡ raised (max m n) x
raised_more m n (Ok h) = let e : max m (max n h) ≡ max (max m n) h = omega arith in rw e
raised_more m n (Err why) = refl

-- At least one field is left, from index `at`: the pass refuses it, or goes on after it.
module _ (left at : ℕ) (bs : List ℕ) (some : 0 < left) where
  one : left ≡ suc (left - 1)
  one = omega arith

  pub fields-short : length bs - at < 3 → measured_fields (read_written left (drop at bs)) ≡ Err CutShort
  unfolding measured_fields read_each read_field
  fields-short h = rw (one, (takes_number 3).cut (drop at bs) (rw length-drop h))

  module _ (c : ℕ) (number : read_number 3 (drop at bs) ≡ read c (drop (at + 3) bs)) where
    pub fields_bad : is_cell c ≡ false → measured_fields (read_written left (drop at bs)) ≡ Err NotACell
    unfolding measured_fields read_each read_field
    fields_bad e = rw (one, number, e)

    pub fields_more : (m : ℕ) → is_cell c ≡ true
        → raised m (measured_fields (read_written left (drop at bs))) ≡ raised (max m (mark_of c)) (measured_fields (read_written (left - 1) (drop (at + 3) bs)))
    unfolding measured_fields read_each read_field highest_of
    fields_more m e =
        ap (λ (k : ℕ). raised m (measured_fields (read_written k (drop at bs)))) one ∙
        rw (number, e)
        (ap (raised m) (go (read_written (left - 1) (drop (at + 3) bs))) ∙ raised_more m (mark_of c) (measured_fields (read_written (left - 1) (drop (at + 3) bs))))
      where
        go : (p : Parsed (List ℕ)) → measured_fields (and_then p (λ cs bs. read (c ∷ cs) bs)) ≡ raised (mark_of c) (measured_fields p)
        go (read cs bs) = refl
        go (refused r) = refl

-- ---- written and blank columns

-- the written fields only
abbrev pub only_written : Parsed (List Field) → Parsed (List ℕ)
only_written (read fs bs) = read (written_of fs) bs
only_written (refused r) = refused r

pub fields-written : (a bits : ℕ) (bs : List ℕ) → bits < 2 ^ a → only_written (read_fields a bits bs) ≡ read_written (ones bits) bs
unfolding read_fields read_each written_of
fields-written zero bits bs h = let e : ones bits ≡ 0 = omega (arith, ones-le 0 bits h) in rw e
fields-written (suc a) bits bs h = go (λ bs. fields-written a (bits / 2) bs (omega arith)) (eqb (bits % 2) 1) refl
  where
    -- for the fields after a column
    Rest : Type 0
    Rest = (bs : List ℕ) → only_written (read_fields a (bits / 2) bs) ≡ read_written (ones (bits / 2)) bs

    joined : (c : ℕ) (p : Parsed (List Field))
        → only_written (and_then p (λ fs bs. read (written c ∷ fs) bs)) ≡ and_then (only_written p) (λ cs bs. read (c ∷ cs) bs)
    joined c (read fs bs) = refl
    joined c (refused r) = refl

    passed : (p : Parsed (List Field)) → only_written (and_then p (λ fs bs. read (blank ∷ fs) bs)) ≡ only_written p
    passed (read fs bs) = refl
    passed (refused r) = refl

    taken : Rest → (p : Parsed ℕ)
        → only_written
        (and_then (and_then p (λ c bs. read (written c) bs)) (λ f bs. and_then (read_fields a (bits / 2) bs) (λ fs bs. read (f ∷ fs) bs)))
        ≡ and_then p (λ c bs. and_then (read_written (ones (bits / 2)) bs) (λ cs bs. read (c ∷ cs) bs))
    taken rest (read c bs) = joined c (read_fields a (bits / 2) bs) ∙ rw (rest bs)
    taken rest (refused r) = refl

    go : Rest → (t : Bool) → eqb (bits % 2) 1 ≡ t
        → only_written (and_then (read_column t bs) (λ f bs. and_then (read_fields a (bits / 2) bs) (λ fs bs. read (f ∷ fs) bs))) ≡ read_written (ones bits) bs
    go rest true t =
        let more : ones bits ≡ suc (ones (bits / 2)) = omega (arith, ones_step bits, eqb-true (bits % 2) 1 t) in rw more (taken rest (read_field bs))
    go rest false t =
        let same : ones bits ≡ ones (bits / 2) = omega (arith, ones_step bits, eqb-false (bits % 2) 1 t) in
        rw same (passed (read_fields a (bits / 2) bs) ∙ rest bs)

-- every column is written or blank
pub written_or_blank : (fs : List Field) → length (written_of fs) + blanks_in fs ≡ length fs
unfolding written_of blanks_in
written_or_blank [] = refl
written_or_blank (written c ∷ fs) = omega (arith, written_or_blank fs)
written_or_blank (blank ∷ fs) = omega (arith, written_or_blank fs)
