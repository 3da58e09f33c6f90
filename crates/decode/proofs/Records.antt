-- Reading records: what a record that was read says of its bytes, and what the first pass returns for one record and for the records after it.
-- Assumes nothing.
use Prim.Native.Nat.{ℕ, suc, ◌+◌, ◌-◌, ◌*◌, ◌^◌, ◌≤◌, ◌<◌, max}
use mathlib.Core.Path.{◌≡◌, refl, sym, ap, ◌∙◌}
use mathlib.Core.List.{List, ◌∷◌}
use native.Mathlib.Omega.{arith}
use lib.ListN.{length, drop, get_or}
use lib.Seq.{drop-drop}
use lib.Dec.{ltb}
use lib.Count.{ones}
use borrow.Author.Tests.{ltb-true, lt-ltb, le-ltb}
use Rattle.calculus.specs.Answer.{Answer}
use Rattle.std.specs.Prelude.{Result, Ok, Err}
use Rattle.calculus.specs.Cell.{nulls}
use Rattle.calculus.specs.Reading.{read, refused, and_then}
use Rattle.calculus.specs.declared.refusal.Refusal.{Refusal}
use Rattle.calculus.specs.declared.refusal.Refusal.TheVariants.{CutShort, NoSuchRelation, BitBeyondArity}
use Rattle.calculus.proofs.Bools.{zero_not_one}
use Rattle.instance.specs.Header.{arity_of}
use Rattle.instance.specs.Blanks.{Field, Record, blanks_in, highest_in, blanks, highest, written_of}
use Rattle.parse.specs.Parse.{Parsed, read_each}
use Rattle.parse.proofs.Bytes.{byte_at, byte_cut}
use Rattle.card.specs.Format.{read_fields, read_record, read_records}
use Rattle.card.proofs.Parts.{fields-well_formed, record-read as parts}
use Rattle.decode.specs.declared.measure.Measured.{Measured}
use Rattle.decode.specs.declared.measure.Total.{Total}
use Rattle.decode.specs.Measure.{read_written, measured_fields, measured_record, measured_records, words_in}
use Rattle.decode.proofs.Fields.{WrittenRead, written_read, only_written, fields-written, written_or_blank}

-- the fields of a map that has no bit beyond the columns
record FieldsRead (columns bits : ℕ) (bs : List ℕ) (fs : List Field) (rest : List ℕ) : Type 0 where
  columns_are : length fs ≡ columns
  were : WrittenRead (ones bits) bs (written_of fs) rest

fields_read : (a bits : ℕ) (bs : List ℕ) {fs : List Field} {rest : List ℕ} → bits < 2 ^ a → read_fields a bits bs ≡ read fs rest
    → FieldsRead a bits bs fs rest
fields_read a bits bs h e = record {
  columns_are = (fields-well_formed a bits bs e).0;
  were = written_read (ones bits) bs (sym (fields-written a bits bs h) ∙ ap only_written e);
}

-- a record that was read, by its first two bytes
pub record RecordRead (n : ℕ) (ars bs : List ℕ) (r : Record) (rest : List ℕ) : Type 0 where
  pub known : get_or bs 0 0 < n
  pub relation-is : r.relation ≡ get_or bs 0 0
  pub fields_are : read_fields (arity_of ars (get_or bs 0 0)) (get_or bs 1 0) (drop 2 bs) ≡ read r.fields rest
  pub columns : length r.fields ≡ arity_of ars (get_or bs 0 0)
  pub count : length (written_of r.fields) ≡ ones (get_or bs 1 0)
  pub low : highest_in r.fields ≤ nulls
  pub long : 2 + 3 * ones (get_or bs 1 0) ≤ length bs
  pub after : rest ≡ drop (2 + 3 * ones (get_or bs 1 0)) bs

pub record-read : (n : ℕ) (ars bs : List ℕ) {r : Record} {rest : List ℕ} → read_record n ars bs ≡ read r rest → RecordRead n ars bs r rest
record-read n ars bs {r} {rest} e =
    let p = parts n ars bs e in
    let x = r.relation in
    let f = fields_read (arity_of ars x) p.map p.body (ltb-true p.map _ p.within) p.fields_are in
    let made : RecordRead n ars (x ∷ p.map ∷ p.body) r rest = record {
      known = ltb-true x n p.known;
      relation-is = refl;
      fields_are = p.fields_are;
      columns = f.columns_are;
      count = f.were.count;
      low = f.were.low;
      long = omega (arith, f.were.long);
      after = f.were.after ∙ drop-drop (3 * ones p.map) 2 (x ∷ p.map ∷ p.body);
    } in
    let whole : x ∷ p.map ∷ p.body ≡ bs = sym p.bytes in
    rw whole at made

-- what the first pass returns for a record, from what it returns for the fields
abbrev pub measured_as : ℕ → ℕ → Answer → Result Measured Refusal
measured_as arity count (Ok h) = Ok (record { arity = arity; written = count; highest = h })
measured_as arity count (Err why) = Err why

-- What the first pass returns for one record, test by test.
module _ (n : ℕ) (ars bs : List ℕ) where
  pub record-none : length bs < 1 → measured_record (read_record n ars bs) ≡ Err CutShort
  unfolding read_record measured_record
  record-none h = rw (byte_cut (λ r. ltb r n) NoSuchRelation bs 0 (omega arith))

  module _ (x : ℕ) (some : 0 < length bs) (is : x ≡ get_or bs 0 0) where
    pub record-unknown : n ≤ x → measured_record (read_record n ars bs) ≡ Err NoSuchRelation
    unfolding read_record measured_record
    record-unknown h = rw (byte_at (λ r. ltb r n) NoSuchRelation bs 0 some, ← is, le-ltb x n h)

    pub record_cut : x < n → length bs < 2 → measured_record (read_record n ars bs) ≡ Err CutShort
    unfolding read_record measured_record
    record_cut h l =
        rw (byte_at (λ r. ltb r n) NoSuchRelation bs 0 some, ← is, lt-ltb x n h, byte_cut (λ bits. ltb bits (2 ^ arity_of ars x)) BitBeyondArity bs 1 (omega arith))

    module _ (bits : ℕ) (known : x < n) (room : 1 < length bs) (map_is : bits ≡ get_or bs 1 0) where
      pub record_beyond : 2 ^ arity_of ars x ≤ bits → measured_record (read_record n ars bs) ≡ Err BitBeyondArity
      unfolding read_record measured_record
      record_beyond h =
          rw (byte_at (λ r. ltb r n) NoSuchRelation bs 0 some, ← is, lt-ltb x n known, byte_at (λ bits. ltb bits (2 ^ arity_of ars x)) BitBeyondArity bs 1 room, ← map_is, le-ltb bits (2 ^ arity_of ars x) h)

      pub record_measured : bits < 2 ^ arity_of ars x
          → measured_record (read_record n ars bs) ≡ measured_as (arity_of ars x) (ones bits) (measured_fields (read_written (ones bits) (drop 2 bs)))
      unfolding read_record measured_record measured_fields
      record_measured h =
          rw (byte_at (λ r. ltb r n) NoSuchRelation bs 0 some, ← is, lt-ltb x n known, byte_at (λ bits. ltb bits (2 ^ arity_of ars x)) BitBeyondArity bs 1 room, ← map_is, lt-ltb bits (2 ^ arity_of ars x) h)
          (go (read_fields (arity_of ars x) bits (drop 2 bs)) refl)
        where
          go : (p : Parsed (List Field)) → read_fields (arity_of ars x) bits (drop 2 bs) ≡ p
              → measured_record (and_then p (λ fs bs. read (record { relation = x; fields = fs }) bs))
              ≡ measured_as (arity_of ars x) (ones bits) (measured_fields (read_written (ones bits) (drop 2 bs)))
          go (read fs rest) e =
              let f = fields_read (arity_of ars x) bits (drop 2 bs) h e in
              cc (fields-written (arity_of ars x) bits (drop 2 bs) h, ap only_written e, f.columns_are, f.were.count)
          go (refused r) e = cc (fields-written (arity_of ars x) bits (drop 2 bs) h, ap only_written e)

-- the first pass's answer for the remaining records, with the words, blanks and highest null of earlier records added
abbrev pub added : ℕ → ℕ → ℕ → Result Total Refusal → Result Total Refusal
added w b h (Ok t) = Ok (record { words = w + t.words; blanks = b + t.blanks; highest = max h t.highest; end = t.end })
added w b h (Err why) = Err why

pub added_none : (x : Result Total Refusal) → added 0 0 0 x ≡ x
added_none (Ok t) =
    let a : 0 + t.words ≡ t.words = omega arith in
    let b : 0 + t.blanks ≡ t.blanks = omega arith in
    let c : max 0 t.highest ≡ t.highest = omega arith in
    rw (a, b, c)
added_none (Err why) = refl

pub added_more : (w b h w' b' h' : ℕ) (x : Result Total Refusal) → added w b h (added w' b' h' x) ≡ added (w + w') (b + b') (max h h') x
added_more w b h w' b' h' (Ok t) =
    let e : w + (w' + t.words) ≡ w + w' + t.words = omega arith in
    let f : b + (b' + t.blanks) ≡ b + b' + t.blanks = omega arith in
    let g : max h (max h' t.highest) ≡ max (max h h') t.highest = omega arith in
    rw (e, f, g)
added_more w b h w' b' h' (Err why) = refl

-- a record that the first pass measured
pub record Step (n : ℕ) (ars bs : List ℕ) (arity count h : ℕ) : Type 0 where
  pub one : Record
  pub rest : List ℕ
  pub was_read : read_record n ars bs ≡ read one rest
  pub arity_is : length one.fields ≡ arity
  pub blanks_are : blanks_in one.fields ≡ arity - count
  pub fewer : count ≤ arity
  pub highest-is : highest_in one.fields ≡ h
  pub long : 2 + 3 * count ≤ length bs
  pub after : rest ≡ drop (2 + 3 * count) bs

same_measured : {m n : Measured} → ◌≡◌ {A = Result Measured Refusal} (Ok m) (Ok n) → m ≡ n
same_measured e = cc

pub step : (n : ℕ) (ars bs : List ℕ) (arity count h : ℕ) → measured_record (read_record n ars bs) ≡ Ok (record { arity = arity; written = count; highest = h }) → Step n ars bs arity count h
unfolding measured_record
step n ars bs arity count h = go (read_record n ars bs) refl
  where
    go : (p : Parsed Record) → read_record n ars bs ≡ p → measured_record p ≡ Ok (record { arity = arity; written = count; highest = h }) → Step n ars bs arity count h
    go (read r rest) e m =
        let q = record-read n ars bs e in
        let measured : ◌≡◌ {A = Measured} (record { arity = length r.fields; written = length (written_of r.fields); highest = highest_in r.fields }) (record { arity = arity; written = count; highest = h }) =
        same_measured m in
        let arity_is : length r.fields ≡ arity = ap (λ (m : Measured). m.arity) measured in
        let count-is : length (written_of r.fields) ≡ count = ap (λ (m : Measured). m.written) measured in
        let same : ones (get_or bs 1 0) ≡ count = sym q.count ∙ count-is in
        let parts = written_or_blank r.fields in
        record {
          one = r;
          rest = rest;
          was_read = e;
          arity_is = arity_is;
          blanks_are = omega arith;
          fewer = omega arith;
          highest-is = ap (λ (m : Measured). m.highest) measured;
          long = rw same at q.long;
          after = rw same at q.after;
        }
    go (refused r) e m = let z : ◌≡◌ {A = ℕ} 0 1 = cc in absurd (zero_not_one z)

-- the first pass over a record and the records after it
records-joined : (size : ℕ) (r : Record) (p : Parsed (List Record))
    → measured_records size (and_then p (λ rs bs. read (r ∷ rs) bs))
    ≡ added (1 + length r.fields) (blanks_in r.fields) (highest_in r.fields) (measured_records size p)
unfolding measured_records words_in blanks highest
records-joined size r (read rs bs) = refl
records-joined size r (refused why) = refl

pub records_more : (size n : ℕ) (ars : List ℕ) (k : ℕ) (bs : List ℕ) (arity count h : ℕ)
    → measured_record (read_record n ars bs) ≡ Ok (record { arity = arity; written = count; highest = h })
    → measured_records size (read_records n ars (suc k) bs)
    ≡ added (1 + arity) (arity - count) h (measured_records size (read_records n ars k (drop (2 + 3 * count) bs)))
unfolding read_each
records_more size n ars k bs arity count h m =
    let s = step n ars bs arity count h m in
    rw s.was_read
    (records-joined size s.one (read_records n ars k s.rest) ∙ rw (s.arity_is, s.blanks_are, s.highest-is, s.after))

pub records-refused : (size n : ℕ) (ars : List ℕ) (k : ℕ) (bs : List ℕ) (why : Refusal)
    → measured_record (read_record n ars bs) ≡ Err why → measured_records size (read_records n ars (suc k) bs) ≡ Err why
unfolding measured_records read_each measured_record
records-refused size n ars k bs why = go (read_record n ars bs)
  where
    go : (p : Parsed Record) → measured_record p ≡ Err why
        → measured_records size (and_then p (λ r bs. and_then (read_records n ars k bs) (λ rs bs. read (r ∷ rs) bs))) ≡ Err why
    go (read r rest) m = cc
    go (refused r) m = cc
