-- Reading numbers and bytes: they are read if there are enough bytes, and otherwise refused. Assumes nothing.
use Prim.Native.Nat.{ℕ, zero, suc, ◌+◌, ◌*◌, ◌≤◌, ◌<◌}
use mathlib.Core.Path.{◌≡◌, refl, ap, ◌∙◌}
use mathlib.Core.Bool.{Bool, true, false}
use mathlib.Core.List.{List, [], ◌∷◌, ◌++◌}
use native.Mathlib.Nat.{add-zero, mul-zero, zero-add, zero-mul}
use native.Mathlib.Omega.{arith}
use borrow.Author.Tests.{leb-true, leb-false}
use lib.ListN.{length, take, drop, get_or, length-drop}
use lib.Dec.{leb}
use lib.Seq.{drop-drop, take_at}
use Rattle.calculus.specs.Reading.{read, refused, and_then}
use Rattle.calculus.specs.declared.refusal.Refusal.TheVariants.{CutShort}
use Rattle.calculus.proofs.Lists.{drop_step}
use Rattle.calculus.proofs.Reading.{refused-read}
use Rattle.parse.specs.Parse.{Parsed, read_each, is_read, got}
use Rattle.parse.specs.Number.{read_digits, read_number, read_numbers, read_bytes, numbers_of}
use Rattle.parse.proofs.Each.{each_first, each_length}

-- one more byte of a number
pub digit_more : (high left : ℕ) {width : ℕ} (bytes : List ℕ) (at : ℕ) → width ≡ suc left → at < length bytes
    → read_digits high width (drop at bytes) ≡ read_digits (high * 256 + get_or bytes at 0) left (drop (at + 1) bytes)
unfolding read_digits
digit_more high left bytes at one l = rw (one, drop_step bytes at l)

-- fewer than n bytes are refused
abbrev pub Cuts : {A : Type 0} → ℕ → (List ℕ → Parsed A) → Type 0
Cuts n p = (bs : List ℕ) → length bs < n → p bs ≡ refused CutShort

-- n bytes are read, whatever they are; fewer are refused
pub record Takes {A : Type 0} (n : ℕ) (p : List ℕ → Parsed A) : Type 0 where
  pub whole : (bs : List ℕ) → n ≤ length bs → (a : A) × (p bs ≡ read a (drop n bs))
  pub cut : Cuts n p

-- if something was read, there were enough bytes for it
pub took : {A : Type 0} {n : ℕ} {p : List ℕ → Parsed A} → Takes n p → (bs : List ℕ) {a : A} {drop_step : List ℕ} → p bs ≡ read a drop_step
    → (n ≤ length bs) × (drop_step ≡ drop n bs)
took {n = n} {p = p} t bs {a} {drop_step} e = go (leb n (length bs)) refl
  where
    go : (b : Bool) → leb n (length bs) ≡ b → (n ≤ length bs) × (drop_step ≡ drop n bs)
    go true l = let enough = leb-true n (length bs) l in (enough, cc ((t.whole bs enough).1, e))
    go false l = let short : refused CutShort ≡ read a drop_step = cc (t.cut bs (leb-false n (length bs) l), e) in refused-read short

module _ {A B : Type 0} {m n : ℕ} {p : List ℕ → Parsed A} {f : A → List ℕ → Parsed B} (t : Takes m p) where
  pub cuts_then : ((a : A) → Cuts n (f a)) → Cuts (m + n) (λ bs. and_then (p bs) f)
  cuts_then u bs l = go (leb m (length bs)) refl
    where
      go : (b : Bool) → leb m (length bs) ≡ b → and_then (p bs) f ≡ refused CutShort
      go true e =
          let w = t.whole bs (leb-true m (length bs) e) in
          rw w.1 (u w.0 (drop m bs) (rw length-drop (omega (arith, leb-true m (length bs) e))))
      go false e = rw (t.cut bs (leb-false m (length bs) e))

  takes_then : ((a : A) → Takes n (f a)) → Takes (m + n) (λ bs. and_then (p bs) f)
  takes_then u = record { whole = goes; cut = cuts_then (λ a. (u a).cut) }
    where
      goes : (bs : List ℕ) → m + n ≤ length bs → (b : B) × (and_then (p bs) f ≡ read b (drop (m + n) bs))
      goes bs l =
          let w = t.whole bs (omega arith) in
          let v = (u w.0).whole (drop m bs) (rw length-drop (omega arith)) in
          (v.0, rw w.1 (v.1 ∙ ap (read v.0) (drop-drop n m bs)))

takes_map : {A B : Type 0} {n : ℕ} {p : List ℕ → Parsed A} (g : A → B) → Takes n p → Takes n (λ bs. and_then (p bs) (λ a bs. read (g a) bs))
takes_map {n = n} g t = rw add-zero at (takes_then {n = 0} t (λ a. record { whole = λ bs l. (g a, refl); cut = λ bs l. absurd (omega arith) }))

takes_each : {A : Type 0} {m : ℕ} {item : List ℕ → Parsed A} → Takes m item → (count : ℕ) → Takes (m * count) (read_each item count)
unfolding read_each
takes_each {m = m} t zero = rw (mul-zero m) record { whole = λ bs l. ([], refl); cut = λ bs l. absurd (omega arith) }
takes_each {m = m} t (suc count) =
    let same : m + m * count ≡ m * suc count = omega arith in
    rw same at (takes_then t (λ x. takes_map (λ xs. x ∷ xs) (takes_each t count)))

digits-whole : (width high : ℕ) (bs : List ℕ) → width ≤ length bs → (x : ℕ) × (read_digits high width bs ≡ read x (drop width bs))
unfolding read_digits
digits-whole zero high bs l = (high, refl)
digits-whole (suc width) high [] l = absurd (omega arith)
digits-whole (suc width) high (b ∷ bs) l = digits-whole width (high * 256 + b) bs (omega arith)

digits_cut : (width high : ℕ) → Cuts width (read_digits high width)
unfolding read_digits
digits_cut zero high bs l = absurd (omega arith)
digits_cut (suc width) high [] l = refl
digits_cut (suc width) high (b ∷ bs) l = digits_cut width (high * 256 + b) bs (omega arith)

pub takes_number : (width : ℕ) → Takes width (read_number width)
takes_number width = record { whole = digits-whole width 0; cut = digits_cut width 0 }

pub takes_numbers : (width count : ℕ) → Takes (width * count) (read_numbers width count)
takes_numbers width = takes_each (takes_number width)

-- the value that was read is the one that `got` gives
got_read : {A : Type 0} (none : A) {a : A} {p : Parsed A} {bs : List ℕ} → p ≡ read a bs → p ≡ read (got none p) bs
got_read none e = rw e

pub numbers-whole : (width count : ℕ) (bs : List ℕ) → width * count ≤ length bs
    → read_numbers width count bs ≡ read (numbers_of width count bs) (drop (width * count) bs)
numbers-whole width count bs l = got_read [] ((takes_numbers width count).whole bs l).1

pub takes_bytes : (count : ℕ) → Takes count (read_bytes count)
takes_bytes count = let same : 1 * count ≡ count = omega arith in rw same at (takes_numbers 1 count)

pub bytes_whole : (count : ℕ) (bs : List ℕ) → count ≤ length bs → read_bytes count bs ≡ read (take count bs) (drop count bs)
unfolding read_each read_digits
bytes_whole zero bs l = refl
bytes_whole (suc count) [] l = absurd (omega arith)
bytes_whole (suc count) (b ∷ bs) l = rw (zero-mul, zero-add, bytes_whole count bs (omega arith))

module _ (width : ℕ) where
  -- if numbers are read, there are bytes for the first
  pub numbers-room : (count : ℕ) (bs : List ℕ) → is_read (read_numbers width (suc count) bs) ≡ true → width ≤ length bs
  numbers-room count bs e = (took (takes_number width) bs (each_first (read_number width) count bs e).was_read).0

  -- the first number, and the numbers after it
  pub numbers_more : (count x : ℕ) (bs drop_step : List ℕ) → read_number width bs ≡ read x drop_step → is_read (read_numbers width (suc count) bs) ≡ true
      → (is_read (read_numbers width count drop_step) ≡ true) × (numbers_of width (suc count) bs ≡ x ∷ numbers_of width count drop_step)
  numbers_more count x bs drop_step first e =
      let f = each_first (read_number width) count bs e in
      let same : f.one ≡ x = cc f.was_read in
      let after : f.between ≡ drop_step = cc f.was_read in
      (rw after at f.reads, rw (same, after) at f.all)

  -- the numbers are at the front of a list
  pub numbers_front : (count : ℕ) (bs drop_step list : List ℕ) → is_read (read_numbers width count bs) ≡ true → list ≡ numbers_of width count bs ++ drop_step
      → take count list ≡ numbers_of width count bs
  numbers_front count bs drop_step list e stands = rw stands (take_at (numbers_of width count bs) drop_step count (each_length (read_number width) count bs e))
