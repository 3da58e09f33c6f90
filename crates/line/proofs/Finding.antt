-- The fields of an input, read one after the other: the fields so far determine what the whole input is read as. Assumes nothing.
use Prim.Native.Nat.{ℕ, zero, suc, ◌*◌, ◌≤◌, ◌<◌}
use mathlib.Core.Path.{◌≡◌, sym, ap, ◌∙◌}
use mathlib.Core.Bool.{true}
use mathlib.Core.List.{List, [], ◌∷◌, ◌++◌}
use native.Mathlib.Omega.{arith}
use borrow.Author.Tests.{le-leb, lt-leb, ne_eqb}
use lib.ListN.{length, take, drop, take-append-drop, drop_of_length-le}
use lib.Seq.{length-take-le}
use Rattle.calculus.specs.declared.refusal.Refusal.{Refusal}
use Rattle.calculus.specs.declared.refusal.Refusal.TheVariants.{CutShort, InputTooLong, BytesLeftOver}
use Rattle.calculus.specs.Reading.{read, refused, and_then}
use Rattle.calculus.proofs.Reading.{then_read}
use Rattle.parse.specs.Parse.{Parsed, read_each, is_read}
use Rattle.parse.specs.Number.{read_digits, read_number, read_numbers, numbers_of, read_bytes}
use Rattle.parse.proofs.Numbers.{Takes, took, takes_number, bytes_whole, numbers-whole}
use Rattle.line.specs.Fields.{Fields, read_fields, wholly, max_input, read_input}

abbrev fields : List ℕ → List ℕ → List ℕ → ℕ → Fields
fields card words candidate budget = record { card = card; words = words; candidate = candidate; budget = budget }

-- what is left to read, from the last field back to the first
abbrev pub from_budget : List ℕ → List ℕ → List ℕ → List ℕ → Parsed Fields
from_budget card words candidate bs = and_then (read_number 4 bs) (λ budget bs. read (fields card words candidate budget) bs)

abbrev pub from_cells : List ℕ → List ℕ → ℕ → List ℕ → Parsed Fields
from_cells card words k bs = and_then (read_numbers 3 k bs) (λ candidate bs. from_budget card words candidate bs)

abbrev pub from_arity : List ℕ → List ℕ → List ℕ → Parsed Fields
from_arity card words bs = and_then (read_number 1 bs) (λ k bs. from_cells card words k bs)

abbrev pub from_words : List ℕ → ℕ → List ℕ → Parsed Fields
from_words card count bs = and_then (read_numbers 4 count bs) (λ words bs. from_arity card words bs)

abbrev pub from_count : List ℕ → List ℕ → Parsed Fields
from_count card bs = and_then (read_number 2 bs) (λ count bs. from_words card count bs)

abbrev pub from_card : ℕ → List ℕ → Parsed Fields
from_card size bs = and_then (read_bytes size bs) (λ card bs. from_count card bs)

abbrev pub from_size : List ℕ → Parsed Fields
from_size bs = and_then (read_number 2 bs) (λ size bs. from_card size bs)

module _ (input : List ℕ) where
  pub too_long : max_input < length input → read_input input ≡ refused InputTooLong
  unfolding read_input
  too_long l = rw (lt-leb (length input) max_input l)

  pub begins : length input ≤ max_input → read_input input ≡ wholly (from_size input)
  unfolding read_input read_fields
  begins l = rw (le-leb (length input) max_input l)

-- ---- parts of the bytes

pub bytes_read : (size : ℕ) (bs : List ℕ) {part rest : List ℕ} → (size ≤ length bs) × (part ≡ take size bs) × (rest ≡ drop size bs) → read_bytes size bs ≡ read part rest
bytes_read size bs p = rw (p.1, p.2) (bytes_whole size bs p.0)

-- what is read from bytes is read from longer ones
digits-longer : (width high : ℕ) (xs ys : List ℕ) {x : ℕ} {rest : List ℕ} → read_digits high width xs ≡ read x rest → read_digits high width (xs ++ ys) ≡ read x (rest ++ ys)
unfolding read_digits
digits-longer zero high xs ys e = cc
digits-longer (suc width) high [] ys e = cc
digits-longer (suc width) high (b ∷ xs) ys e = digits-longer width _ xs ys e

numbers-longer : (width n : ℕ) (xs ys : List ℕ) {ns rest : List ℕ} → read_numbers width n xs ≡ read ns rest → read_numbers width n (xs ++ ys) ≡ read ns (rest ++ ys)
unfolding read_each
numbers-longer width zero xs ys e = cc
numbers-longer width (suc n) xs ys e =
    let a = then_read (read_number width xs) _ e in
    let b = then_read (read_numbers width n a.state) _ a.second in
    rw (digits-longer width 0 xs ys a.first, numbers-longer width n a.state ys b.first) (cc b.second)

-- a part that holds n numbers
pub record PartRead (width n : ℕ) (bs part rest : List ℕ) : Type 0 where
  pub long : length part ≡ width * n
  pub whole : is_read (read_numbers width n part) ≡ true
  pub was_read : read_numbers width n bs ≡ read (numbers_of width n part) rest

pub numbers_read : (width n : ℕ) (bs : List ℕ) {part rest : List ℕ} → (width * n ≤ length bs) × (part ≡ take (width * n) bs) × (rest ≡ drop (width * n) bs)
    → PartRead width n bs part rest
numbers_read width n bs {part} {rest} p =
    let long : length part ≡ width * n = ap length p.1 ∙ length-take-le (width * n) bs p.0 in
    let none : drop (width * n) part ≡ [] = drop_of_length-le part (omega arith) in
    let joined : part ++ rest ≡ bs = rw (p.1, p.2) (take-append-drop (width * n) bs) in
    let all = rw none at (numbers-whole width n part (omega arith)) in
    record {
      long = long;
      whole = rw all;
      was_read = rw (← joined) (numbers-longer width n part rest all);
    }

-- ---- one field after the other

module _ (input : List ℕ) where
  pub stops : {A : Type 0} {p : Parsed A} (next : A → List ℕ → Parsed Fields) {why : Refusal} → read_input input ≡ wholly (and_then p next) → p ≡ refused why
      → read_input input ≡ refused why
  stops next e is = e ∙ rw is

  pub cut : {A : Type 0} {n : ℕ} {p : List ℕ → Parsed A} (next : A → List ℕ → Parsed Fields) → Takes n p → (bs : List ℕ) {why : Refusal}
      → read_input input ≡ wholly (and_then (p bs) next) → (length bs < n) × (why ≡ CutShort) → read_input input ≡ refused why
  cut next t bs e short = rw short.1 (stops next e (t.cut bs short.0))

  pub after_size : {size : ℕ} {rest : List ℕ} → length input ≤ max_input → read_number 2 input ≡ read size rest → read_input input ≡ wholly (from_card size rest)
  after_size l is = begins input l ∙ rw is

  pub after_card : (size : ℕ) (bs : List ℕ) {card rest : List ℕ} → read_input input ≡ wholly (from_card size bs)
      → (size ≤ length bs) × (card ≡ take size bs) × (rest ≡ drop size bs) → read_input input ≡ wholly (from_count card rest)
  after_card size bs e p = e ∙ rw (bytes_read size bs p)

  -- the card is the bytes from byte 2 on
  pub card_place : {size : ℕ} {card rest after : List ℕ} → read_number 2 input ≡ read size rest → (size ≤ length rest) × (card ≡ take size rest) × (after ≡ drop size rest)
      → take (length card) (drop 2 input) ≡ card
  card_place {size} {card} {rest} is p =
      let t = took (takes_number 2) input is in
      let long : length card ≡ size = ap length p.1 ∙ length-take-le size rest p.0 in
      rw (long, ← t.1) (sym p.1)

  pub after_count : (card bs : List ℕ) {count : ℕ} {rest : List ℕ} → read_input input ≡ wholly (from_count card bs) → read_number 2 bs ≡ read count rest
      → read_input input ≡ wholly (from_words card count rest)
  after_count card bs e is = e ∙ rw is

  pub after_words : (card : List ℕ) (count : ℕ) (bs : List ℕ) {words rest : List ℕ} → read_input input ≡ wholly (from_words card count bs) → PartRead 4 count bs words rest
      → read_input input ≡ wholly (from_arity card (numbers_of 4 count words) rest)
  after_words card count bs e p = e ∙ rw p.was_read

  pub after_arity : (card words bs : List ℕ) {k : ℕ} {rest : List ℕ} → read_input input ≡ wholly (from_arity card words bs) → read_number 1 bs ≡ read k rest
      → read_input input ≡ wholly (from_cells card words k rest)
  after_arity card words bs e is = e ∙ rw is

  pub after_cells : (card words : List ℕ) (k : ℕ) (bs : List ℕ) {cells rest : List ℕ} → read_input input ≡ wholly (from_cells card words k bs) → PartRead 3 k bs cells rest
      → read_input input ≡ wholly (from_budget card words (numbers_of 3 k cells) rest)
  after_cells card words k bs e p = e ∙ rw p.was_read

  pub after_budget : (card words candidate bs : List ℕ) {budget : ℕ} {rest : List ℕ} → read_input input ≡ wholly (from_budget card words candidate bs) → read_number 4 bs ≡ read budget rest
      → read_input input ≡ wholly (read (fields card words candidate budget) rest)
  after_budget card words candidate bs e is = e ∙ rw is

  pub left_over : (f : Fields) (bs : List ℕ) → read_input input ≡ wholly (read f bs) → 0 < length bs → read_input input ≡ refused BytesLeftOver
  left_over f bs e some = e ∙ rw (ne_eqb (length bs) 0 (λ none. omega arith))

  pub ends : (f : Fields) (bs : List ℕ) → read_input input ≡ wholly (read f bs) → length bs ≡ 0 → read_input input ≡ read f []
  ends f [] e none = e
  ends f (b ∷ bs) e none = absurd (omega arith)

  -- the same for the card's bytes by other words
  pub card_as : (card part : List ℕ) {words candidate : List ℕ} {budget : ℕ} → part ≡ card → read_input input ≡ read (fields card words candidate budget) []
      → read_input input ≡ read (fields part words candidate budget) []
  card_as card part is e = rw is e
