-- The fields of the program's input. Document 01, "The program": "card length (2 bytes), card, count of question words (2), the words (4 each), k
-- (1), k cells (3 each), allowance (4)"; "Its own fields are checked first (10, 11, 18)".
use Rattle.std.specs.Prelude.{ℕ, ◌/◌, ◌<◌, ◌≡◌, true, List, length, leb, eqb}
use Rattle.calculus.specs.Demand.{demand}
use Rattle.calculus.specs.Reading.{read, refused, and_then}
use Rattle.calculus.specs.declared.refusal.Refusal.TheVariants.{InputTooLong, BytesLeftOver}
use Rattle.parse.specs.Parse.{Parsed, is_read}
use Rattle.parse.specs.Number.{read_number, read_numbers, numbers_of, read_bytes}
use Rattle.line.specs.declared.fields.Parts.{Parts}

pub record Fields : Type 0 where
  pub card : List ℕ
  pub words : List ℕ
  pub candidate : List ℕ
  pub budget : ℕ

unfoldable pub read_fields : List ℕ → Parsed Fields
read_fields bs =
    and_then (read_number 2 bs)
    (λ size bs. and_then (read_bytes size bs)
    (λ card bs. and_then (read_number 2 bs)
    (λ count bs. and_then (read_numbers 4 count bs)
    (λ words bs. and_then (read_number 1 bs)
    (λ k bs. and_then (read_numbers 3 k bs)
    (λ candidate bs. and_then (read_number 4 bs)
    (λ budget bs. read (record { card = card; words = words; candidate = candidate; budget = budget }) bs)))))))

-- "bytes follow .. the program's last field"
abbrev pub wholly : {A : Type 0} → Parsed A → Parsed A
wholly (read a bs) = demand (eqb (length bs) 0) (refused BytesLeftOver) (read a bs)
wholly (refused r) = refused r

-- "the program's input is over 16,384 bytes"
abbrev pub max_input : ℕ
max_input = 16384

unfoldable pub read_input : List ℕ → Parsed Fields
read_input bs = demand (leb (length bs) max_input) (refused InputTooLong) (wholly (read_fields bs))

-- the fields in the parts of the input
abbrev pub fields_in : Parts → Fields
fields_in p = record {
  card = p.card.now;
  words = numbers_of 4 (length p.words.now / 4) p.words.now;
  candidate = numbers_of 3 (length p.cells.now / 3) p.cells.now;
  budget = p.budget;
}

-- the parts of numbers have no byte more or less than their numbers; a candidate's number of cells is one byte
pub record WholeNumbers (p : Parts) : Type 0 where
  pub words : is_read (read_numbers 4 (length p.words.now / 4) p.words.now) ≡ true
  pub cells : is_read (read_numbers 3 (length p.cells.now / 3) p.cells.now) ≡ true
  pub few : length p.cells.now / 3 < 256
