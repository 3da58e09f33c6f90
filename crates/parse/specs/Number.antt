-- Numbers in bytes. Document 01, "The card" and "The program": "high byte first".
use Rattle.std.specs.Prelude.{ℕ, zero, suc, ◌+◌, ◌*◌, List, [], ◌∷◌}
use Rattle.calculus.specs.Reading.{read, refused}
use Rattle.calculus.specs.declared.refusal.Refusal.TheVariants.{CutShort}
use Rattle.parse.specs.Parse.{Parsed, read_each, got}

-- n more bytes of a number whose higher bytes are read already
unfoldable pub read_digits : ℕ → ℕ → List ℕ → Parsed ℕ
read_digits high zero bs = read high bs
read_digits high (suc n) [] = refused CutShort
read_digits high (suc n) (b ∷ bs) = read_digits (high * 256 + b) n bs

-- a number of n bytes
abbrev pub read_number : ℕ → List ℕ → Parsed ℕ
read_number n bs = read_digits 0 n bs

-- `count` numbers of n bytes each
abbrev pub read_numbers : ℕ → ℕ → List ℕ → Parsed (List ℕ)
read_numbers n count bs = read_each (read_number n) count bs

-- the numbers that were read; none if the bytes are too few
abbrev pub numbers_of : ℕ → ℕ → List ℕ → List ℕ
numbers_of n count bs = got [] (read_numbers n count bs)

-- the next n bytes
abbrev pub read_bytes : ℕ → List ℕ → Parsed (List ℕ)
read_bytes n bs = read_numbers 1 n bs
