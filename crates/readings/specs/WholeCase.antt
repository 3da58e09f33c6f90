-- Document 01, "The program": the whole case, and reading 6, "The plotask case". The bytes that the program reads are the reading's instance, question,
-- candidate and budget.
use Rattle.std.specs.Prelude.{ℕ, ◌≡◌, List, [], ◌∷◌, length, take, Ok}
use Rattle.calculus.specs.Reading.{read}
use Rattle.card.specs.Decode.{decoded}
use Rattle.line.specs.Fields.{read_input}
use Rattle.line.specs.Line.{blank}
use Rattle.readings.specs.Table.{Case, case6}

-- "card in hexadecimal, 12 bytes: 02 01 01 00 02 00 01 00 00 C9 01 00"
abbrev pub card6 : List ℕ
card6 = 2 ∷ 1 ∷ 1 ∷ 0 ∷ 2 ∷ 0 ∷ 1 ∷ 0 ∷ 0 ∷ 201 ∷ 1 ∷ 0 ∷ []

abbrev pub plotask : Case
plotask = case6 []

pub record ReadsAs6 (input : List ℕ) : Type 0 where
  pub fields : read_input input ≡ read (record { card = card6; words = plotask.query; candidate = plotask.candidate; budget = plotask.budget }) []
  pub accepted : (decoded card6 blank).answer ≡ Ok (length plotask.words)
  pub header : (decoded card6 blank).header ≡ plotask.header
  pub words : take (length plotask.words) (decoded card6 blank).words ≡ plotask.words
