-- What the first pass over a card's bytes returns. Document 01, "The card".
use Rattle.std.specs.Prelude.{ℕ, ◌+◌, ◌-◌, ◌≡◌, List, [], ◌∷◌, ◌++◌, length, drop, Result, Ok, Err}
use Rattle.calculus.specs.Answer.{Answer}
use Rattle.calculus.specs.Padded.{padded}
use Rattle.calculus.specs.Reading.{read, refused, reading_number}
use Rattle.calculus.specs.Refusal.{refusal_number}
use Rattle.calculus.specs.declared.refusal.Refusal.{Refusal}
use Rattle.instance.specs.Blanks.{Record, blanks, highest, highest_of, highest_in, written_of}
use Rattle.instance.specs.Header.{max_relations}
use Rattle.decode.specs.declared.head.Head as declared-head
use Rattle.decode.specs.declared.measure.Measured.{Measured}
use Rattle.decode.specs.declared.measure.Total.{Total}
use Rattle.parse.specs.Parse.{Parsed, read_each}
use Rattle.card.specs.Format.{Head, read_field, read_records}

-- an arity for each of the 8 relations; `before` has the arities that were read already
unfoldable pub opened_arities : List ℕ → Parsed (List ℕ) → Result (List ℕ) Refusal
opened_arities before (read ars bs) = Ok (padded max_relations (before ++ ars))
opened_arities before (refused r) = Err r

-- the number of relations, their arities and the number of rows
unfoldable pub opened_head : Parsed Head → Result declared-head.Head Refusal
opened_head (read h bs) = Ok (record { relations = h.relations; arities = h.arities; rows = h.count })
opened_head (refused r) = Err r

-- n fields, all of them written
abbrev pub read_written : ℕ → List ℕ → Parsed (List ℕ)
read_written n bs = read_each read_field n bs

unfoldable pub measured_fields : Parsed (List ℕ) → Answer
measured_fields (read cs bs) = Ok (highest_of cs)
measured_fields (refused r) = Err r

unfoldable pub measured_record : Parsed Record → Result Measured Refusal
measured_record (read r bs) = Ok (record {
  arity = length r.fields;
  written = length (written_of r.fields);
  highest = highest_in r.fields;
})
measured_record (refused why) = Err why

-- the answer for a record, as the paper's number and values: its arity, how many columns are written, and the highest null
abbrev pub measured_number : Result Measured Refusal → ℕ
measured_number (Ok m) = 0
measured_number (Err why) = refusal_number why

abbrev pub measured_values : Result Measured Refusal → List ℕ
measured_values (Ok m) = m.arity ∷ m.written ∷ m.highest ∷ []
measured_values (Err why) = []

pub record TellsRecord (m : Result Measured Refusal) (p : Parsed Record) : Type 0 where
  pub number : measured_number m ≡ reading_number p
  pub values : (r : Record) (bs : List ℕ) → p ≡ read r bs
      → measured_values m ≡ length r.fields ∷ length (written_of r.fields) ∷ highest_in r.fields ∷ []

-- how many words records need
unfoldable pub words_in : List Record → ℕ
words_in [] = 0
words_in (r ∷ rs) = 1 + length r.fields + words_in rs

-- what the records of a card of `size` bytes need, and where the last one ends; bs are the bytes after it
abbrev pub total : ℕ → List Record → List ℕ → Total
total size rs bs = record { words = words_in rs; blanks = blanks rs; highest = highest rs; end = size - length bs }

unfoldable pub measured_records : ℕ → Parsed (List Record) → Result Total Refusal
measured_records size (read rs bs) = Ok (total size rs bs)
measured_records size (refused why) = Err why

-- the answer for all records, as the paper's number and what the records need
abbrev pub needed_number : Result Total Refusal → ℕ
needed_number (Ok t) = 0
needed_number (Err why) = refusal_number why

abbrev pub needed_total : Result Total Refusal → List Total
needed_total (Ok t) = t ∷ []
needed_total (Err why) = []

pub record TellsRecords (n : Result Total Refusal) (size : ℕ) (p : Parsed (List Record)) : Type 0 where
  pub number : needed_number n ≡ reading_number p
  pub needs : (rs : List Record) (bs : List ℕ) → p ≡ read rs bs → needed_total n ≡ total size rs bs ∷ []

-- the first pass over count records, from index `start` of the card
abbrev pub measured_from : List ℕ → ℕ → ℕ → List ℕ → ℕ → Result Total Refusal
measured_from card start n ars count = measured_records (length card) (read_records n ars count (drop start card))
