-- What the second pass over a card's bytes writes, and what the first pass has established for it.
use Rattle.std.specs.Prelude.{ℕ, ◌+◌, ◌≤◌, ◌<◌, ◌≡◌, true, List, [], length, drop}
use Rattle.calculus.specs.Cell.{nulls}
use Rattle.calculus.specs.Row.{Row}
use Rattle.instance.specs.Blanks.{blanks, numbered_rows}
use Rattle.instance.specs.Header.{arity_of, max_relations, max_columns, max_words}
use Rattle.instance.specs.Rows.{words_of}
use Rattle.parse.specs.Parse.{is_read, got}
use Rattle.card.specs.Format.{read_records}

-- the rows of count records, if the next blank gets null `next`, and their words
abbrev pub rows_read : ℕ → List ℕ → ℕ → ℕ → List ℕ → List Row
rows_read n ars count next bs = numbered_rows next (got [] (read_records n ars count bs))

abbrev pub words_read : ℕ → List ℕ → ℕ → ℕ → List ℕ → List ℕ
words_read n ars count next bs = words_of (rows_read n ars count next bs)

pub record WriteRows (instance card : List ℕ) (n : ℕ) (ars : List ℕ) (count next : ℕ) : Type 0 where
  pub few : n ≤ max_relations
  pub narrow : (r : ℕ) → r < n → arity_of ars r ≤ max_columns
  pub reads : is_read (read_records n ars count (drop (n + 3) card)) ≡ true
  pub free : next + blanks (got [] (read_records n ars count (drop (n + 3) card))) ≤ nulls + 1
  pub short : length (words_read n ars count next (drop (n + 3) card)) ≤ max_words
  pub room : length (words_read n ars count next (drop (n + 3) card)) ≤ length instance
