-- Every number that the program may print after "refused" occurs: an input for each number of its table, in the table's
-- order.
use Rattle.std.specs.Prelude.{ℕ, ◌+◌, ◌/◌, ◌%◌, ◌≡◌, List, [], ◌∷◌, ◌++◌, map, length, replicate}
use Rattle.calculus.specs.Cell.{constants}
use Rattle.calculus.specs.Padded.{padded}
use Rattle.calculus.specs.Row.{Row}
use Rattle.instance.specs.declared.header.Header.{Header}
use Rattle.instance.specs.Header.{max_relations, max_words}
use Rattle.instance.specs.Sound.{header_for}
use Rattle.card.specs.Encode.{field_bytes, card_bytes}
use Rattle.query.specs.Tree.{variable_base}
use Rattle.answer.specs.Numbers.{asked_number}
use Rattle.line.specs.Fields.{max_input}
use Rattle.line.specs.Line.{answered}
use Rattle.calls.specs.LineNumbers.{line_numbers}
use Rattle.calls.specs.Occur.{bad_cards}

-- high byte first
abbrev two : ℕ → List ℕ
two n = n / 256 % 256 ∷ n % 256 ∷ []

abbrev four : ℕ → List ℕ
four n = n / 16777216 % 256 ∷ n / 65536 % 256 ∷ n / 256 % 256 ∷ n % 256 ∷ []

-- a question of one node whose words after the third are 0
abbrev node : ℕ → ℕ → ℕ → List ℕ
node kind first second = two 8 ++ four kind ++ four first ++ four second ++ replicate 20 0

abbrev equal : List ℕ
equal = node 2 5 5

-- the whole input: a card, a question, a candidate, an allowance
abbrev input : List ℕ → List ℕ → List ℕ → ℕ → List ℕ
input card question candidate budget = two (length card) ++ card ++ question ++ candidate ++ four budget

abbrev no_candidate : List ℕ
no_candidate = 0 ∷ []

-- one relation of one column, with no rows; and with one row more than 4,096 words hold
abbrev empty : List ℕ
empty = 1 ∷ 1 ∷ 0 ∷ 0 ∷ []

abbrev pub many_rows : List Row
many_rows = replicate (max_words / 2 + 1) (record { relation = 0; cells = 5 ∷ [] })

abbrev pub one_sheet : Header
one_sheet = header_for 1 (padded max_relations (1 ∷ [])) []

abbrev pub too_long_card : List ℕ
too_long_card = replicate (max_input + 1) 0

abbrev pub too_many_cells : List ℕ
too_many_cells = input (card_bytes one_sheet many_rows) equal no_candidate 1

-- 10, 11, 18; then the card's, 42 last; then the question's
abbrev pub line_inputs : List (List ℕ)
line_inputs =
    too_long_card
    ∷ []
    ∷ (input empty equal no_candidate 1 ++ 0 ∷ [])
    ∷ (map (λ card. input card equal no_candidate 1) bad_cards
    ++ (too_many_cells
    ∷ input empty (two 0) no_candidate 1
    ∷ input empty equal (1 ∷ field_bytes constants) 1
    ∷ input empty (node 3 0 0) no_candidate 1
    ∷ input empty (node 8 0 0) no_candidate 1
    ∷ input empty (node 1 1 0) no_candidate 1
    ∷ input empty (node 2 variable_base 5) no_candidate 1
    ∷ input empty equal no_candidate 0
    ∷ []))

abbrev pub EveryLineNumberOccurs : Type 0
EveryLineNumberOccurs = map (λ i. asked_number (answered i)) line_inputs ≡ line_numbers
