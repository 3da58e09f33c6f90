-- Every number of each call's table occurs: an input for each, as one table under one claim. A number that no input
-- gives would have none here.
use Rattle.std.specs.Prelude.{ℕ, ◌≡◌, List, [], ◌∷◌, ◌++◌, map}
use Rattle.calculus.specs.Cell.{null}
use Rattle.calculus.specs.Padded.{padded}
use Rattle.calculus.specs.Refusal.{output_too_short}
use Rattle.instance.specs.declared.header.Header.{Header}
use Rattle.instance.specs.Header.{max_relations}
use Rattle.instance.specs.Sound.{header_for}
use Rattle.card.specs.Decode.{no_header}
use Rattle.query.specs.Words.{node_words}
use Rattle.query.specs.Tree.{variable_base}
use Rattle.answer.specs.declared.way.Way.{Way}
use Rattle.answer.specs.declared.way.Way.TheVariants.{Listed, Unlisted}
use Rattle.answer.specs.Ask.{Lent, list, none}
use Rattle.rerun.specs.Rerun.{given}
use Rattle.calls.specs.Calls.{Call, asks, counts, encodes, inserts, substitutes, logs, undoes, decodes, reruns, number}
use Rattle.calls.specs.Numbers.{insert_numbers, fill_numbers, log_numbers, undo_numbers, write_numbers, read_numbers, ask_numbers, unlisted_numbers, numbers}

-- the numbers of a call, and calls on the words of the table's plot
pub record Row : Type 0 where
  pub tabled : List ℕ
  pub calls : List Call

-- relation 0 of one column has the row (m1), and the slice has no word more
abbrev pub plot : List ℕ
plot = 0 ∷ null 1 ∷ []

abbrev head : Header
head = header_for 1 (padded max_relations (1 ∷ [])) (record { relation = 0; cells = null 1 ∷ [] } ∷ [])

abbrev row : List ℕ → List Call → Row
row ns cs = record { tabled = ns; calls = cs }

-- a question of one node; "5 = 5", which costs 1
abbrev node : List ℕ → List ℕ
node ws = padded node_words ws

abbrev equal : List ℕ
equal = node (2 ∷ 5 ∷ 5 ∷ [])

-- what is refused before list and budget matter, for every way of asking: a header that is no sound plot's; no words; a
-- candidate that is no cell; a child that is its parent; no kind; relation 1; a variable that nothing binds
abbrev asked : (Header → List ℕ → List ℕ → ℕ → Call) → List Call
asked by =
    by no_header equal [] 1
    ∷ by head [] [] 1
    ∷ by head equal (1000000 ∷ []) 1
    ∷ by head (node (3 ∷ 0 ∷ [])) [] 1
    ∷ by head (node (8 ∷ [])) [] 1
    ∷ by head (node (1 ∷ 1 ∷ [])) [] 1
    ∷ by head (node (2 ∷ variable_base ∷ 5 ∷ [])) [] 1
    ∷ []

abbrev asking : Lent → Header → List ℕ → List ℕ → ℕ → Call
asking lent h qs cs budget = asks h qs cs lent budget

-- a rerun with no fills
abbrev rerunning : Way → List ℕ → Header → List ℕ → List ℕ → ℕ → Call
rerunning way buffer h qs cs budget = reruns (given way h qs cs buffer budget [] [] [] 0 buffer budget)

-- a rerun of one fill with no word for its answer
abbrev no_room_for : Way → Call
no_room_for way = reruns (given way head equal [] (0 ∷ []) 1 (1 ∷ 5 ∷ 0 ∷ []) [] [] 0 (0 ∷ []) 1)

-- cards that end too soon; of 9 relations; with an arity of 7; whose row names relation 1, sets bit 1 of one column,
-- has a field that is no cell; with a byte left over; whose blank would need null 201
abbrev pub bad_cards : List (List ℕ)
bad_cards =
    []
    ∷ (9 ∷ 1 ∷ [])
    ∷ (1 ∷ 7 ∷ [])
    ∷ (1 ∷ 1 ∷ 0 ∷ 1 ∷ 1 ∷ 0 ∷ [])
    ∷ (1 ∷ 1 ∷ 0 ∷ 1 ∷ 0 ∷ 2 ∷ 0 ∷ 0 ∷ 1 ∷ [])
    ∷ (1 ∷ 1 ∷ 0 ∷ 1 ∷ 0 ∷ 1 ∷ 15 ∷ 66 ∷ 64 ∷ [])
    ∷ (1 ∷ 1 ∷ 0 ∷ 0 ∷ 0 ∷ [])
    ∷ (1 ∷ 2 ∷ 0 ∷ 1 ∷ 0 ∷ 1 ∷ 15 ∷ 67 ∷ 8 ∷ [])
    ∷ []

-- a list of the length that "5 = 5" needs: the plot's cell and two terms
abbrev long : List ℕ
long = 0 ∷ 0 ∷ 0 ∷ []

abbrev pub table : List Row
table =
    row insert_numbers
    (inserts no_header 0 (5 ∷ [])
    ∷ inserts head 1 (5 ∷ [])
    ∷ inserts head 0 []
    ∷ inserts head 0 (1000000 ∷ [])
    ∷ inserts head 0 (5 ∷ [])
    ∷ [])
    ∷ row fill_numbers
    (substitutes no_header 1 5
    ∷ substitutes head 0 5
    ∷ substitutes head 1 1000000
    ∷ substitutes head 2 5
    ∷ [])
    ∷ row log_numbers
    (logs no_header [] 0 1 5
    ∷ logs head [] 0 0 5
    ∷ logs head [] 0 1 1000000
    ∷ logs head [] 0 2 5
    ∷ logs head [] 0 1 5
    ∷ [])
    ∷ row undo_numbers (undoes no_header [] 0 ∷ undoes head [] 0 ∷ undoes head [] 1 ∷ [])
    ∷ row write_numbers (counts no_header [] ∷ counts head [] ∷ [])
    ∷ row write_numbers (encodes no_header [] ∷ encodes head [] ∷ [])
    ∷ row read_numbers (map decodes (bad_cards ++ (1 ∷ 2 ∷ 0 ∷ 1 ∷ 0 ∷ 0 ∷ []) ∷ []))
    ∷ row ask_numbers
    (asked (asking (list long)) ++ asking (list []) head equal [] 1 ∷ asking (list long) head equal [] 0 ∷ [])
    ∷ row unlisted_numbers (asked (asking none) ++ asking none head equal [] 0 ∷ [])
    ∷ row (output_too_short ∷ ask_numbers)
    (no_room_for Listed
    ∷ asked (rerunning Listed long)
    ++ rerunning Listed [] head equal [] 1
    ∷ rerunning Listed long head equal [] 0
    ∷ [])
    ∷ row (output_too_short ∷ unlisted_numbers)
    (no_room_for Unlisted ∷ asked (rerunning Unlisted []) ++ rerunning Unlisted [] head equal [] 0 ∷ [])
    ∷ []

-- the calls of each row return the numbers of its table, in their order, and each is a call that the table is for
abbrev pub EveryNumberOccurs : Type 0
EveryNumberOccurs =
    (map (λ r. map (λ c. number c plot) r.calls) table ≡ map (λ r. r.tabled) table)
    × (map (λ r. map numbers r.calls) table ≡ map (λ r. map (λ c. r.tabled) r.calls) table)
