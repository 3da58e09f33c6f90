-- The whole case of document 01, "The program": its bytes give the line "unknown 4". Assumes nothing.
use Prim.Native.Nat.{ℕ}
use mathlib.Core.Path.{◌≡◌, refl}
use mathlib.Core.List.{List, [], ◌∷◌}
use Rattle.calculus.specs.Eval.{eval}
use Rattle.calculus.specs.Domain.{without, distinct}
use Rattle.calculus.specs.Closed.{tuples, some, up_to, identical, stands, examined, equality}
use Rattle.calculus.specs.Table as counts
use Rattle.calculus.specs.Unify.{unifies_with}
use Rattle.calculus.specs.Row.{cells_of}
use Rattle.calculus.specs.Cell.{is_cell}
use Rattle.instance.specs.Sound.{sound, rows}
use Rattle.instance.specs.Header.{arities_well_formed, header_well_formed}
use Rattle.instance.specs.Rows.{words_well_formed, rows_from, words_of}
use Rattle.card.specs.Decode.{accepted, decoded_from, decoded}
use Rattle.instance.specs.Blanks.{blanks_in, blanks, highest_of, written_of, highest, numbered, numbered_rows}
use Rattle.parse.specs.Parse.{read_byte, read_each}
use Rattle.parse.specs.Number.{read_digits}
use Rattle.card.specs.Format.{read_head, read_field, read_fields as readCardFields, read_record, read_card}
use Rattle.query.specs.Tree.{term_of, terms_at, formula_at}
use Rattle.query.specs.Named.{inked_at, named_from}
use Rattle.query.specs.Check.{zeros_from, check_terms, check_child, check_node, check_nodes, check_query}
use Rattle.query.specs.Words.{right_length, kind_of}
use Rattle.evaluate.specs.Within.{within}
use Rattle.answer.specs.Ask.{admitted, askable, ask}
use Rattle.line.specs.Line.{blank, asked_card, answered, line_of}
use Rattle.decimal.specs.Decimal.{digits_in}
use Rattle.line.specs.Text.{line_with}
use Rattle.line.specs.Fields.{read_fields, read_input}
use Rattle.calculus.specs.All.{all}

abbrev pub input : List ℕ
input = 0 ∷ 12 ∷ 2 ∷ 1 ∷ 1 ∷ 0 ∷ 2 ∷ 0 ∷ 1 ∷ 0 ∷ 0 ∷ 201 ∷ 1 ∷ 0 ∷ 0 ∷ 32 ∷ 0 ∷ 0 ∷ 0 ∷ 4 ∷ 0 ∷ 0 ∷ 0 ∷ 1 ∷ 0 ∷ 0 ∷ 0 ∷ 2 ∷ 0 ∷ 0 ∷ 0 ∷ 0 ∷ 0 ∷ 0 ∷ 0 ∷ 0 ∷ 0 ∷ 0 ∷ 0 ∷ 0 ∷ 0 ∷ 0 ∷ 0 ∷ 0 ∷ 0 ∷ 0 ∷ 0 ∷ 0 ∷ 0 ∷ 0 ∷ 0 ∷ 1 ∷ 0 ∷ 0 ∷ 0 ∷ 0 ∷ 0 ∷ 30 ∷ 132 ∷ 128 ∷ 0 ∷ 0 ∷ 0 ∷ 0 ∷ 0 ∷ 0 ∷ 0 ∷ 0 ∷ 0 ∷ 0 ∷ 0 ∷ 0 ∷ 0 ∷ 0 ∷ 0 ∷ 0 ∷ 0 ∷ 0 ∷ 0 ∷ 0 ∷ 0 ∷ 0 ∷ 0 ∷ 3 ∷ 0 ∷ 0 ∷ 0 ∷ 3 ∷ 0 ∷ 0 ∷ 0 ∷ 0 ∷ 0 ∷ 0 ∷ 0 ∷ 0 ∷ 0 ∷ 0 ∷ 0 ∷ 0 ∷ 0 ∷ 0 ∷ 0 ∷ 0 ∷ 0 ∷ 0 ∷ 0 ∷ 0 ∷ 0 ∷ 0 ∷ 0 ∷ 0 ∷ 0 ∷ 0 ∷ 0 ∷ 1 ∷ 0 ∷ 0 ∷ 0 ∷ 1 ∷ 0 ∷ 30 ∷ 132 ∷ 128 ∷ 0 ∷ 0 ∷ 0 ∷ 0 ∷ 0 ∷ 0 ∷ 0 ∷ 0 ∷ 0 ∷ 0 ∷ 0 ∷ 0 ∷ 0 ∷ 0 ∷ 0 ∷ 0 ∷ 0 ∷ 0 ∷ 0 ∷ 0 ∷ 1 ∷ 0 ∷ 0 ∷ 201 ∷ 0 ∷ 0 ∷ 0 ∷ 100 ∷ []

pub whole-case : line_of input ≡ 117 ∷ 110 ∷ 107 ∷ 110 ∷ 111 ∷ 119 ∷ 110 ∷ 32 ∷ 52 ∷ 10 ∷ []
unfolding eval without distinct counts.table tuples some identical stands up_to examined equality unifies_with cells_of is_cell sound rows arities_well_formed header_well_formed all words_well_formed rows_from words_of accepted decoded_from decoded blanks_in blanks highest_of written_of highest numbered numbered_rows read_byte read_each read_digits read_head read_field readCardFields read_record read_card term_of terms_at formula_at named_from inked_at zeros_from check_terms check_child check_node check_nodes check_query right_length kind_of within admitted askable ask blank asked_card answered line_of digits_in line_with read_fields read_input
whole-case = refl
