-- Every number of the program's table occurs, by computation. Assumes nothing.
use mathlib.Core.Path.{refl}
use Rattle.calculus.specs.Eval.{eval}
use Rattle.calculus.specs.Domain.{without, distinct}
use Rattle.calculus.specs.Closed.{tuples, some, up_to, identical, stands, examined, equality}
use Rattle.calculus.specs.Table as counts
use Rattle.calculus.specs.Unify.{unifies_with}
use Rattle.calculus.specs.Row.{cells_of}
use Rattle.calculus.specs.Cell.{is_cell}
use Rattle.instance.specs.Sound.{sound, rows}
use Rattle.instance.specs.Header.{arities_well_formed, header_well_formed}
use Rattle.instance.specs.Rows.{words_well_formed, rows_from, words_of}
use Rattle.card.specs.Decode.{accepted, decoded_from, decoded}
use Rattle.instance.specs.Blanks.{blanks_in, blanks, highest_of, written_of, highest, numbered, numbered_rows}
use Rattle.parse.specs.Parse.{read_byte, read_each}
use Rattle.parse.specs.Number.{read_digits}
use Rattle.card.specs.Format.{read_head, read_field, read_fields as readCardFields, read_record, read_card}
use Rattle.query.specs.Tree.{term_of, terms_at, formula_at}
use Rattle.query.specs.Named.{inked_at, named_from}
use Rattle.query.specs.Check.{zeros_from, check_terms, check_child, check_node, check_nodes, check_query}
use Rattle.query.specs.Words.{right_length, kind_of}
use Rattle.evaluate.specs.Within.{within}
use Rattle.answer.specs.Ask.{admitted, askable, ask}
use Rattle.line.specs.Line.{blank, asked_card, answered}
use Rattle.line.specs.Fields.{read_fields, read_input}
use Rattle.calculus.specs.All.{all}
use Rattle.card.specs.Encode.{fields_bytes, records_bytes, card_bytes}
use Rattle.calls.specs.LineOccur.{EveryLineNumberOccurs}

pub every_line_number-occurs : EveryLineNumberOccurs
unfolding eval without distinct counts.table tuples some identical stands up_to examined equality unifies_with cells_of is_cell sound rows arities_well_formed header_well_formed all words_well_formed rows_from words_of accepted decoded_from decoded blanks_in blanks highest_of written_of highest numbered numbered_rows read_byte read_each read_digits read_head read_field readCardFields read_record read_card term_of terms_at formula_at named_from inked_at zeros_from check_terms check_child check_node check_nodes check_query right_length kind_of within admitted askable ask blank asked_card answered read_fields read_input fields_bytes records_bytes card_bytes
every_line_number-occurs = refl
