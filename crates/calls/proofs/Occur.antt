-- Every number of each call's table occurs, by computation. Assumes nothing.
use mathlib.Core.Path.{refl}
use Rattle.calculus.specs.All.{all}
use Rattle.calculus.specs.Eval.{eval}
use Rattle.calculus.specs.Domain.{without, distinct}
use Rattle.calculus.specs.Closed.{tuples, some, up_to, identical, stands, examined, equality}
use Rattle.calculus.specs.Unify.{unifies_with}
use Rattle.calculus.specs.Fill.{count_of}
use Rattle.calculus.specs.Row.{cells_of}
use Rattle.calculus.specs.Cell.{is_cell, put}
use Rattle.calculus.specs.Listed.{listed}
use Rattle.calculus.specs.Table.{table}
use Rattle.instance.specs.Header.{arities_well_formed, header_well_formed}
use Rattle.instance.specs.Rows.{words_well_formed, rows_from, words_of}
use Rattle.instance.specs.Sound.{sound, rows}
use Rattle.instance.specs.Insert.{enterable, inserted}
use Rattle.instance.specs.Substitute.{substituted}
use Rattle.instance.specs.NullCounts.{counted}
use Rattle.instance.specs.Blanks.{blanks_in, blanks, highest_of, written_of, highest, numbered, numbered_rows}
use Rattle.undo_log.specs.Places.{is_place}
use Rattle.undo_log.specs.Log.{entry_well_formed, undone}
use Rattle.parse.specs.Parse.{read_byte, read_each}
use Rattle.parse.specs.Number.{read_digits}
use Rattle.card.specs.Format.{read_head, read_field, read_fields, read_record, read_card}
use Rattle.card.specs.Decode.{accepted, decoded_from, decoded}
use Rattle.card.specs.Encode.{fields_bytes, records_bytes, card_bytes, encoded}
use Rattle.query.specs.Words.{right_length, kind_of}
use Rattle.query.specs.Tree.{term_of, terms_at, formula_at}
use Rattle.query.specs.Named.{named_from, inked_at}
use Rattle.query.specs.Check.{zeros_from, check_terms, check_child, check_node, check_nodes, check_query}
use Rattle.evaluate.specs.Within.{within}
use Rattle.answer.specs.Ask.{admitted, askable, ask}
use Rattle.rerun.specs.Rerun.{reran}
use Rattle.calls.specs.Occur.{EveryNumberOccurs}

pub every_number-occurs : EveryNumberOccurs
unfolding all table eval without distinct tuples some identical stands up_to examined equality unifies_with count_of cells_of is_cell put listed arities_well_formed header_well_formed words_well_formed rows_from words_of sound rows enterable inserted substituted counted blanks_in blanks highest_of written_of highest numbered numbered_rows is_place entry_well_formed undone read_byte read_each read_digits read_head read_field read_fields read_record read_card accepted decoded_from decoded fields_bytes records_bytes card_bytes encoded right_length kind_of term_of terms_at formula_at zeros_from check_terms check_child check_node check_nodes check_query within admitted askable ask reran named_from inked_at
every_number-occurs = (refl, refl)
