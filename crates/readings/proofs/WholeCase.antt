-- The bytes of the whole case, for which the program prints "unknown 4", are read as those of reading 6. Assumes nothing.
use mathlib.Core.Path.{refl}
use Rattle.calculus.specs.Cell.{is_cell}
use Rattle.calculus.specs.Closed.{tuples}
use Rattle.calculus.specs.Table as counts
use Rattle.instance.specs.Rows.{rows_from, words_of}
use Rattle.card.specs.Decode.{accepted, decoded_from, decoded}
use Rattle.instance.specs.Blanks.{blanks_in, blanks, highest_of, written_of, highest, numbered, numbered_rows}
use Rattle.parse.specs.Parse.{read_byte, read_each}
use Rattle.card.specs.Format.{read_head, read_field, read_fields as readCardFields, read_record, read_card}
use Rattle.line.specs.Line.{blank}
use Rattle.parse.specs.Number.{read_digits}
use Rattle.line.specs.Fields.{read_fields, read_input}
use Rattle.line.proofs.WholeCase.{input}
use Rattle.readings.specs.Table.{nodes}
use Rattle.readings.specs.WholeCase.{ReadsAs6}

pub whole-case_6 : ReadsAs6 input
unfolding counts.table tuples rows_from is_cell words_of accepted decoded_from decoded blanks_in blanks highest_of written_of highest numbered numbered_rows read_byte read_each read_head read_field readCardFields read_record read_card blank read_digits read_fields read_input nodes
whole-case_6 = record { fields = refl; accepted = refl; header = refl; words = refl }
