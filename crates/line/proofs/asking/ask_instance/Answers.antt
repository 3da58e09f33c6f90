-- `line::asking::ask_instance` meets its contract: the words and the cells are read, and a question with more words than are read is refused for its
-- length. Assumes nothing.
use Prim.Native.Nat.{◌/◌}
use mathlib.Core.Path.{◌∙◌}
use native.Mathlib.Omega.{arith}
use lib.ListN.{length}
use Rattle.parse.specs.Number.{read_number, numbers_of}
use Rattle.parse.proofs.Each.{each_fewer}
use Rattle.parse.proofs.Numbers.{numbers_front}
use Rattle.answer.specs.Ask.{list}
use Rattle.line.specs.Line.{blank}
use Rattle.line.proofs.Shown.{first_words_lem}
use Rattle.line.proofs.asking.ask_instance.Goals as goal

pub numbers-requires-clause-reads : goal.numbers-requires-clause-reads
numbers-requires-clause-reads c =
    let words = c.args.parts.now.words.now in
    each_fewer (read_number 4) c.min-count.result (length words / 4) words (omega arith) c.requires.words

pub returns : goal.returns
unfolding blank
returns c =
    let words = c.args.parts.now.words.now in
    let cells = c.args.parts.now.cells.now in
    let count = c.min-count.result in
    let arity = length cells / 3 in
    let first = each_fewer (read_number 4) count (length words / 4) words (omega arith) c.requires.words in
    let asked = numbers_front 4 count words _ _ first c.numbers.ensures in
    let candidate = numbers_front 3 arity cells _ _ c.requires.cells c.numbers-2.ensures in
    c.ask.ensures.answer
    ∙ rw (asked, candidate)
    (first_words_lem c.args.header c.args.instance.now (numbers_of 3 arity cells) (list blank) c.args.parts.now.budget (length words / 4) count words c.min-count.ensures c.requires.words)
