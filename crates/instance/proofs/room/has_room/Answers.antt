-- `instance::room::has_room` meets its contract: on each path through the tests, the result computes to the definition. Assumes nothing.
use borrow.Author.Tests.{le-leb, lt-leb}
use Rattle.instance.proofs.room.has_room.Goals as goal

pub returns-then-words-le-WORDS : goal.returns-then-words-le-WORDS
returns-then-words-le-WORDS c = simp (le-leb _ _ c.if-words-le-WORDS.true)

pub returns-else-words-le-WORDS : goal.returns-else-words-le-WORDS
returns-else-words-le-WORDS c = simp (lt-leb _ _ c.if-words-le-WORDS.false)
