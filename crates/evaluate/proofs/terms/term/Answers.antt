-- `evaluate::terms::term` meets its contract: a term is a constant or one of 16 variables. Assumes nothing.
use Rattle.evaluate.proofs.TermLaws.{below_base, from_base}
use Rattle.evaluate.proofs.terms.term.Goals as goal

pub returns-then-w-lt-VARIABLE_BASE : goal.returns-then-w-lt-VARIABLE_BASE
returns-then-w-lt-VARIABLE_BASE c = rw (below_base _ c.if-w-lt-VARIABLE_BASE.true)

pub returns : goal.returns
returns c = rw (from_base _ c.if-w-lt-VARIABLE_BASE.false)
