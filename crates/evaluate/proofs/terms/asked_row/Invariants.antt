use mathlib.Core.Path.{◌≡◌}
use Rattle.calculus.specs.Padded.{padded}
use Rattle.calculus.specs.Formula.{values}
use Rattle.instance.specs.Header.{max_columns}
use Rattle.query.specs.Tree.{terms_at}
use Rattle.evaluate.proofs.terms.asked_row.Given as goal

abbrev pub invariant-loop-j : goal.invariant-loop-j
invariant-loop-j l = l.row ≡ padded max_columns (values l.env (terms_at l.query l.node 2 l.j))
