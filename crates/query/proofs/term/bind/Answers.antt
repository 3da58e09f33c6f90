-- `query::term::bind` meets its contract: the shifted bit is 2 ^ v. Assumes nothing.
use native.Mathlib.Omega.{arith}
use Rattle.calculus.proofs.Bits.{shifted}
use Rattle.query.proofs.Masks.{or_binding}
use Rattle.query.proofs.term.bind.Goals as goal

pub returns : goal.returns
returns c = rw (shifted c.args.v (omega arith)) (or_binding c.args.mask c.args.v)
