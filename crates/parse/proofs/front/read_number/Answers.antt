-- `parse::front::read_number` meets its contract: the number is at the front, or there are too few bytes for it. Assumes nothing.
use native.Mathlib.Nat.{zero-add}
use Rattle.std.proofs.lemmas.Result.{err_from_is_err_and}
use Rattle.parse.proofs.Numbers.{takes_number}
use Rattle.parse.proofs.front.read_number.Goals as goal

pub returns-in_err-rest-clause-read : goal.returns-in_err-rest-clause-read
returns-in_err-rest-clause-read c =
    let p = err_from_is_err_and c.from_residual.result c.from_residual.ensures.1 in
    let short = c.in_err-rest.ensures in
    rw (p.1, p.2, short.1) ((takes_number c.args.width).cut c.args.bytes.now short.0)

pub returns-clause-read : goal.returns-clause-read
returns-clause-read c = rw c.in_ok-rest.ensures.2 (rw (zero-add c.args.width) at c.number.ensures.read)
