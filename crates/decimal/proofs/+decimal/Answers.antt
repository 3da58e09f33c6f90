-- `decimal::decimal` meets its contract: the digits of a number's tenth come before its last digit. Assumes nothing.
use mathlib.Core.Path.{sym, ap}
use native.Mathlib.Omega.{arith}
use lib.ListN.{length}
use Rattle.decimal.proofs.Digits.{digits_one, length_more, write_one, write_more}
use Rattle.decimal.proofs.+decimal.Goals as goal

pub bounds-out-0 : goal.bounds-out-0
bounds-out-0 t c = omega (arith, ap length (digits_one c.args.n (omega arith)))

pub returns-then-n-lt10-clause-count : goal.returns-then-n-lt10-clause-count
returns-then-n-lt10-clause-count t c = ap length (sym (digits_one c.args.n (omega arith)))

pub returns-then-n-lt10-clause-bytes : goal.returns-then-n-lt10-clause-bytes
returns-then-n-lt10-clause-bytes t c = write_one c.args.n c.args.out.now (omega arith) c.requires

pub decimal-at-requires : goal.decimal-at-requires
decimal-at-requires t c = (omega arith, omega (arith, length_more c.args.n (omega arith)))

pub bounds-out-at : goal.bounds-out-at
bounds-out-at t c = omega (arith, length_more c.args.n (omega arith))

pub returns-clause-count : goal.returns-clause-count
returns-clause-count t c = omega (arith, length_more c.args.n (omega arith))

pub returns-clause-bytes : goal.returns-clause-bytes
returns-clause-bytes t c =
    rw (c.decimal-at.ensures.bytes, c.decimal-at.ensures.count) (write_more c.args.n c.args.out.now (omega arith) (omega arith))
