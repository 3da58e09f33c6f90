-- `parse::number::numbers` meets its contract: the numbers read so far are at the front, and the others are read after them. Assumes nothing.
use Prim.Native.Nat.{◌+◌, ◌*◌}
use mathlib.Core.Path.{◌≡◌}
use native.Mathlib.Nat.{zero-mul, add-zero}
use native.Mathlib.Omega.{arith}
use lib.ListN.{take}
use lib.Seq.{length-take-le}
use Rattle.parse.proofs.Filling.{fill_start, fill-room, numbers-filled_more, fill_part}
use Rattle.parse.proofs.number.numbers.Goals as goal

pub loop-i-init : goal.loop-i-init
loop-i-init c =
    let room = length-take-le c.args.count c.args.out.now c.requires.room in
    rw (zero-mul, add-zero) (fill_start c.args.width c.args.count c.args.at c.args.bytes.now (take c.args.count c.args.out.now) c.requires.within c.requires.reads (omega arith))

pub number-requires-clause-within : goal.number-requires-clause-within
number-requires-clause-within c = fill-room c.loop-i.invariant (omega (arith, length-take-le c.args.count c.args.out.now c.requires.room))

pub loop-i-preserved : goal.loop-i-preserved
loop-i-preserved c =
    let next : c.args.at + c.loop-i.i * c.args.width + c.args.width ≡ c.args.at + (c.loop-i.i + 1) * c.args.width = omega arith in
    rw next at (numbers-filled_more c.loop-i.invariant (omega (arith, length-take-le c.args.count c.args.out.now c.requires.room)) c.number.ensures.read)

pub returns : goal.returns
returns c = fill_part c.args.out.now c.loop-i.invariant (omega (arith, length-take-le c.args.count c.args.out.now c.requires.room)) c.requires.reads
