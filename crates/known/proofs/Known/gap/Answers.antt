-- `known::Known::gap` meets its contract. Assumes nothing.
use Prim.Native.Nat.{◌/◌, ◌<◌}
use mathlib.Core.Path.{sym, subst}
use native.Mathlib.Omega.{arith}
use lib.Count.{trailing_le}
use lib.ListN.{get_or}
use Rattle.known.specs.Known.{Gap}
use Rattle.known.proofs.Runs.{gap_none, gap_all}
use Rattle.known.proofs.Known.gap.Goals as goal

pub returns-clause-gap : goal.returns-clause-gap
returns-clause-gap c =
    let known = c.args.self.now in
    let place = c.args.place in
    let fits : get_or known.flags (place / 32) 0 < 4294967296 = omega arith in
    subst (Gap known place) (sym c.trailing_ones.ensures)
    (record { none = gap_none known place fits; all = gap_all known place fits; few = trailing_le 32 _ })
