-- `lookup::probe::Probe::next` meets its contract: the same column with the same limit, or another with its own. Assumes nothing.
use native.Mathlib.Omega.{arith}
use Rattle.lookup.proofs.Probes.{probe_stands}
use Rattle.lookup.proofs.probe.Probe.next.Goals as goal

pub returns : goal.returns
returns c = probe_stands _ _ _ c.new-2.ensures (omega (arith, c.requires.1.column, c.if-next-row.false))
