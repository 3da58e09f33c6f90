-- `lookup::probe::Probe::new` meets its contract: its limit is the column's. Assumes nothing.
use Prim.Native.Nat.{ℕ}
use mathlib.Core.Path.{ap}
use Rattle.lookup.proofs.probe.Probe.new.Goals as goal

pub returns : goal.returns
returns c = ap (λ (low : ℕ). record { column = c.args.column; low = low; failed = 0 }) c.limit.ensures
