-- A probe of a column of the row. Assumes nothing.
use Prim.Native.Nat.{ℕ, ◌<◌}
use mathlib.Core.Path.{◌≡◌, refl, sym, subst}
use mathlib.Core.Bool.{Bool}
use mathlib.Core.List.{List}
use lib.ListN.{length}
use Rattle.lookup.specs.declared.probe.Probe.{Probe}
use Rattle.lookup.specs.Probe.{probe_at, Probes}

pub probe_stands : (possible : Bool) (row : List ℕ) (column : ℕ) {l : Probe} → l ≡ probe_at possible row column → column < length row → Probes possible row l
probe_stands possible row column e low = subst (Probes possible row) (sym e) (record { column = low; low = refl })
