-- What a probe of one column goes by.
use Rattle.std.specs.Prelude.{ℕ, ◌<◌, ◌≡◌, Bool, List, length, get_or}
use Rattle.lookup.specs.declared.probe.Probe.{Probe}
use Rattle.lookup.specs.Passing.{limit_of}

-- a probe of a column, which has not failed yet
abbrev pub probe_at : Bool → List ℕ → ℕ → Probe
probe_at possible row column = record { column = column; low = limit_of possible (get_or row column 0); failed = 0 }

-- a probe of some column of the row, with the limit for its cells
pub record Probes (possible : Bool) (row : List ℕ) (l : Probe) : Type 0 where
  pub column : l.column < length row
  pub low : l.low ≡ limit_of possible (get_or row l.column 0)
