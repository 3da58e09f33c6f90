-- What the tuples of a relation say of a row, and how many of them are examined.
use Rattle.std.specs.Prelude.{ℕ, List}
use Rattle.calculus.specs.Closed.{stands, examined}
use Rattle.lookup.specs.declared.relation.Examined.{Examined}

abbrev pub examined_of : List (List ℕ) → List ℕ → Examined
examined_of ts row = record { truth = stands ts row; rows = examined ts row }
