-- What a write from index 0 leaves of a slice: the elements written, then the old elements after them.
use Rattle.std.specs.Prelude.{ℕ, List, ◌++◌, length, drop}

abbrev pub overwrite : List ℕ → List ℕ → List ℕ
overwrite xs old = xs ++ drop (length xs) old
