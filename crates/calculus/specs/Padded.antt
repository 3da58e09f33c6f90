-- A list of numbers, padded with 0 to a width.
use Rattle.std.specs.Prelude.{ℕ, ◌-◌, List, ◌++◌, length, replicate}

abbrev pub padded : ℕ → List ℕ → List ℕ
padded width xs = xs ++ replicate (width - length xs) 0
