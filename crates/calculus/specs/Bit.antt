-- The bits of a number.
use Rattle.std.specs.Prelude.{ℕ, ◌/◌, ◌%◌, ◌^◌, Bool, eqb}

-- whether bit v is set
abbrev pub bit_at : ℕ → ℕ → Bool
bit_at m v = eqb (m / 2 ^ v % 2) 1
