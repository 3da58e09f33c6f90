-- Decimal digits. Document 01, "The program": the cost of a verdict and the number of a refusal are printed in decimal.
use Rattle.std.specs.Prelude.{ℕ, zero, suc, ◌+◌, ◌/◌, ◌%◌, cond, List, [], ◌∷◌, ◌++◌, ltb}

-- the character of a digit: 48 is "0"
abbrev pub digit : ℕ → ℕ
digit d = 48 + d

-- the digits of n, the last one after those of n / 10; each step divides by 10, so n steps suffice
unfoldable pub digits_in : ℕ → ℕ → List ℕ
digits_in zero n = digit n ∷ []
digits_in (suc steps) n = cond (ltb n 10) (digit n ∷ []) (digits_in steps (n / 10) ++ digit (n % 10) ∷ [])

-- without leading zeros; the digits of 0 are "0"
abbrev pub digits : ℕ → List ℕ
digits n = digits_in n n

-- no number of 32 bits has more digits
abbrev pub max_digits : ℕ
max_digits = 10
