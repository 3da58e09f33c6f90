-- The line that is printed. Document 01, "The program": "It prints one line: "true", "false" or "unknown", a space, the looks; or "refused", a space
-- and the number. A line feed ends it."
use Rattle.std.specs.Prelude.{ℕ, List, [], ◌∷◌, ◌++◌}
use Rattle.calculus.specs.declared.truth.Truth.{Truth}
use Rattle.calculus.specs.Kleene.{truth_word}
use Rattle.decimal.specs.Decimal.{digits}

-- "true", "false" and "unknown", each with its space
abbrev pub word_of : Truth → List ℕ
word_of t = truth_word t ++ 32 ∷ []

-- "refused", with its space
abbrev pub refused_word : List ℕ
refused_word = 114 ∷ 101 ∷ 102 ∷ 117 ∷ 115 ∷ 101 ∷ 100 ∷ 32 ∷ []

abbrev pub line_feed : ℕ
line_feed = 10

unfoldable pub line_with : List ℕ → ℕ → List ℕ
line_with word n = word ++ digits n ++ line_feed ∷ []

abbrev pub verdict_line : Truth → ℕ → List ℕ
verdict_line t cost = line_with (word_of t) cost

abbrev pub refused_line : ℕ → List ℕ
refused_line number = line_with refused_word number

-- no line has more bytes
abbrev pub max_line : ℕ
max_line = 20
