-- Plain questions. Document 02, request 7: "plain questions, made of kinds 1, 2, 4, 5 and 6 only". A question is plain
-- by its words, not by its meaning: not (not ..) is not plain.
use Rattle.std.specs.Prelude.{ℕ, zero, suc, Bool, true, ◌&&◌, List, [], ◌∷◌}
use Rattle.calculus.specs.Listed.{listed}
use Rattle.query.specs.Words.{word_at, node_count}

abbrev pub plain_kinds : List ℕ
plain_kinds = 1 ∷ 2 ∷ 4 ∷ 5 ∷ 6 ∷ []

-- whether the k nodes from node i on have plain kinds
unfoldable pub plain_from : List ℕ → ℕ → ℕ → Bool
plain_from qs i zero = true
plain_from qs i (suc k) = listed (word_at qs i 0) plain_kinds && plain_from qs (suc i) k

abbrev pub plain_words : List ℕ → Bool
plain_words qs = plain_from qs 0 (node_count qs)
