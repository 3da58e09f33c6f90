-- A header as words: the number of relations, the eight arities, the words in use, the eight row counts.
use Rattle.std.specs.Prelude.{ℕ, ◌+◌, cond, List, ◌∷◌, ◌++◌, length, get_or, take, drop, eqb}
use Rattle.calculus.specs.Answer.{Answer}
use Rattle.calculus.specs.Demand.{demand}
use Rattle.calculus.specs.declared.refusal.Refusal.TheVariants.{Unsound}
use Rattle.instance.specs.declared.header.Header.{Header}
use Rattle.instance.specs.Header.{max_relations, header_with}
use Rattle.std.specs.Prelude.{Err}

-- where each part begins, and the length
abbrev pub relations_at : ℕ
relations_at = 0

abbrev pub arities_at : ℕ
arities_at = relations_at + 1

abbrev pub used_at : ℕ
used_at = arities_at + max_relations

abbrev pub row_counts_at : ℕ
row_counts_at = used_at + 1

abbrev pub header_length : ℕ
header_length = row_counts_at + max_relations

unfoldable pub header_of : List ℕ → Header
header_of hs =
    header_with (get_or hs relations_at 0) (take max_relations (drop arities_at hs)) (get_or hs used_at 0)
    (take max_relations (drop row_counts_at hs))

unfoldable pub header_words : Header → List ℕ
header_words h = h.relations ∷ h.arities ++ h.used ∷ h.counts

-- a slice of another length is no header, and so the plot breaks a rule of its section: 41, before any other refusal
abbrev pub headed : List ℕ → Answer → Answer
headed hs a = demand (eqb (length hs) header_length) (Err Unsound) a

-- the new content if the slice is as long as a header, otherwise the old
abbrev pub if_headed : {A : Type 0} → List ℕ → A → A → A
if_headed hs new old = cond (eqb (length hs) header_length) new old
