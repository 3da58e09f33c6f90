-- What evaluation knows of an instance besides its words: the number of rows of each of the eight relations, their
-- arities, how many places a quantifier walks, and a flag for each of them. The places are those of a slice of values
-- and then those of the question's words. A walk passes over the places whose flag stands.
use Rattle.std.specs.Prelude.{ℕ, suc, ◌+◌, ◌-◌, ◌/◌, ◌%◌, ◌^◌, ◌≤◌, ◌<◌, ◌≡◌, Bool, true, false, cond, List, [], ◌∷◌, get_or}
use Rattle.std.specs.Int.Count.{count_trailing_zeros}
use Rattle.calculus.specs.Bit.{bit_at}
use Rattle.instance.specs.Header.{max_words}
use Rattle.known.specs.declared.Known.{Known}

-- the words of the longest question: 100 nodes of 8 words
abbrev pub max_query_words : ℕ
max_query_words = 800

-- 4,096 values or words of an instance, and then the words of the question
abbrev pub max_places : ℕ
max_places = max_words + max_query_words

-- the words of the flags, 32 flags to a word
abbrev pub flag_words : ℕ
flag_words = max_places / 32

abbrev pub count_in : Known → ℕ → ℕ
count_in known r = get_or known.counts r 0

abbrev pub arities_in : Known → List ℕ
arities_in known = known.arities

abbrev pub places_in : Known → ℕ
places_in known = known.places

abbrev pub flag_at : Known → ℕ → Bool
flag_at known p = bit_at (get_or known.flags (p / 32) 0) (p % 32)

-- the words of a slice, whose first word has place p, that are not passed over
unfoldable pub unpassed : Known → ℕ → List ℕ → List ℕ
unpassed known p [] = []
unpassed known p (w ∷ ws) = cond (flag_at known p) (unpassed known (suc p) ws) (w ∷ unpassed known (suc p) ws)

-- how many flags stand one after another from place p on, as far as its word goes: as many as the word's complement
-- has zeros there
abbrev pub gap_at : Known → ℕ → ℕ
gap_at known p = count_trailing_zeros 32 (4294967295 - get_or known.flags (p / 32) 0 / 2 ^ (p % 32))

-- what that means: r places from place p on are passed over, at most the 32 of a word; 0 says that p is not
pub record Gap (known : Known) (p r : ℕ) : Type 0 where
  pub none : r ≡ 0 → flag_at known p ≡ false
  pub all : (q : ℕ) → q < r → flag_at known (p + q) ≡ true
  pub few : r ≤ 32

-- the counts, the arities and the number of places stay
pub record SameBesides (before after : Known) : Type 0 where
  pub counts : after.counts ≡ before.counts
  pub arities : after.arities ≡ before.arities
  pub places : after.places ≡ before.places

-- the flag of place p becomes b; every other flag, the counts, the arities and the number of places stay
pub record Flagged (before : Known) (p : ℕ) (b : Bool) (after : Known) : Type 0 where
  pub kept : SameBesides before after
  pub here : flag_at after p ≡ b
  pub other : (q : ℕ) → (q ≡ p → ⊥) → flag_at after q ≡ flag_at before q
