-- Setting the flags of places.
use Rattle.std.specs.Prelude.{ℕ, ◌+◌, ◌≤◌, ◌≡◌, false, List, ◌++◌, length, take}
use Rattle.calculus.specs.Domain.{listing}
use Rattle.instance.specs.Header.{max_words}
use Rattle.known.specs.declared.Known.{Known}
use Rattle.known.specs.Known.{max_query_words, flag_at, unpassed, SameBesides}
use Rattle.range.specs.Cache.{Cached}

-- the cells before place i that are not passed over: of equal cells, the first
abbrev pub stood_before : Known → List ℕ → ℕ → List ℕ
stood_before known ws i = unpassed known 0 (take i ws)

-- What a pass over the question's words is given: an instance's words ws, whose flags are set, and the question's words
-- qs after them.
pub record Asking (ws qs : List ℕ) (known : Known) (heads : List ℕ) : Type 0 where
  pub short : length ws ≤ max_words
  pub few : length qs ≤ max_query_words
  pub cached : Cached heads ws (unpassed known 0 ws) (length ws)

-- The words of the question from word p to word r were walked: besides what stood before word p, the constants `named`
-- are not passed over, each once. No flag stands from word r on.
pub record Passed (ws qs : List ℕ) (before : Known) (p : ℕ) (named : List ℕ) (after : Known) (r : ℕ) : Type 0 where
  pub kept : SameBesides before after
  pub instance : unpassed after 0 ws ≡ unpassed before 0 ws
  pub walks : stood_before after (ws ++ qs) (length ws + r)
      ≡ listing (stood_before before (ws ++ qs) (length ws + p)) named
  pub later : (q : ℕ) → length ws + r ≤ q → flag_at after q ≡ false
