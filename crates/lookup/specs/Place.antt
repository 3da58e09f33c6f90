-- A row's place among an instance's words. Document 02, request 3: the test's "promise speaks of the plot's slice and a row's place in it".
use Rattle.std.specs.Prelude.{ℕ, ◌+◌, ◌≤◌, ◌<◌, ◌≡◌, true, ◌↔◌, List, [], length, get_or, take, drop}
use Rattle.calculus.specs.Row.{Row}
use Rattle.calculus.specs.Unify.{Unify}
use Rattle.instance.specs.declared.header.Header.{Header}
use Rattle.instance.specs.Header.{max_columns}
use Rattle.instance.specs.Rows.{words_of}
use Rattle.instance.specs.Sound.{sound, rows}
use Rattle.lookup.specs.declared.row.Match.{Match}
use Rattle.lookup.specs.declared.row.Match.TheVariants.{Identical, Unifies, Apart}
use Rattle.lookup.specs.Matching.{matching}

-- row k of rows, from 0, and the place of its first word: the number of words of the rows before it
abbrev pub row_at : List Row → ℕ → Row
row_at rs k = get_or rs k (record { relation = 0; cells = [] })

abbrev pub place_of : List Row → ℕ → ℕ
place_of rs k = length (words_of (take k rs))

-- the n cells of the row at a place
abbrev pub cells_at : List ℕ → ℕ → ℕ → List ℕ
cells_at ws place n = take n (drop (place + 1) ws)

-- how an asked row compares with the row at a place
abbrev pub compared_at : List ℕ → ℕ → List ℕ → Match
compared_at ws place asked = matching asked (cells_at ws place (length asked))

-- "equals the definition for every row of every sound plot and every asked row of that length"; the first two parts let the test be made there
abbrev pub EveryRow : Type 0
EveryRow =
    (h : Header) (ws : List ℕ) → sound h ws ≡ true → (k : ℕ) → k < length (rows h ws) →
    (asked : List ℕ) → length asked ≡ length (row_at (rows h ws) k).cells →
    (place_of (rows h ws) k + (1 + length asked) ≤ length ws) × (length asked ≤ max_columns)
    × (compared_at ws (place_of (rows h ws) k) asked ≡ matching asked (row_at (rows h ws) k).cells)

-- What the three answers mean. Document 01: "Two lists of cells unify if some giving of inked values to marks, one value per mark over both lists,
-- makes them equal."
pub record MeansMatch (asked cells : List ℕ) (m : Match) : Type 0 where
  pub identical : m ≡ Identical ↔ asked ≡ cells
  pub unifies : m ≡ Unifies ↔ (Unify asked cells × (asked ≡ cells → ⊥))
  pub apart : m ≡ Apart ↔ (Unify asked cells → ⊥)
