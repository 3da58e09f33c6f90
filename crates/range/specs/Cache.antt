-- A cache of cells that stood earlier. Its heads are half as many as the buckets of a list: two buckets share a head. It is the place, counted from 1, of a cell
-- that stood earlier, or 0 if no cell of the two stood yet. Which cell it is changes no answer.
use Rattle.std.specs.Prelude.{ℕ, ◌-◌, ◌/◌, ◌≤◌, ◌<◌, ◌≡◌, true, false, List, length, get_or}
use Rattle.calculus.specs.Listed.{listed}
use Rattle.domain.specs.Bucket.{bucket_of}

abbrev pub head_count : ℕ
head_count = 512

abbrev pub head_of : ℕ → ℕ
head_of c = bucket_of c / 2

-- what a head h says of a cell c that has it, if the values vs stood among the first i of the words ws
pub record Head (ws vs : List ℕ) (i c h : ℕ) : Type 0 where
  pub none : h ≡ 0 → listed c vs ≡ false
  pub within : h ≤ i
  pub stood : 0 < h → listed (get_or ws (h - 1) 0) vs ≡ true

pub record Cached (heads ws vs : List ℕ) (i : ℕ) : Type 0 where
  pub size : length heads ≡ head_count
  pub heads_of : (c : ℕ) → Head ws vs i c (get_or heads (head_of c) 0)
