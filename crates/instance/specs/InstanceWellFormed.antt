-- What a sound instance gives: its header is well formed, and so are its words in use.
use Rattle.std.specs.Prelude.{ℕ, ◌≤◌, ◌≡◌, true, List, length}
use Rattle.instance.specs.Header.{header_well_formed, max_words}
use Rattle.instance.specs.Rows.{words_well_formed}

-- n relations with the arities ars, and the words in use
pub record InstanceWellFormed (n : ℕ) (ars ws : List ℕ) : Type 0 where
  pub header : header_well_formed n ars ≡ true
  pub few : length ws ≤ max_words
  pub words : words_well_formed n ars 0 ws ≡ true

-- a well-formed instance with these arities and words in use; how many relations it has is part of the record
pub record InstanceOf (ars ws : List ℕ) : Type 0 where
  pub relations : ℕ
  pub well_formed : InstanceWellFormed relations ars ws
