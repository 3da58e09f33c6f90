-- What follows if a question is not refused before a list is asked for.
use Rattle.std.specs.Prelude.{ℕ, ◌≡◌, true, List, length}
use Rattle.instance.specs.declared.header.Header.{Header}
use Rattle.instance.specs.Sound.{sound, rows}
use Rattle.query.specs.Words.{right_length}
use Rattle.query.specs.declared.scopes.Scopes.{Scopes}
use Rattle.query.specs.Check.{passed, check_query}

-- the instance is sound and has `count` rows, and the question passed its check
pub record Admitted (h : Header) (ws qs candidate : List ℕ) (count : ℕ) : Type 0 where
  pub is_sound : sound h ws ≡ true
  pub right : right_length qs ≡ true
  pub scopes : Scopes
  pub passes : check_query h.relations h.arities qs candidate ≡ passed scopes
  pub counted : length (rows h ws) ≡ count
