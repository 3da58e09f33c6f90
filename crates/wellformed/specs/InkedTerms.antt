-- The inked terms of a question, as words of it. Document 02, request 6: "the question's own inked terms, by node and
-- word". They are what `named_in` lists (`proofs/InkedTermLaws.antt`).
use Rattle.std.specs.Prelude.{ℕ, zero, suc, ◌≤◌, ◌≡◌, Bool, true, false, ◌&&◌, cond, List, [], ◌∷◌, ◌++◌, ltb, get_or}
use Rattle.query.specs.Named.{named_in}
use Rattle.wellformed.specs.WellFormed.{Role, kind, relation, term, child, variable, unnamed, nodes, word, role}

abbrev pub is_term_role : Role → Bool
is_term_role term = true
is_term_role kind = false
is_term_role relation = false
is_term_role child = false
is_term_role variable = false
is_term_role unnamed = false

module _ (ars qs : List ℕ) where
  -- of k words from word j of node i, those that are read as a term and are inked values
  unfoldable pub inked_words : ℕ → ℕ → ℕ → List ℕ
  inked_words i j zero = []
  inked_words i j (suc k) =
      cond (is_term_role (role ars qs i j) && ltb (word qs i j) 1000000) (word qs i j ∷ inked_words i (suc j) k)
      (inked_words i (suc j) k)

  -- those of k nodes from node i, each of 8 words
  unfoldable pub inked_nodes : ℕ → ℕ → List ℕ
  inked_nodes i zero = []
  inked_nodes i (suc k) = inked_words i 0 8 ++ inked_nodes (suc i) k

-- for sheets of at most six columns
abbrev pub NamedWords : Type 0
NamedWords = (ars qs : List ℕ) → ((r : ℕ) → get_or ars r 0 ≤ 6) → named_in ars qs ≡ inked_nodes ars qs 0 (nodes qs)
