-- The constants that a question names. Document 02, request 6: "the question's own inked terms, by node and word".
use Rattle.std.specs.Prelude.{ℕ, zero, suc, ◌+◌, ◌*◌, ◌≤◌, ◌<◌, ◌≡◌, cond, List, [], ◌∷◌, ◌++◌, length, take, drop}
use Rattle.calculus.specs.Cell.{is_constant}
use Rattle.calculus.specs.Formula.{Query}
use Rattle.instance.specs.Header.{arity_of, max_relations, max_columns}
use Rattle.query.specs.Words.{Kind, row_stands, equals, negates, no_such_kind, joins, ranges, kind_of, word_at, node_words, node_count}
use Rattle.query.specs.Tree.{formula_of}

-- the inked terms among the terms in k words from word j of node i, repeats included
unfoldable pub inked_at : List ℕ → ℕ → ℕ → ℕ → List ℕ
inked_at qs i j zero = []
inked_at qs i j (suc k) = cond (is_constant (word_at qs i j)) (word_at qs i j ∷ inked_at qs i (suc j) k)
    (inked_at qs i (suc j) k)

-- a node's terms by its kind: the word of the first, and how many there are; kinds 1 and 2 have terms
abbrev pub first_term : Kind → ℕ
first_term row_stands = 2
first_term equals = 1
first_term negates = 1
first_term (joins j) = 1
first_term (ranges j) = 1
first_term no_such_kind = 1

abbrev pub term_count : List ℕ → List ℕ → ℕ → Kind → ℕ
term_count ars qs i row_stands = arity_of ars (word_at qs i 1)
term_count ars qs i equals = 2
term_count ars qs i negates = 0
term_count ars qs i (joins j) = 0
term_count ars qs i (ranges j) = 0
term_count ars qs i no_such_kind = 0

-- the inked terms of a node
abbrev pub named_by : List ℕ → List ℕ → ℕ → Kind → List ℕ
named_by ars qs i k = inked_at qs i (first_term k) (term_count ars qs i k)

-- those of k nodes from node i
unfoldable pub named_from : List ℕ → List ℕ → ℕ → ℕ → List ℕ
named_from ars qs i zero = []
named_from ars qs i (suc k) = named_by ars qs i (kind_of (word_at qs i 0)) ++ named_from ars qs (suc i) k

abbrev pub named_in : List ℕ → List ℕ → List ℕ
named_in ars qs = named_from ars qs 0 (node_count qs)

-- Of 100 nodes at most 50 have no child, and these alone have terms, at most six (`proofs/FewTerms.antt`, `few-terms`).
abbrev pub max_terms : ℕ
max_terms = 300

-- what a question's words stand for
abbrev pub query_of : List ℕ → List ℕ → Query
query_of ars qs = record { formula = formula_of ars qs; named = named_in ars qs }

-- ---- for the code: the words of a node's terms, as a part of the question

-- where a node's terms begin in the question, how many there are, and the terms
module _ (ars qs : List ℕ) where
  abbrev pub start_of : ℕ → ℕ
  start_of i = i * node_words + first_term (kind_of (word_at qs i 0))

  abbrev pub count_at : ℕ → ℕ
  count_at i = term_count ars qs i (kind_of (word_at qs i 0))

  abbrev pub terms_of : ℕ → List ℕ
  terms_of i = take (count_at i) (drop (start_of i) qs)

-- the constants among words, repeats included
unfoldable pub constants_among : List ℕ → List ℕ
constants_among [] = []
constants_among (w ∷ ws) = cond (is_constant w) (w ∷ constants_among ws) (constants_among ws)

-- what a pass over the terms may assume: whole nodes, and relations that are numbers below eight
pub record HasTerms (ars qs : List ℕ) : Type 0 where
  pub whole : node_count qs * node_words ≡ length qs
  pub eight : length ars ≡ max_relations
  pub narrow : (r : ℕ) → arity_of ars r ≤ max_columns
  pub relations : (i : ℕ) → i < node_count qs → kind_of (word_at qs i 0) ≡ row_stands → word_at qs i 1 < max_relations
