-- What evaluation is given: a sound instance's words, a question that passed its check, what is known of the instance
-- (`table`), and a slice of values. A quantifier walks this slice, and then the question's words if `table` says so;
-- what it does not pass over is the range.
use Rattle.std.specs.Prelude.{ℕ, ◌+◌, ◌*◌, ◌<◌, ◌≤◌, ◌≡◌, true, List, ◌++◌, length, take}
use Rattle.calculus.specs.Kleene.{Junction}
use Rattle.calculus.specs.Eval.{Outcome, Structure, eval}
use Rattle.calculus.specs.Closed.{closed, tuples}
use Rattle.instance.specs.Header.{max_columns, max_words}
use Rattle.instance.specs.Rows.{rows_from}
use Rattle.known.specs.declared.Known.{Known}
use Rattle.known.specs.Known.{count_in, places_in, unpassed}
use Rattle.query.specs.Words.{node_count, node_words, max_nodes, word_at, kind_of, ranges}
use Rattle.query.specs.Named.{named_in}
use Rattle.query.specs.Tree.{formula_at}
use Rattle.query.specs.Check.{is_term}
use Rattle.query.specs.Passed.{NodeWellFormed}
use Rattle.evaluate.specs.declared.evaluated.Evaluated.{Evaluated}
use Rattle.evaluate.specs.Within.{within}
use Rattle.instance.specs.InstanceWellFormed.{InstanceOf}

-- the structure of the rows in the words, for a question
abbrev pub world : List ℕ → List ℕ → List ℕ → Structure
world ars ws qs = closed (named_in ars qs) (rows_from ars 0 ws)

-- the words that a quantifier walks
abbrev pub walked_words : Known → List ℕ → List ℕ → List ℕ
walked_words table values qs = take (places_in table) (values ++ qs)

pub record Ready (ars ws qs : List ℕ) (table : Known) : Type 0 where
  pub given : InstanceOf ars ws
  pub whole : node_count qs * node_words ≡ length qs
  pub nodes_few : node_count qs ≤ max_nodes
  pub nodes : (i : ℕ) → i < node_count qs → NodeWellFormed given.relations ars qs i
  pub counted : (r : ℕ) → r < given.relations → count_in table r ≡ length (tuples r (rows_from ars 0 ws))

-- what a walk does not pass over is the range; this is required only if a node ranges over values
pub record Ranged (ars ws qs : List ℕ) (table : Known) (values : List ℕ) : Type 0 where
  pub short : length values ≤ max_words
  pub places : places_in table ≤ length values + length qs
  pub walked : (i : ℕ) (j : Junction) → i < node_count qs → kind_of (word_at qs i 0) ≡ ranges j
      → unpassed table 0 (walked_words table values qs) ≡ (world ars ws qs).range

-- the outcome of node i in a structure, with k nodes left, under an assignment
abbrev pub outcome_at : Structure → List ℕ → List ℕ → ℕ → ℕ → List ℕ → Outcome
outcome_at S ars qs k i e = eval S (formula_at ars qs k i) e

pub record Evaluable (ars ws qs : List ℕ) (table : Known) (values : List ℕ) (i : ℕ) : Type 0 where
  pub ready : Ready ars ws qs table
  pub ranged : Ranged ars ws qs table values
  pub known : i < node_count qs

-- answer r is right for node i: for every k that suffices for the nodes from i, it is the outcome within the budget
abbrev pub RightIn : Structure → List ℕ → List ℕ → ℕ → List ℕ → ℕ → Evaluated → Type 0
RightIn S ars qs i e budget r = (k : ℕ) → node_count qs ≤ i + k → r ≡ within budget (outcome_at S ars qs k i e)

abbrev pub Right : List ℕ → List ℕ → List ℕ → ℕ → List ℕ → ℕ → Evaluated → Type 0
Right ars ws qs i e budget r = RightIn (world ars ws qs) ars qs i e budget r

-- the `arity` words of node i from word 2 are terms
pub record TermsWellFormed (qs : List ℕ) (i arity : ℕ) : Type 0 where
  pub known : i < node_count qs
  pub narrow : arity ≤ max_columns
  pub terms : (j : ℕ) → j < arity → is_term (word_at qs i (2 + j)) ≡ true
