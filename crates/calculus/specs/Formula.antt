-- The relational calculus (document 01: questions, as trees). A variable is bound by a quantifier or by the candidate row.
use Rattle.std.specs.Prelude.{ℕ, Bool, true, ◌&&◌, List, map, get_or}
use Rattle.calculus.specs.Cell.{is_constant, all_constant}
use Rattle.calculus.specs.Padded.{padded}
use Rattle.calculus.specs.Kleene.{Junction}
use Rattle.calculus.specs.All.{all}

-- "A term is an inked value, or 2,000,000 + v for variable v"
pub data Term : Type 0 where
  const var : ℕ → Term

-- Kind 1, kind 2, kind 3, kinds 4 and 5, kinds 6 and 7. `some` is `or` over the values, and `every` is `and` over them.
pub data Formula : Type 0 where
  atom : ℕ → List Term → Formula
  equal : Term → Term → Formula
  negation : Formula → Formula
  junction : Junction → Formula → Formula → Formula
  quantified : Junction → ℕ → Formula → Formula

-- An assignment is the list of the variables' cells. A variable past its end counts as 0; a checked question has none.
abbrev pub value : List ℕ → Term → ℕ
value e (const c) = c
value e (var v) = get_or e v 0

abbrev pub values : List ℕ → List Term → List ℕ
values e ts = map (value e) ts

-- the variables are numbered 0 to 15
abbrev pub variables : ℕ
variables = 16

-- "The candidate row has k cells, 0 to 6, for variables 0 to k − 1."
abbrev pub assignment : List ℕ → List ℕ
assignment candidate = padded variables candidate

-- every number in a `const` of a term, of terms and of a formula passes a test
abbrev pub term_passes : (ℕ → Bool) → Term → Bool
term_passes test (const c) = test c
term_passes test (var v) = true

abbrev pub terms_pass : (ℕ → Bool) → List Term → Bool
terms_pass test ts = all (term_passes test) ts

unfoldable pub constants_pass : (ℕ → Bool) → Formula → Bool
constants_pass test (atom r ts) = terms_pass test ts
constants_pass test (equal s t) = term_passes test s && term_passes test t
constants_pass test (negation f) = constants_pass test f
constants_pass test (junction j f g) = constants_pass test f && constants_pass test g
constants_pass test (quantified j v f) = constants_pass test f

-- every number in a `const` of a formula is a constant (an inked value)
abbrev pub inked : Formula → Bool
inked f = constants_pass is_constant f

-- A question: its formula, and its inked terms "by node and word", repeats included. A node's right child may
-- have a lower number than its left one, so the order of the words is not that of the formula.
pub record Query : Type 0 where
  pub formula : Formula
  pub named : List ℕ

-- every constant of a question is an inked value
abbrev pub inked_query : Query → Bool
inked_query q = inked q.formula && all_constant q.named
