-- The constants that a question names: each is an inked value, and there are at most six for each node without a child. Assumes nothing.
use Prim.Native.Nat.{ℕ, zero, suc, ◌+◌, ◌*◌, ◌≤◌}
use mathlib.Core.Path.{◌≡◌, refl}
use mathlib.Core.Bool.{Bool, true, false, cond}
use mathlib.Core.List.{List, ◌∷◌}
use native.Mathlib.Omega.{arith}
use lib.ListN.{length, length-append}
use Rattle.calculus.proofs.Bools.{and_intro}
use Rattle.calculus.specs.All.{all}
use Rattle.calculus.proofs.All.{all_append}
use Rattle.calculus.specs.Cell.{is_constant, all_constant}
use Rattle.instance.specs.Header.{arity_of, max_columns}
use Rattle.query.specs.Words.{Kind, row_stands, equals, negates, no_such_kind, joins, ranges, kind_of, word_at, node_count}
use Rattle.query.specs.Named.{inked_at, named_by, named_from, named_in, first_term, term_count}

inked-constant : (qs : List ℕ) (i j k : ℕ) → all_constant (inked_at qs i j k) ≡ true
unfolding inked_at all
inked-constant qs i j zero = refl
inked-constant qs i j (suc k) = go (is_constant (word_at qs i j)) refl (inked-constant qs i (suc j) k)
  where
    go : (b : Bool) → is_constant (word_at qs i j) ≡ b → all_constant (inked_at qs i (suc j) k) ≡ true →
        all_constant (cond b (word_at qs i j ∷ inked_at qs i (suc j) k) (inked_at qs i (suc j) k)) ≡ true
    go true e r = and_intro e r
    go false e r = r

pub inked-few : (qs : List ℕ) (i j k : ℕ) → length (inked_at qs i j k) ≤ k
unfolding inked_at
inked-few qs i j zero = omega arith
inked-few qs i j (suc k) = go (is_constant (word_at qs i j)) (inked-few qs i (suc j) k)
  where
    go : (b : Bool) → length (inked_at qs i (suc j) k) ≤ k → length (cond b (word_at qs i j ∷ inked_at qs i (suc j) k) (inked_at qs i (suc j) k)) ≤ suc k
    go true l = omega arith
    go false l = omega arith

-- a node that has terms and no child
unfoldable pub leaf_count : Kind → ℕ
leaf_count row_stands = 1
leaf_count equals = 1
leaf_count negates = 0
leaf_count (joins j) = 0
leaf_count (ranges j) = 0
leaf_count no_such_kind = 0

-- how many of k nodes from node i have no child
unfoldable pub leaves_from : List ℕ → ℕ → ℕ → ℕ
leaves_from qs i zero = 0
leaves_from qs i (suc k) = leaf_count (kind_of (word_at qs i 0)) + leaves_from qs (suc i) k

leaf_few : (k : Kind) → leaf_count k ≤ 1
unfolding leaf_count
leaf_few row_stands = omega arith
leaf_few equals = omega arith
leaf_few negates = omega arith
leaf_few (joins j) = omega arith
leaf_few (ranges j) = omega arith
leaf_few no_such_kind = omega arith

leaves-few : (qs : List ℕ) (i k : ℕ) → leaves_from qs i k ≤ k
unfolding leaves_from
leaves-few qs i zero = omega arith
leaves-few qs i (suc k) = omega (arith, leaf_few (kind_of (word_at qs i 0)), leaves-few qs (suc i) k)

module _ (ars qs : List ℕ) where
  by_constant : (i : ℕ) (k : Kind) → all_constant (named_by ars qs i k) ≡ true
  by_constant i k = inked-constant qs i (first_term k) (term_count ars qs i k)

  from_constant : (i k : ℕ) → all_constant (named_from ars qs i k) ≡ true
  unfolding named_from all
  from_constant i zero = refl
  from_constant i (suc k) = all_append is_constant (named_by ars qs i (kind_of (word_at qs i 0))) (named_from ars qs (suc i) k) (by_constant i (kind_of (word_at qs i 0))) (from_constant (suc i) k)

  pub named-constant : all_constant (named_in ars qs) ≡ true
  named-constant = from_constant 0 (node_count qs)

  module _ (narrow : (r : ℕ) → arity_of ars r ≤ max_columns) where
    count-few : (i : ℕ) (k : Kind) → term_count ars qs i k ≤ max_columns * leaf_count k
    unfolding leaf_count
    count-few i row_stands = omega (arith, narrow (word_at qs i 1))
    count-few i equals = omega arith
    count-few i negates = omega arith
    count-few i (joins j) = omega arith
    count-few i (ranges j) = omega arith
    count-few i no_such_kind = omega arith

    by_few : (i : ℕ) (k : Kind) → length (named_by ars qs i k) ≤ max_columns * leaf_count k
    by_few i k = omega (arith, inked-few qs i (first_term k) (term_count ars qs i k), count-few i k)

    pub from_few : (i k : ℕ) → length (named_from ars qs i k) ≤ max_columns * leaves_from qs i k
    unfolding named_from leaves_from
    from_few i zero = omega arith
    from_few i (suc k) =
        let kind = kind_of (word_at qs i 0) in
        omega (arith, length-append (named_by ars qs i kind) (named_from ars qs (suc i) k), by_few i kind, from_few (suc i) k)

    -- six for each node at most
    pub named-few : length (named_in ars qs) ≤ node_count qs * max_columns
    named-few = omega (arith, from_few 0 (node_count qs), leaves-few qs 0 (node_count qs))
