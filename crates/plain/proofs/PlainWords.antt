-- A plain question stands for a positive formula. Assumes nothing.
use Prim.Native.Nat.{ℕ, suc, ◌<◌}
use mathlib.Core.Path.{◌≡◌, refl}
use mathlib.Core.Bool.{Bool, true, false}
use mathlib.Core.List.{List}
use native.Mathlib.Omega.{arith}
use Rattle.calculus.specs.All.{all}
use Rattle.calculus.specs.Kleene.{conj, disj}
use Rattle.calculus.specs.Formula.{Formula}
use Rattle.calculus.specs.Listed.{listed}
use Rattle.calculus.proofs.All.{all_member}
use Rattle.calculus.proofs.Bools.{false_not_true, and_parts, and_intro}
use Rattle.calculus.proofs.Listed.{listed_member}
use Rattle.calculus.proofs.From.{each_from}
use Rattle.query.specs.Words.{Kind, row_stands, equals, negates, no_such_kind, joins, ranges, kind_of, word_at, node_count}
use Rattle.query.specs.Tree.{formula_by, formula_of}
use Rattle.query.specs.Passed.{NodeBy, NodeWellFormed}
use Rattle.query.proofs.Trees.{at_top}
use Rattle.plain.specs.Plain.{plain_kinds, plain_from, plain_words}
use Rattle.plain.proofs.Positive.{positive}

abbrev positive_kind : Kind → Bool
positive_kind row_stands = true
positive_kind equals = true
positive_kind negates = false
positive_kind (joins j) = true
positive_kind (ranges conj) = false
positive_kind (ranges disj) = true
positive_kind no_such_kind = false

-- by one test of the plain kinds
plain_kind : (w : ℕ) → listed w plain_kinds ≡ true → positive_kind (kind_of w) ≡ true
unfolding kind_of all
plain_kind w e = all_member (λ w. positive_kind (kind_of w)) plain_kinds (listed_member w plain_kinds e) refl

module _ (n : ℕ) (ars qs : List ℕ) (well_formed : (i : ℕ) → i < node_count qs → NodeWellFormed n ars qs i)
    (plain : plain_words qs ≡ true) where
  node_plain : (i : ℕ) → i < node_count qs → positive_kind (kind_of (word_at qs i 0)) ≡ true
  unfolding plain_from
  node_plain i l =
      plain_kind (word_at qs i 0)
      (each_from (λ d. listed (word_at qs d 0) plain_kinds ≡ true) (λ d k. plain_from qs d k ≡ true)
      (λ d k e. and_parts (listed (word_at qs d 0) plain_kinds) (plain_from qs (suc d) k) e)
      0 (node_count qs) i plain (omega arith) (omega arith))

  positive-by :
      (f : ℕ → Formula) (i : ℕ) → ((c : ℕ) → i < c → c < node_count qs → positive (f c) ≡ true) → (k : Kind) →
      positive_kind k ≡ true → NodeBy n ars qs i k → positive (formula_by ars qs f i k) ≡ true
  unfolding positive
  positive-by f i h row_stands e p = refl
  positive-by f i h equals e p = refl
  positive-by f i h negates e p = false_not_true e
  positive-by f i h (joins j) e p = and_intro (h _ p.0.0 p.0.1) (h _ p.1.0 p.1.1)
  positive-by f i h (ranges conj) e p = false_not_true e
  positive-by f i h (ranges disj) e p = h _ p.1.0 p.1.1
  positive-by f i h no_such_kind e p = absurd p

  pub plain_positive : 0 < node_count qs → positive (formula_of ars qs) ≡ true
  plain_positive some =
      at_top ars qs (λ i f. positive f ≡ true)
      (λ f i l h. positive-by f i h (kind_of (word_at qs i 0)) (node_plain i l) (well_formed i l)) some
