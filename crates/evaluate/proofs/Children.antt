-- The right answer for a node, from the answers for its children. Assumes nothing.
use Prim.Native.Nat.{ℕ, zero, suc, ◌+◌, ◌-◌, ◌≤◌, ◌<◌}
use mathlib.Core.Path.{◌≡◌, refl, sym, ap, ◌∙◌, subst}
use mathlib.Core.Bool.{true, false}
use mathlib.Core.List.{List, [], ◌∷◌}
use native.Mathlib.Nat.{zero-add}
use native.Mathlib.Omega.{arith}
use lib.ListN.{length, get_or, set, get_or-eq_default}
use lib.Seq.{set-set, set-get_or}
use Rattle.calculus.specs.declared.truth.Truth.{Truth}
use Rattle.calculus.specs.Kleene.{Junction, join, unit, negate}
use Rattle.calculus.specs.Formula.{Formula, value, values}
use Rattle.calculus.specs.Eval.{Outcome, Structure, settles, joined, over, eval}
use Rattle.calculus.specs.Closed.{tuples}
use Rattle.instance.specs.Header.{arity_of, max_relations, max_columns}
use Rattle.calculus.proofs.Kleene.{join_comm}
use Rattle.instance.proofs.Rows.{headed}
use Rattle.query.specs.Check.{is_term}
use Rattle.instance.specs.InstanceWellFormed.{InstanceOf}
use Rattle.instance.specs.Rows.{rows_from}
use Rattle.known.specs.declared.Known.{Known}
use Rattle.known.specs.Known.{count_in}
use Rattle.query.specs.Words.{Kind, kinds, row_stands, equals, no_such_kind, negates, joins, ranges, kind_of, word_at, node_count}
use Rattle.query.specs.Tree.{formula_by, formula_at, term_of, terms_at}
use Rattle.query.specs.Passed.{NodeBy}
use Rattle.evaluate.specs.declared.evaluated.Evaluated.{Evaluated}
use Rattle.evaluate.specs.declared.evaluated.Evaluated.TheVariants.{Verdict, Spent}
use Rattle.evaluate.specs.Within.{within}
use Rattle.evaluate.specs.Ready.{Ready, outcome_at, RightIn}
use Rattle.evaluate.proofs.Budget.{spent, verdict, was_spent, was_verdict}
use Rattle.evaluate.proofs.Steps.{sofar, unit_left, join-same, join_assoc, over-start, start, next-spent, next_low, next_settled, next_more, end, last_spent, last_verdict}

-- there are no kinds but 1 to 7
pub no_kind : (w : ℕ) → (1 ≤ w → 8 ≤ w) → kind_of w ≡ no_such_kind
unfolding kind_of
no_kind zero h = refl
no_kind (suc w) h = get_or-eq_default kinds no_such_kind (h (omega arith))

-- what a well-formed node says of its children, by its kind
pub well_formed_by :
    (ars ws qs : List ℕ) (table : Known) (i : ℕ) (kind : Kind) (r : Ready ars ws qs table) → i < node_count qs → kind_of (word_at qs i 0) ≡ kind →
    NodeBy r.given.relations ars qs i kind
well_formed_by ars ws qs table i kind r known is = subst (NodeBy r.given.relations ars qs i) is (r.nodes i known)

-- what an atom's node says: its relation, the number of rows of that relation, and its arity
pub record AtomWellFormed (ars ws qs : List ℕ) (table : Known) (i : ℕ) : Type 0 where
  pub given : InstanceOf ars ws
  pub relation : word_at qs i 1 < given.relations
  pub eight : word_at qs i 1 < max_relations
  pub counted : count_in table (word_at qs i 1) ≡ length (tuples (word_at qs i 1) (rows_from ars 0 ws))
  pub narrow : arity_of ars (word_at qs i 1) ≤ max_columns
  pub terms : (j : ℕ) → j < arity_of ars (word_at qs i 1) → is_term (word_at qs i (2 + j)) ≡ true

pub atom-well-formed :
    (ars ws qs : List ℕ) (table : Known) (i : ℕ) → Ready ars ws qs table → i < node_count qs → kind_of (word_at qs i 0) ≡ row_stands → AtomWellFormed ars ws qs table i
atom-well-formed ars ws qs table i r known is =
    let by = well_formed_by ars ws qs table i row_stands r known is in
    let head = headed r.given.relations ars r.given.well_formed.header in
    record {
      given = r.given;
      relation = by.0;
      eight = omega (arith, by.0, head.few);
      counted = r.counted (word_at qs i 1) by.0;
      narrow = (head.columns (word_at qs i 1) by.0).1;
      terms = by.1;
    }

-- ---- the invariant of a walk over values

-- the child's outcome for a value
abbrev pub one : Structure → List ℕ → List ℕ → ℕ → List ℕ → ℕ → ℕ → Outcome
one S ars qs i e k c = outcome_at S ars qs k (word_at qs i 2) (set e (word_at qs i 1) c)

-- t is the verdict so far and n its cost; the values `rest` are left
pub record Walking (S : Structure) (ars qs : List ℕ) (i : ℕ) (j : Junction) (e : List ℕ) (b : ℕ) (t : Truth) (n : ℕ) (rest : List ℕ) : Type 0 where
  pub low : n ≤ b
  pub said : join j t (S.start j) ≡ t
  pub left :
      (k : ℕ) → node_count qs ≤ i + suc k →
      within b (over (S.start j) j (one S ars qs i e k) S.range) ≡ within b (sofar j t n (over (S.start j) j (one S ars qs i e k) rest))

-- an assignment that differs from e only in variable v, which has the value old in e
pub set_again : (e env : List ℕ) (v old c : ℕ) → set env v old ≡ e → set env v c ≡ set e v c
set_again e env v old c back = sym (set-set env v old c) ∙ ap (λ (l : List ℕ). set l v c) back

pub set_back : (e env : List ℕ) (v old c : ℕ) → set env v old ≡ e → old ≡ get_or e v 0 → set (set e v c) v old ≡ e
set_back e env v old c back is = set-set e v c old ∙ ap (set e v) is ∙ set-get_or e v 0

module _ (S : Structure) (ars qs : List ℕ) (i : ℕ) (known : i < node_count qs) where
  -- the formula of a node whose kind is known
  by_kind : (kind : Kind) → kind_of (word_at qs i 0) ≡ kind → (k : ℕ) → formula_at ars qs (suc k) i ≡ formula_by ars qs (formula_at ars qs k) i kind
  unfolding formula_at
  by_kind kind e k = ap (formula_by ars qs (formula_at ars qs k) i) e

  outcome_by_lem : (kind : Kind) → kind_of (word_at qs i 0) ≡ kind → (k : ℕ) (e : List ℕ) → outcome_at S ars qs (suc k) i e ≡ eval S (formula_by ars qs (formula_at ars qs k) i kind) e
  outcome_by_lem kind h k e = ap (λ (f : Formula). eval S f e) (by_kind kind h k)

  -- a node has at least one node left, and its children, whose numbers are greater, have one fewer
  right_of : (e : List ℕ) (b : ℕ) (r : Evaluated) → ((k : ℕ) → node_count qs ≤ i + suc k → r ≡ within b (outcome_at S ars qs (suc k) i e)) → RightIn S ars qs i e b r
  right_of e b r f k h =
      let one : k ≡ suc (k - 1) = omega arith in
      subst (λ (x : ℕ). r ≡ within b (outcome_at S ars qs x i e)) (sym one) (f (k - 1) (omega arith))

  -- a node without children: its outcome does not depend on the number of nodes left
  leaf_right : (e : List ℕ) (b : ℕ) (o : Outcome) → ((k : ℕ) → outcome_at S ars qs (suc k) i e ≡ o) → RightIn S ars qs i e b (within b o)
  leaf_right e b o f = right_of e b (within b o) (λ k h. ap (within b) (sym (f k)))

  -- "Kind 2 .. costs 1"
  pub equal-right : kind_of (word_at qs i 0) ≡ equals → (e : List ℕ) (b : ℕ) →
      RightIn S ars qs i e b (within b (record { truth = S.equals (value e (term_of (word_at qs i 1))) (value e (term_of (word_at qs i 2))); cost = 1 }))
  unfolding eval
  equal-right is e b = leaf_right e b _ (λ k. outcome_by_lem equals is k e)

  -- the outcome of an atom is the structure's
  pub atom-right : kind_of (word_at qs i 0) ≡ row_stands → (e : List ℕ) (b : ℕ) →
      RightIn S ars qs i e b
      (within b (S.holds (word_at qs i 1) (values e (terms_at qs i 2 (arity_of ars (word_at qs i 1))))))
  unfolding eval
  atom-right is e b = leaf_right e b _ (λ k. outcome_by_lem row_stands is k e)

  module _ (is : kind_of (word_at qs i 0) ≡ negates) (above : i < word_at qs i 1) (e : List ℕ) (b : ℕ) where
    pub negated_spent : RightIn S ars qs (word_at qs i 1) e b Spent → RightIn S ars qs i e b Spent
    unfolding eval
    negated_spent r = right_of e b Spent (λ k h.
        let o = outcome_at S ars qs k (word_at qs i 1) e in
        sym (ap (within b) (outcome_by_lem negates is k e) ∙ spent b (record { truth = negate o.truth; cost = o.cost }) (was_spent b o (sym (r k (omega arith))))))

    pub negated_verdict : (t : Truth) (n : ℕ) → RightIn S ars qs (word_at qs i 1) e b (Verdict t n) → RightIn S ars qs i e b (Verdict (negate t) n)
    unfolding eval
    negated_verdict t n r = right_of e b (Verdict (negate t) n) (λ k h.
        let o = outcome_at S ars qs k (word_at qs i 1) e in
        let w = was_verdict b o t n (sym (r k (omega arith))) in
        sym (ap (within b) (outcome_by_lem negates is k e) ∙ verdict b (record { truth = negate o.truth; cost = o.cost }) (omega (arith, w.cost, w.fits)) ∙
        rw (w.truth, w.cost) refl))

  -- a verdict costs no more than its budget
  pub right-low : (e : List ℕ) (b : ℕ) (t : Truth) (n : ℕ) → RightIn S ars qs i e b (Verdict t n) → n ≤ b
  right-low e b t n r = (was_verdict b _ t n (sym (r (node_count qs) (omega arith)))).fits

  -- ---- two children

  module _ (j : Junction) (is : kind_of (word_at qs i 0) ≡ joins j) (left : i < word_at qs i 1) (right : i < word_at qs i 2) (e : List ℕ) (b : ℕ) where
    pair : (k : ℕ) → Outcome
    pair k = joined j (outcome_at S ars qs k (word_at qs i 1) e) (outcome_at S ars qs k (word_at qs i 2) e)

    -- the node's outcome is the pair's, with no verdict and no cost before it
    pair_is : (k : ℕ) → outcome_at S ars qs (suc k) i e ≡ sofar j (unit j) 0 (pair k)
    unfolding eval pair
    pair_is k = outcome_by_lem (joins j) is k e ∙ sym (start j (pair k))

    whole : (n : ℕ) → b - 0 ≡ b
    whole n = omega arith

    pair_right : (r : Evaluated) → ((k : ℕ) → node_count qs ≤ i + suc k → within b (sofar j (unit j) 0 (pair k)) ≡ r) → RightIn S ars qs i e b r
    pair_right r f = right_of e b r (λ k h. sym (ap (within b) (pair_is k) ∙ f k h))

    pub both_left-spent : RightIn S ars qs (word_at qs i 1) e b Spent → RightIn S ars qs i e b Spent
    unfolding pair
    both_left-spent r = pair_right Spent (λ k h.
        next-spent j b (unit j) 0 (omega arith) _ _ (rw (whole 0) (sym (r k (omega arith)))))

    module _ (a : Truth) (n : ℕ) (r : RightIn S ars qs (word_at qs i 1) e b (Verdict a n)) where
      first : (k : ℕ) → node_count qs ≤ i + suc k → within (b - 0) (outcome_at S ars qs k (word_at qs i 1) e) ≡ Verdict a n
      first k h = rw (whole 0) (sym (r k (omega arith)))

      nothing_before : Verdict (join j (unit j) a) (0 + n) ≡ Verdict a n
      nothing_before = ap (λ (t : Truth). Verdict t (0 + n)) (unit_left j a) ∙ ap (Verdict a) (zero-add n)

      pub both_settled : settles j a ≡ true → RightIn S ars qs i e b (Verdict a n)
      unfolding pair
      both_settled s = pair_right (Verdict a n) (λ k h.
          next_settled j b (unit j) 0 (omega arith) _ _ a n (first k h) s ∙ nothing_before)

      pub both_low : n ≤ b
      both_low = (was_verdict b _ a n (sym (r (node_count qs) (omega arith)))).fits

      module _ (more : settles j a ≡ false) where
        -- the left child has its verdict and cost, and the right child is left
        then : (k : ℕ) → node_count qs ≤ i + suc k → sofar j (unit j) 0 (pair k) ≡ sofar j a n (outcome_at S ars qs k (word_at qs i 2) e)
        unfolding pair
        then k h =
            let o = outcome_at S ars qs k (word_at qs i 2) e in
            next_more j b (unit j) 0 (omega arith) _ o a n (first k h) more ∙
            ap (λ (t : Truth). sofar j t (0 + n) o) (unit_left j a) ∙ ap (λ (m : ℕ). sofar j a m o) (zero-add n)

        pub both_right-spent : RightIn S ars qs (word_at qs i 2) e (b - n) Spent → RightIn S ars qs i e b Spent
        unfolding pair
        both_right-spent q = pair_right Spent (λ k h.
            ap (within b) (then k h) ∙ last_spent j b a n both_low _ (sym (q k (omega arith))))

        pub both_verdict : (c : Truth) (m : ℕ) → RightIn S ars qs (word_at qs i 2) e (b - n) (Verdict c m) → RightIn S ars qs i e b (Verdict (join j a c) (n + m))
        unfolding pair
        both_verdict c m q = pair_right (Verdict (join j a c) (n + m)) (λ k h.
            ap (within b) (then k h) ∙ last_verdict j b a n both_low _ c m (sym (q k (omega arith))))

  -- ---- a walk over values

  module _ (j : Junction) (is : kind_of (word_at qs i 0) ≡ ranges j) (above : i < word_at qs i 2) (e : List ℕ) (b : ℕ) where
    ranged : (k : ℕ) → outcome_at S ars qs (suc k) i e ≡ over (S.start j) j (one S ars qs i e k) S.range
    unfolding eval
    ranged k = outcome_by_lem (ranges j) is k e

    pub walk_starts : (rest : List ℕ) → rest ≡ S.range → Walking S ars qs i j e b (S.start j) 0 rest
    walk_starts rest all = record {
      low = omega arith;
      said = join-same j (S.start j);
      left = λ k h. ap (within b) (sym (over-start (S.start j) j (one S ars qs i e k) S.range) ∙ ap (λ (l : List ℕ). sofar j (S.start j) 0 (over (S.start j) j (one S ars qs i e k) l)) (sym all));
    }

    walk_right : (r : Evaluated) → ((k : ℕ) → node_count qs ≤ i + suc k → within b (over (S.start j) j (one S ars qs i e k) S.range) ≡ r) → RightIn S ars qs i e b r
    walk_right r f = right_of e b r (λ k h. sym (ap (within b) (ranged k) ∙ f k h))

    module _ (t : Truth) (n : ℕ) (rest : List ℕ) (w : Walking S ars qs i j e b t n rest) where
      -- what is passed over says nothing
      pub walk_passes : (more : List ℕ) → rest ≡ more → Walking S ars qs i j e b t n more
      walk_passes more same = subst (Walking S ars qs i j e b t n) same w

      pub walk_ends : rest ≡ [] → RightIn S ars qs i e b (Verdict t n)
      walk_ends none = walk_right (Verdict t n) (λ k h.
          w.left k h ∙ ap (λ (l : List ℕ). within b (sofar j t n (over (S.start j) j (one S ars qs i e k) l))) none ∙ end j b t (S.start j) n w.said w.low)

      module _ (c : ℕ) (more : List ℕ) (next : rest ≡ c ∷ more) where
        next-value : (k : ℕ) → node_count qs ≤ i + suc k →
            within b (over (S.start j) j (one S ars qs i e k) S.range) ≡ within b (sofar j t n (joined j (one S ars qs i e k c) (over (S.start j) j (one S ars qs i e k) more)))
        next-value k h = w.left k h ∙ ap (λ (l : List ℕ). within b (sofar j t n (over (S.start j) j (one S ars qs i e k) l))) next

        pub walk_spent : RightIn S ars qs (word_at qs i 2) (set e (word_at qs i 1) c) (b - n) Spent → RightIn S ars qs i e b Spent
        walk_spent r = walk_right Spent (λ k h.
            next-value k h ∙ next-spent j b t n w.low (one S ars qs i e k c) (over (S.start j) j (one S ars qs i e k) more) (sym (r k (omega arith))))

        module _ (a : Truth) (m : ℕ) (r : RightIn S ars qs (word_at qs i 2) (set e (word_at qs i 1) c) (b - n) (Verdict a m)) where
          pub walk_settled : settles j a ≡ true → RightIn S ars qs i e b (Verdict (join j t a) (n + m))
          walk_settled s = walk_right (Verdict (join j t a) (n + m)) (λ k h.
              next-value k h ∙ next_settled j b t n w.low (one S ars qs i e k c) (over (S.start j) j (one S ars qs i e k) more) a m (sym (r k (omega arith))) s)

          pub walk_more : settles j a ≡ false → Walking S ars qs i j e b (join j t a) (n + m) more
          walk_more s = record {
            low = next_low j b t n w.low (one S ars qs i e (node_count qs) c) (over (S.start j) j (one S ars qs i e (node_count qs)) []) a m (sym (r (node_count qs) (omega arith)));
            said = sym (join_assoc j t a (S.start j)) ∙ ap (join j t) (join_comm j a (S.start j)) ∙ join_assoc j t (S.start j) a ∙ ap (λ (u : Truth). join j u a) w.said;
            left = λ k h.
                next-value k h ∙
                ap (within b) (next_more j b t n w.low (one S ars qs i e k c) (over (S.start j) j (one S ars qs i e k) more) a m (sym (r k (omega arith))) s);
          }
