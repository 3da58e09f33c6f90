-- Naive evaluation: a positive formula is true exactly if two-valued logic says yes where each null is taken for a
-- value of its own. Assumes nothing.
use Prim.Native.Nat.{ℕ}
use mathlib.Core.Path.{◌≡◌, refl, sym, ap, ap₂, ◌∙◌}
use mathlib.Core.Bool.{Bool, true, false, ◌&&◌, cond, beq}
use mathlib.Core.Logic.{◌↔◌}
use mathlib.Core.List.{List, [], ◌∷◌}
use lib.Dec.{eqb}
use lib.ListN.{set}
use Rattle.calculus.specs.declared.truth.Truth.{Truth}
use Rattle.calculus.specs.declared.truth.Truth.TheVariants.{False, Unknown, True}
use Rattle.calculus.specs.Cell.{is_constant}
use Rattle.calculus.specs.Row.{Row}
use Rattle.calculus.specs.Kleene.{Junction, conj, disj, join, unit}
use Rattle.calculus.specs.Formula.{Formula, atom, equal, negation, junction, quantified, value, values}
use Rattle.calculus.specs.Unify.{unifies}
use Rattle.calculus.specs.Eval.{Outcome, over, eval}
use Rattle.calculus.specs.Closed.{tuples, some, identical, stands, equality, closed_over}
use Rattle.calculus.specs.TwoValued.{join_b, over_b, says}
use Rattle.calculus.proofs.Bools.{false_not_true, and_parts, beq_is}
use Rattle.calculus.proofs.Kleene.{tested, every}
use Rattle.plain.proofs.Positive.{positive}

-- ---- whether a truth value is true

abbrev is_truth : Truth → Bool
is_truth False = false
is_truth Unknown = false
is_truth True = true

is_true : (t : Truth) → t ≡ True ↔ is_truth t ≡ true
is_true True = ((λ e. refl), (λ e. refl))
is_true Unknown = ((λ e. ap is_truth e), (λ e. false_not_true e))
is_true False = ((λ e. ap is_truth e), (λ e. false_not_true e))

join_true : (j : Junction) (a b : Truth) → is_truth (join j a b) ≡ join_b j (is_truth a) (is_truth b)
unfolding tested
join_true j a b =
    beq_is (is_truth (join j a b)) (join_b j (is_truth a) (is_truth b))
    (every (λ j a b c. beq (is_truth (join j a b)) (join_b j (is_truth a) (is_truth b))) (tt, tt) j a b b)

over-true :
    (j : Junction) (f : ℕ → Outcome) (g : ℕ → Bool) → ((c : ℕ) → is_truth (f c).truth ≡ g c) → (cs : List ℕ) →
    is_truth (over (unit j) j f cs).truth ≡ over_b j g cs
over-true conj f g each [] = refl
over-true disj f g each [] = refl
over-true j f g each (c ∷ cs) =
    join_true j (f c).truth (over (unit j) j f cs).truth ∙ ap₂ (join_b j) (each c) (over-true j f g each cs)

-- kinds 1 and 2 are true by their first test alone
first_test : (a b : Bool) (t u : Truth) → is_truth t ≡ false → is_truth u ≡ false → is_truth (cond a True (cond b t u)) ≡ a
first_test true b t u p q = refl
first_test false true t u p q = p
first_test false false t u p q = q

stands-says : (ts : List (List ℕ)) (row : List ℕ) → is_truth (stands ts row) ≡ some (identical row) ts
unfolding stands
stands-says ts row = first_test (some (identical row) ts) (some (unifies row) ts) Unknown False refl refl

equality-says : (a b : ℕ) → is_truth (equality a b) ≡ eqb a b
unfolding equality
equality-says a b = first_test (eqb a b) (is_constant a && is_constant b) False Unknown refl refl

-- ---- the theorem

module _ (range : List ℕ) (rs : List Row) where
  says-true :
      (f : Formula) → positive f ≡ true → (e : List ℕ) →
      is_truth (eval (closed_over range rs) f e).truth ≡ says range rs f e
  unfolding eval says positive
  says-true (atom r ts) p e = stands-says (tuples r rs) (values e ts)
  says-true (equal s t) p e = equality-says (value e s) (value e t)
  says-true (negation f) p e = false_not_true p
  says-true (junction j f g) p e =
      let b = and_parts (positive f) (positive g) p in
      join_true j (eval (closed_over range rs) f e).truth (eval (closed_over range rs) g e).truth ∙
      ap₂ (join_b j) (says-true f b.0 e) (says-true g b.1 e)
  says-true (quantified conj v f) p e = false_not_true p
  says-true (quantified disj v f) p e =
      over-true disj (λ c. eval (closed_over range rs) f (set e v c)) (λ c. says range rs f (set e v c))
      (λ c. says-true f p (set e v c)) range

  pub naive :
      (f : Formula) → positive f ≡ true → (e : List ℕ) →
      (eval (closed_over range rs) f e).truth ≡ True ↔ says range rs f e ≡ true
  naive f p e =
      let t = is_true (eval (closed_over range rs) f e).truth in
      let same = says-true f p e in
      ((λ k. sym same ∙ t.0 k), (λ y. t.1 (same ∙ y)))
