-- Without nulls there is no unknown: the truth value is what two-valued logic says. Assumes nothing.
use Prim.Native.Nat.{ℕ}
use mathlib.Core.Path.{◌≡◌, refl, sym, ap, ◌∙◌}
use mathlib.Core.Bool.{Bool, true, false, not, cond}
use mathlib.Core.List.{List, [], ◌∷◌}
use lib.ListN.{set}
use lib.Dec.{eqb}
use Rattle.calculus.specs.declared.truth.Truth.{Truth}
use Rattle.calculus.specs.declared.truth.Truth.TheVariants.{False, Unknown, True}
use Rattle.calculus.specs.Cell.{is_constant, all_constant}
use Rattle.calculus.specs.Row.{Row, cells_of}
use Rattle.calculus.specs.Kleene.{Junction, conj, disj, join, unit, negate}
use Rattle.calculus.specs.Formula.{Formula, atom, equal, negation, junction, quantified, value, values, term_passes, constants_pass, inked}
use Rattle.calculus.specs.Eval.{Outcome, over, eval}
use Rattle.calculus.specs.Unify.{under, unifies}
use Rattle.calculus.specs.Closed.{tuples, some, identical, stands, equality, closed_over}
use Rattle.calculus.specs.TwoValued.{join_b, over_b, says}
use Rattle.calculus.specs.Order.{of_bool}
use Rattle.calculus.proofs.Bools.{false_not_true, and_parts, and_intro}
use Rattle.calculus.proofs.Valuations.{under_keeps}
use Rattle.calculus.proofs.Unification.{unifies_agrees}
use Rattle.calculus.proofs.Tuples.{or_mono, identical_refl, tuples-pass}
use Rattle.calculus.proofs.Constants.{fixes_all, constant-value, constant-values}
use Rattle.calculus.specs.All.{all}
use Rattle.calculus.proofs.All.{all_set, all_parts}

negate_bool : (b : Bool) → negate (of_bool b) ≡ of_bool (not b)
negate_bool true = refl
negate_bool false = refl

join_bool : (j : Junction) (a b : Bool) → join j (of_bool a) (of_bool b) ≡ of_bool (join_b j a b)
join_bool conj true true = refl
join_bool conj true false = refl
join_bool conj false true = refl
join_bool conj false false = refl
join_bool disj true true = refl
join_bool disj true false = refl
join_bool disj false true = refl
join_bool disj false false = refl

-- lists of constants unify only if they are identical
constants-unify : (xs ys : List ℕ) → all_constant xs ≡ true → all_constant ys ≡ true → unifies xs ys ≡ true → identical xs ys ≡ true
constants-unify xs ys p q e =
    let u = (unifies_agrees xs ys).0 e in
    let v = u.valuation in
    let fixed = fixes_all is_constant (under v) (under_keeps v) in
    let same : xs ≡ ys = sym (fixed xs p) ∙ u.equal ∙ fixed ys q in
    rw (← same) (identical_refl xs)

only-identical :
    (row : List ℕ) (ts : List (List ℕ)) → all_constant row ≡ true → all all_constant ts ≡ true → some (unifies row) ts ≡ true →
    some (identical row) ts ≡ true
unfolding some
only-identical row [] known each e = e
only-identical row (t ∷ ts) known each e =
    let b = all_parts all_constant t ts each in
    or_mono (unifies row t) (some (unifies row) ts) (identical row t) (some (identical row) ts)
    (constants-unify row t known b.0) (only-identical row ts known b.1) e

stands_bool : (row : List ℕ) (ts : List (List ℕ)) → all_constant row ≡ true → all all_constant ts ≡ true → stands ts row ≡ of_bool (some (identical row) ts)
unfolding stands
stands_bool row ts known each = go (some (identical row) ts) (some (unifies row) ts) (only-identical row ts known each)
  where
    go : (a b : Bool) → (b ≡ true → a ≡ true) → cond a True (cond b Unknown False) ≡ of_bool a
    go true b f = refl
    go false true f = false_not_true (f refl)
    go false false f = refl

pub equality_bool : (a b : ℕ) → is_constant a ≡ true → is_constant b ≡ true → equality a b ≡ of_bool (eqb a b)
unfolding equality
equality_bool a b p q = rw (and_intro p q) (go (eqb a b))
  where
    go : (t : Bool) → cond t True False ≡ of_bool t
    go true = refl
    go false = refl

over-bool :
    (j : Junction) (f : ℕ → Outcome) (g : ℕ → Bool) (cs : List ℕ) → all_constant cs ≡ true →
    ((c : ℕ) → is_constant c ≡ true → (f c).truth ≡ of_bool (g c)) →
    (over (unit j) j f cs).truth ≡ of_bool (over_b j g cs)
unfolding all
over-bool conj f g [] k each = refl
over-bool disj f g [] k each = refl
over-bool j f g (c ∷ cs) k each =
    let b = and_parts (is_constant c) (all_constant cs) k in
    ap (λ (t : Truth). join j t (over (unit j) j f cs).truth) (each c b.0) ∙
    ap (λ (t : Truth). join j (of_bool (g c)) t) (over-bool j f g cs b.1 each) ∙
    join_bool j (g c) (over_b j g cs)

module _ (range : List ℕ) (known-range : all_constant range ≡ true)
    (rs : List Row) (constant-cells : all_constant (cells_of rs) ≡ true) where
  -- the verdict is true exactly if two-valued logic says yes, and false exactly if it says no
  pub two_valued :
      (f : Formula) → inked f ≡ true → (e : List ℕ) → all_constant e ≡ true →
      (eval (closed_over range rs) f e).truth ≡ of_bool (says range rs f e)
  unfolding eval says constants_pass
  two_valued (atom r ts) k e known =
      stands_bool (values e ts) (tuples r rs) (constant-values e known ts k)
      (tuples-pass is_constant r rs constant-cells)
  two_valued (equal s t) k e known =
      let b = and_parts (term_passes is_constant s) (term_passes is_constant t) k in
      equality_bool (value e s) (value e t) (constant-value e known s b.0) (constant-value e known t b.1)
  two_valued (negation f) k e known = ap negate (two_valued f k e known) ∙ negate_bool (says range rs f e)
  two_valued (junction j f g) k e known =
      let b = and_parts (inked f) (inked g) k in
      ap (λ (t : Truth). join j t (eval (closed_over range rs) g e).truth) (two_valued f b.0 e known) ∙
      ap (λ (t : Truth). join j (of_bool (says range rs f e)) t) (two_valued g b.1 e known) ∙
      join_bool j (says range rs f e) (says range rs g e)
  two_valued (quantified j v f) k e known =
      over-bool j (λ c. eval (closed_over range rs) f (set e v c)) (λ c. says range rs f (set e v c)) range known-range
      (λ c m. two_valued f k (set e v c) (all_set is_constant e v c known m))
