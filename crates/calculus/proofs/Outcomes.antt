-- The order of outcomes: one says at least what another says, and costs no more. Junctions and quantifiers keep it. Assumes nothing.
use Prim.Native.Nat.{ℕ, ◌+◌, ◌≤◌}
use native.Mathlib.Nat.{le_refl, le_trans, add-le-add}
use native.Mathlib.Omega.{arith}
use mathlib.Core.List.{List, [], ◌∷◌, map}
use mathlib.Core.Path.{◌≡◌, refl, sym, ap, ◌∙◌, subst}
use mathlib.Core.Bool.{Bool, true, false, cond}
use lib.Dec.{eqb, eqb→eq, T}
use Rattle.calculus.specs.declared.truth.Truth.{Truth}
use Rattle.calculus.specs.declared.truth.Truth.TheVariants.{False, Unknown, True}
use Rattle.calculus.specs.Kleene.{Junction, conj, disj, join}
use Rattle.calculus.specs.Eval.{Outcome, settles, right_cost, joined, over}
use Rattle.calculus.specs.Domain.{without, distinct}
use Rattle.calculus.specs.Order.{◌⊑◌, unknown, alike, ◌⊑ₒ◌}
use Rattle.calculus.proofs.Bools.{false_not_true}
use Rattle.calculus.proofs.Kleene.{⊑_trans, join_mono, join_idem, join_swap}

pub ⊑ₒ-refl : (o : Outcome) → o ⊑ₒ o
⊑ₒ-refl o = record { truth = alike; cost = le_refl _ }

pub ⊑ₒ-trans : {o p q : Outcome} → o ⊑ₒ p → p ⊑ₒ q → o ⊑ₒ q
⊑ₒ-trans h k = record { truth = ⊑_trans h.truth k.truth; cost = le_trans k.cost h.cost }

-- a truth value that settles a junction is the junction's value, whatever the other side says
pub settled : (j : Junction) (a t : Truth) → settles j a ≡ true → join j a t ≡ a
settled conj False False e = refl
settled conj False Unknown e = refl
settled conj False True e = refl
settled conj Unknown t e = false_not_true e
settled conj True t e = false_not_true e
settled disj True False e = refl
settled disj True Unknown e = refl
settled disj True True e = refl
settled disj Unknown t e = false_not_true e
settled disj False t e = false_not_true e

asked_le : (j : Junction) (t : Truth) (n : ℕ) → right_cost j t n ≤ n
asked_le conj False n = omega arith
asked_le conj Unknown n = le_refl n
asked_le conj True n = le_refl n
asked_le disj False n = le_refl n
asked_le disj Unknown n = le_refl n
asked_le disj True n = omega arith

asked-unknown : (j : Junction) (n : ℕ) → n ≤ right_cost j Unknown n
asked-unknown conj n = le_refl n
asked-unknown disj n = le_refl n

-- costs keep their order if the same test may leave both out
when_mono : (b : Bool) {m n : ℕ} → m ≤ n → cond b 0 m ≤ cond b 0 n
when_mono true h = le_refl 0
when_mono false h = h

asked_mono : (j : Junction) {t u : Truth} {m n : ℕ} → t ⊑ u → m ≤ n → right_cost j u m ≤ right_cost j t n
asked_mono j {t} {u} {m} {n} unknown h = le_trans (asked_le j u m) (le_trans h (asked-unknown j n))
asked_mono j {t} alike h = when_mono (settles j t) h

pub joined_mono : (j : Junction) {o p o' p' : Outcome} → o ⊑ₒ o' → p ⊑ₒ p' → joined j o p ⊑ₒ joined j o' p'
joined_mono j h k =
    record { truth = join_mono j h.truth k.truth; cost = add-le-add h.cost (asked_mono j h.truth k.cost) }

pub over-mono :
    (j : Junction) {s t : Truth} → s ⊑ t → (f g : ℕ → Outcome) (h : ℕ → ℕ) →
    ((c : ℕ) → f c ⊑ₒ g (h c)) →
    (cs : List ℕ) → over s j f cs ⊑ₒ over t j g (map h cs)
over-mono j k f g h each [] = record { truth = k; cost = le_refl 0 }
over-mono j k f g h each (c ∷ cs) = joined_mono j (each c) (over-mono j k f g h each cs)

-- A value that was asked before may be left out: it says nothing new, and leaving it out costs no more.
when_again : (b : Bool) (m n : ℕ) → cond b 0 n ≤ cond b 0 (m + cond b 0 n)
when_again true m n = le_refl 0
when_again false m n = omega arith

when_under : (b d : Bool) (a m n : ℕ) → cond b 0 m ≤ cond b 0 n → cond b 0 (a + cond d 0 m) ≤ cond b 0 (a + cond d 0 n)
when_under true d a m n h = le_refl 0
when_under false d a m n h = add-le-add (le_refl a) (when_mono d h)

module _ (s : Truth) (j : Junction) (f : ℕ → Outcome) where
  record Again (t : Truth) (p q : Outcome) : Type 0 where
    says : join j t q.truth ≡ join j t p.truth
    pays : right_cost j t q.cost ≤ right_cost j t p.cost

  again-keep :
      (x c : ℕ) (b : Bool) → (T b → c ≡ x) → (cs rest : List ℕ) →
      Again (f x).truth (over s j f cs) (over s j f rest) →
      Again (f x).truth (over s j f (c ∷ cs)) (over s j f (cond b rest (c ∷ rest)))
  again-keep x c true e cs rest r =
      subst (λ (y : ℕ). Again (f x).truth (joined j (f y) (over s j f cs)) (over s j f rest)) (sym (e tt))
      (record {
        says = r.says ∙ sym (join_idem j (f x).truth (over s j f cs).truth);
        pays = le_trans r.pays (when_again (settles j (f x).truth) (f x).cost (over s j f cs).cost);
      })
  again-keep x c false e cs rest r = record {
    says =
        join_swap j (f x).truth (f c).truth (over s j f rest).truth ∙
        ap (join j (f c).truth) r.says ∙
        join_swap j (f c).truth (f x).truth (over s j f cs).truth;
    pays = when_under (settles j (f x).truth) (settles j (f c).truth) (f c).cost (over s j f rest).cost (over s j f cs).cost r.pays;
  }

  again : (x : ℕ) (cs : List ℕ) → Again (f x).truth (over s j f cs) (over s j f (without x cs))
  unfolding without
  again x [] = record { says = refl; pays = le_refl _ }
  again x (c ∷ cs) = again-keep x c (eqb c x) (eqb→eq c x) cs (without x cs) (again x cs)

  pub over-distinct : (cs : List ℕ) → over s j f cs ⊑ₒ over s j f (distinct cs)
  unfolding distinct
  over-distinct [] = ⊑ₒ-refl _
  over-distinct (c ∷ cs) =
      let r = again c (distinct cs) in
      ⊑ₒ-trans (joined_mono j (⊑ₒ-refl (f c)) (over-distinct cs))
      (record {
        truth = subst (λ (t : Truth). join j (f c).truth (over s j f (distinct cs)).truth ⊑ t) (sym r.says) alike;
        cost = add-le-add (le_refl _) r.pays;
      })
