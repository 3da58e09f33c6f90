-- Evaluating one thing after another within a budget: the verdict and cost so far, and what the next answer adds. A junction is a walk over two
-- values, so the same laws serve it. Assumes nothing.
use Prim.Native.Nat.{ℕ, ◌+◌, ◌-◌, ◌≤◌}
use mathlib.Core.Path.{◌≡◌, refl, ap, ◌∙◌}
use mathlib.Core.Bool.{Bool, true, false, cond}
use mathlib.Core.List.{List, [], ◌∷◌}
use native.Mathlib.Nat.{zero-add}
use native.Mathlib.Omega.{arith}
use Rattle.calculus.specs.declared.truth.Truth.{Truth}
use Rattle.calculus.specs.declared.truth.Truth.TheVariants.{False, Unknown, True}
use Rattle.calculus.specs.Kleene.{Junction, conj, disj, join, unit}
use Rattle.calculus.proofs.Outcomes.{settled}
use Rattle.calculus.specs.Eval.{Outcome, settles, right_cost, joined, over}
use Rattle.calculus.proofs.Kleene.{join_comm, join_swap}
use Rattle.evaluate.specs.declared.evaluated.Evaluated.TheVariants.{Verdict, Spent}
use Rattle.evaluate.specs.Within.{within}
use Rattle.evaluate.proofs.Budget.{spent, verdict, was_spent, was_verdict}

-- the verdict and the cost so far, with outcome o added
abbrev pub sofar : Junction → Truth → ℕ → Outcome → Outcome
sofar j t n o = record { truth = join j t o.truth; cost = n + o.cost }

pub unit_left : (j : Junction) (t : Truth) → join j (unit j) t ≡ t
unit_left conj False = refl
unit_left conj Unknown = refl
unit_left conj True = refl
unit_left disj False = refl
unit_left disj Unknown = refl
unit_left disj True = refl

pub join_assoc : (j : Junction) (a b c : Truth) → join j a (join j b c) ≡ join j (join j a b) c
join_assoc j a b c =
    ap (join j a) (join_comm j b c) ∙ join_swap j a c b ∙ join_comm j c (join j a b)

pub join-same : (j : Junction) (a : Truth) → join j a a ≡ a
join-same conj False = refl
join-same conj Unknown = refl
join-same conj True = refl
join-same disj False = refl
join-same disj Unknown = refl
join-same disj True = refl

pub start : (j : Junction) (o : Outcome) → sofar j (unit j) 0 o ≡ o
start j o =
    ap (λ (t : Truth). record { truth = t; cost = 0 + o.cost }) (unit_left j o.truth) ∙
    ap (λ (n : ℕ). record { truth = o.truth; cost = n }) (zero-add o.cost)

alike : {t u : Truth} {n m : ℕ} → t ≡ u → n ≡ m → ◌≡◌ {A = Outcome} (record { truth = t; cost = n }) (record { truth = u; cost = m })
alike p q = rw (p, q) refl

module _ (j : Junction) (b : ℕ) (t : Truth) (n : ℕ) (low : n ≤ b) (o p : Outcome) where
  pub next-spent : within (b - n) o ≡ Spent → within b (sofar j t n (joined j o p)) ≡ Spent
  next-spent e = spent b (sofar j t n (joined j o p)) (omega (arith, was_spent (b - n) o e))

  module _ (a : Truth) (m : ℕ) (e : within (b - n) o ≡ Verdict a m) where
    pub next_low : n + m ≤ b
    next_low = omega (arith, (was_verdict (b - n) o a m e).fits)

    pub next_settled : settles j a ≡ true → within b (sofar j t n (joined j o p)) ≡ Verdict (join j t a) (n + m)
    next_settled s =
        let w = was_verdict (b - n) o a m e in
        let says : join j t (join j o.truth p.truth) ≡ join j t a =
        ap (λ (x : Truth). join j t (join j x p.truth)) w.truth ∙ ap (join j t) (settled j a p.truth s)
        in
        let skipped : right_cost j o.truth p.cost ≡ 0 =
        ap (λ (x : Truth). right_cost j x p.cost) w.truth ∙ ap (λ (x : Bool). cond x 0 p.cost) s
        in
        let pays : n + (o.cost + right_cost j o.truth p.cost) ≡ n + m = omega (arith, w.cost, skipped) in
        ap (within b) (alike says pays) ∙ verdict b (record { truth = join j t a; cost = n + m }) next_low

    pub next_more : settles j a ≡ false → sofar j t n (joined j o p) ≡ sofar j (join j t a) (n + m) p
    next_more s =
        let w = was_verdict (b - n) o a m e in
        let says : join j t (join j o.truth p.truth) ≡ join j (join j t a) p.truth =
        ap (λ (x : Truth). join j t (join j x p.truth)) w.truth ∙ join_assoc j t a p.truth
        in
        let asks : right_cost j o.truth p.cost ≡ p.cost =
        ap (λ (x : Truth). right_cost j x p.cost) w.truth ∙ ap (λ (x : Bool). cond x 0 p.cost) s
        in
        let pays : n + (o.cost + right_cost j o.truth p.cost) ≡ n + m + p.cost = omega (arith, w.cost, asks) in
        alike says pays

-- the verdict of a walk includes the truth value that it starts from
over-says : (s : Truth) (j : Junction) (f : ℕ → Outcome) (cs : List ℕ) → join j s (over s j f cs).truth ≡ (over s j f cs).truth
over-says s j f [] = join-same j s
over-says s j f (c ∷ cs) = join_swap j s (f c).truth (over s j f cs).truth ∙ ap (join j (f c).truth) (over-says s j f cs)

pub over-start : (s : Truth) (j : Junction) (f : ℕ → Outcome) (cs : List ℕ) → sofar j s 0 (over s j f cs) ≡ over s j f cs
over-start s j f cs = alike (over-says s j f cs) (zero-add (over s j f cs).cost)

pub end : (j : Junction) (b : ℕ) (t s : Truth) (n : ℕ) → join j t s ≡ t → n ≤ b → within b (sofar j t n (record { truth = s; cost = 0 })) ≡ Verdict t n
end j b t s n said low =
    let pays : n + 0 ≡ n = omega arith in
    ap (within b) (alike said pays) ∙ verdict b (record { truth = t; cost = n }) low

-- the last thing that is evaluated
module _ (j : Junction) (b : ℕ) (t : Truth) (n : ℕ) (low : n ≤ b) (o : Outcome) where
  pub last_spent : within (b - n) o ≡ Spent → within b (sofar j t n o) ≡ Spent
  last_spent e = spent b (sofar j t n o) (omega (arith, was_spent (b - n) o e))

  pub last_verdict : (a : Truth) (m : ℕ) → within (b - n) o ≡ Verdict a m → within b (sofar j t n o) ≡ Verdict (join j t a) (n + m)
  last_verdict a m e =
      let w = was_verdict (b - n) o a m e in
      let pays : n + o.cost ≡ n + m = omega (arith, w.cost) in
      ap (within b) (alike (ap (join j t) w.truth) pays) ∙ verdict b (record { truth = join j t a; cost = n + m }) (omega (arith, w.fits))
