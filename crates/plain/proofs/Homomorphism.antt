-- Positive formulas are preserved under homomorphisms: if the rows of one instance, mapped, are rows of another, and
-- the values of its range, mapped, are in the other's range, then two-valued logic says yes of the other where it says
-- yes of the one. Assumes nothing.
use Prim.Native.Nat.{ℕ}
use mathlib.Core.Path.{◌≡◌, refl, sym, ap, ◌∙◌, subst}
use mathlib.Core.Bool.{Bool, true, false, ◌||◌, or-true}
use mathlib.Core.List.Memᴰ
use mathlib.Core.List.{List, [], ◌∷◌, map, Memᴰ}
use lib.ListN.{set}
use borrow.Author.Tests.{eqb-true, eq-eqb}
use Rattle.calculus.specs.Row.{Row}
use Rattle.calculus.specs.Kleene.{Junction, conj, disj}
use Rattle.calculus.specs.Formula.{Formula, atom, equal, negation, junction, quantified, value, values, term_passes, constants_pass}
use Rattle.calculus.specs.Closed.{tuples}
use Rattle.calculus.specs.TwoValued.{join_b, over_b, says}
use Rattle.calculus.specs.Order.{Fixes}
use Rattle.calculus.proofs.Bools.{false_not_true, and_parts, and_intro}
use Rattle.calculus.proofs.Tuples.{or_mono}
use Rattle.calculus.proofs.Image.{value-map, values-map}
use Rattle.calculus.proofs.KindOne.{row_member}
use Rattle.calculus.proofs.Lists.{map-set}
use Rattle.plain.proofs.Positive.{positive}

joinB-mono :
    (j : Junction) (a b a' b' : Bool) → (a ≡ true → a' ≡ true) → (b ≡ true → b' ≡ true) →
    join_b j a b ≡ true → join_b j a' b' ≡ true
joinB-mono conj a b a' b' f g e = let p = and_parts a b e in and_intro (f p.0) (g p.1)
joinB-mono disj a b a' b' f g e = or_mono a b a' b' f g e

-- two-valued logic says yes of a some exactly if it says yes for one of the values
module _ (f : ℕ → Bool) where
  some-value : (cs : List ℕ) → over_b disj f cs ≡ true → (c : ℕ) × Memᴰ c cs × (f c ≡ true)
  some-value [] e = false_not_true e
  some-value (x ∷ cs) e = go (f x) refl e (some-value cs)
    where
      go :
          (b : Bool) → f x ≡ b → (b || over_b disj f cs) ≡ true →
          (over_b disj f cs ≡ true → (c : ℕ) × Memᴰ c cs × (f c ≡ true)) →
          (c : ℕ) × Memᴰ c (x ∷ cs) × (f c ≡ true)
      go true p e later = (x, Memᴰ.head refl, p)
      go false p e later = let r = later e in (r.0, Memᴰ.tail r.1, r.2)

  value-some : {c : ℕ} (cs : List ℕ) → Memᴰ c cs → f c ≡ true → over_b disj f cs ≡ true
  value-some [] m e = elim m [ ]
  value-some (x ∷ cs) (Memᴰ.head same) e = let here : f x ≡ true = ap f (sym same) ∙ e in rw here
  value-some (x ∷ cs) (Memᴰ.tail m) e = rw (value-some cs m e) (or-true (f x))

-- a homomorphism from the rows rs with their range to the rows ss with theirs
pub record Homomorphism (h : ℕ → ℕ) (range : List ℕ) (rs : List Row) (range' : List ℕ) (ss : List Row) : Type 0 where
  pub zero : h 0 ≡ 0
  pub rows : (r : ℕ) (row : List ℕ) → Memᴰ row (tuples r rs) → Memᴰ (map h row) (tuples r ss)
  pub ranges : (c : ℕ) → Memᴰ c range → Memᴰ (h c) range'

module _ (test : ℕ → Bool) (h : ℕ → ℕ) (fixes : Fixes test h)
    (range : List ℕ) (rs : List Row) (range' : List ℕ) (ss : List Row) (hom : Homomorphism h range rs range' ss) where
  -- if h leaves the constants of the formula as they are
  pub preserved :
      (f : Formula) → positive f ≡ true → constants_pass test f ≡ true → (e : List ℕ) →
      says range rs f e ≡ true → says range' ss f (map h e) ≡ true
  unfolding says positive constants_pass
  preserved (atom r ts) p k e holds =
      (row_member (values (map h e) ts) (tuples r ss)).1
      (Memᴰ.cast (values-map test h fixes hom.zero e ts k)
      (hom.rows r (values e ts) ((row_member (values e ts) (tuples r rs)).0 holds)))
  preserved (equal s t) p k e holds =
      let b = and_parts (term_passes test s) (term_passes test t) k in
      let at = value-map test h fixes hom.zero e in
      eq-eqb (value (map h e) s) (value (map h e) t)
      (at s b.0 ∙ ap h (eqb-true (value e s) (value e t) holds) ∙ sym (at t b.1))
  preserved (negation f) p k e holds = false_not_true p
  preserved (junction j f g) p k e holds =
      let a = and_parts (positive f) (positive g) p in
      let b = and_parts (constants_pass test f) (constants_pass test g) k in
      joinB-mono j (says range rs f e) (says range rs g e) (says range' ss f (map h e)) (says range' ss g (map h e))
      (preserved f a.0 b.0 e) (preserved g a.1 b.1 e) holds
  preserved (quantified conj v f) p k e holds = false_not_true p
  preserved (quantified disj v f) p k e holds =
      let w = some-value (λ c. says range rs f (set e v c)) range holds in
      value-some (λ c. says range' ss f (set (map h e) v c)) range' (hom.ranges w.0 w.1)
      (subst (λ (l : List ℕ). says range' ss f l ≡ true) (map-set h e v w.0)
      (preserved f p k (set e v w.0) w.2))
