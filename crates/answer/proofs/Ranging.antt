-- Whether a question ranges over values, node by node. Assumes nothing.
use Prim.Native.Nat.{ℕ, zero, suc, ◌<◌}
use mathlib.Core.Path.{◌≡◌, refl, sym, ap, ◌∙◌}
use mathlib.Core.Bool.{Bool, true, false, ◌||◌}
use mathlib.Core.List.{List}
use native.Mathlib.Omega.{arith}
use borrow.Author.Tests.{eqb-true, eqb-false, ne_eqb}
use lib.Dec.{eqb}
use Rattle.calculus.specs.Kleene.{Junction}
use Rattle.calculus.proofs.Bools.{false_not_true}
use Rattle.query.specs.Words.{ranges, kind_of, word_at}
use Rattle.answer.specs.Ranging.{is_range, ranges_among}

-- the kinds 6 and 7 range over values, and no other
pub range-kind : (w : ℕ) → is_range (kind_of w) ≡ (eqb w 6 || eqb w 7)
unfolding kind_of
range-kind zero = refl
range-kind (suc zero) = refl
range-kind (suc (suc zero)) = refl
range-kind (suc (suc (suc zero))) = refl
range-kind (suc (suc (suc (suc zero)))) = refl
range-kind (suc (suc (suc (suc (suc zero))))) = refl
range-kind (suc (suc (suc (suc (suc (suc zero)))))) = refl
range-kind (suc (suc (suc (suc (suc (suc (suc zero))))))) = refl
range-kind (suc (suc (suc (suc (suc (suc (suc (suc w)))))))) =
    let n = suc (suc (suc (suc (suc (suc (suc (suc w))))))) in
    rw (ne_eqb n 6 (λ e. omega arith), ne_eqb n 7 (λ e. omega arith))

module _ (qs : List ℕ) where
  pub ranges_more : (k : ℕ) → is_range (kind_of (word_at qs k 0)) ≡ false → ranges_among qs k ≡ false → ranges_among qs (suc k) ≡ false
  unfolding ranges_among
  ranges_more k e rest = rw (e, rest) refl

  -- a node that does is among them
  pub ranges-here : (i k : ℕ) → i < k → is_range (kind_of (word_at qs i 0)) ≡ true → ranges_among qs k ≡ true
  unfolding ranges_among
  ranges-here i zero l e = absurd (omega arith)
  ranges-here i (suc k) l e = go (eqb i k) refl (λ m. ranges-here i k m e)
    where
      go : (b : Bool) → eqb i k ≡ b → (i < k → ranges_among qs k ≡ true) → (is_range (kind_of (word_at qs k 0)) || ranges_among qs k) ≡ true
      go true is ih = rw (ap (λ (x : ℕ). is_range (kind_of (word_at qs x 0))) (sym (eqb-true i k is)) ∙ e) refl
      go false is ih = let ne = eqb-false i k is in or_true (is_range (kind_of (word_at qs k 0))) (ih (omega (arith, l, ne)))
        where
          or_true : (a : Bool) {b : Bool} → b ≡ true → (a || b) ≡ true
          or_true true p = refl
          or_true false p = p

  -- if none does, no node's kind ranges over values
  pub none-ranges : (k : ℕ) → ranges_among qs k ≡ false → (i : ℕ) (j : Junction) → i < k → kind_of (word_at qs i 0) ≡ ranges j → ⊥
  none-ranges k none i j l e = false_not_true (sym none ∙ ranges-here i k l (ap is_range e))
