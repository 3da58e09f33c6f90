-- A pass that fills words: the words before index i are filled, those from i are as they were, and `count` plus the count from i is the count in all
-- words. Assumes nothing.
use Prim.Native.Nat.{ℕ, ◌+◌, ◌≤◌, ◌<◌}
use mathlib.Core.Path.{◌≡◌, refl, sym, ap, ◌∙◌}
use mathlib.Core.List.{List, map}
use native.Mathlib.Omega.{arith}
use borrow.Author.Tests.{eq-eqb, ne_eqb}
use lib.ListN.{length, get_or, set, drop, length-set}
use lib.Seq.{drop-length}
use Rattle.calculus.specs.Cell.{null, put}
use Rattle.calculus.specs.Fill.{count_of}
use Rattle.calculus.proofs.Cells.{put-null, put_other}
use Rattle.calculus.proofs.Counts.{countOf-drop-step}
use Rattle.instance.proofs.Passes.{upto, upto_none, upto_all, upto_here, upto_set, upto_kept}

pub record Filling (m c : ℕ) (was words : List ℕ) (count i : ℕ) : Type 0 where
  pub within : i ≤ length was
  pub few : count ≤ i
  pub long : length words ≡ length was
  pub filled : words ≡ upto (put m c) i was
  pub counted : count + count_of (null m) (drop i was) ≡ count_of (null m) was

module _ (m c : ℕ) (was : List ℕ) where
  pub filling-starts : Filling m c was was 0 0
  filling-starts = record { within = omega arith; few = omega arith; long = refl; filled = sym (upto_none (put m c) was); counted = omega arith }

  -- the word at index i
  module _ {words : List ℕ} {count i : ℕ} (l : i < length was) (f : Filling m c was words count i) where
    pub filling-here : get_or words i 0 ≡ get_or was i 0
    filling-here = ap (λ (ws : List ℕ). get_or ws i 0) f.filled ∙ upto_here (put m c) i was

    -- the null is replaced and counted
    pub filling-null : get_or words i 0 ≡ null m → Filling m c was (set words i c) (count + 1) (i + 1)
    filling-null e =
        let is : get_or was i 0 ≡ null m = sym filling-here ∙ e in
        record {
          within = omega arith;
          few = omega (arith, f.few);
          long = length-set words i c ∙ f.long;
          filled =
              ap (λ (ws : List ℕ). set ws i c) f.filled
              ∙ ap (set (upto (put m c) i was) i) (sym (put-null m c (get_or was i 0) is))
              ∙ upto_set (put m c) i was l;
          counted = omega (arith, f.counted, simp (eq-eqb _ _ is) at (countOf-drop-step (null m) was i l));
        }

    -- any other word stays
    pub filling-other : (get_or words i 0 ≡ null m → ⊥) → Filling m c was words count (i + 1)
    filling-other ne =
        let not : get_or was i 0 ≡ null m → ⊥ = λ e. ne (filling-here ∙ e) in
        record {
          within = omega arith;
          few = omega (arith, f.few);
          long = f.long;
          filled = f.filled ∙ upto_kept (put m c) i was l (put_other m c _ not);
          counted = omega (arith, f.counted, simp (ne_eqb _ _ not) at (countOf-drop-step (null m) was i l));
        }

  pub filling_ends : {words : List ℕ} {count i : ℕ} → length was ≤ i → Filling m c was words count i → (count ≡ count_of (null m) was) × (words ≡ map (put m c) was)
  unfolding count_of
  filling_ends {i = i} l f =
      let e : i ≡ length was = omega arith in
      let none : count_of (null m) (drop i was) ≡ 0 = rw (e, drop-length) in
      (omega (arith, f.counted), f.filled ∙ rw e (upto_all (put m c) was))
