-- Walking a slice past the places whose flag stands. Assumes nothing.
use Prim.Native.Nat.{ℕ, zero, suc, ◌+◌, ◌≤◌, ◌<◌, ◌/◌, ◌%◌}
use mathlib.Core.Path.{◌≡◌, refl, sym, ap, ◌∙◌}
use mathlib.Core.Bool.{Bool, true, false, cond, false≢true}
use mathlib.Core.List.{List, [], ◌∷◌}
use native.Mathlib.Numerals.{add-one}
use native.Mathlib.Nat.{div-eq_of_lt}
use native.Mathlib.Omega.{arith}
use borrow.Author.Tests.{ltb-true, ltb-false}
use lib.Dec.{eqb, ltb}
use lib.ListN.{length, get_or, drop, replicate, drop_of_length-le}
use lib.Pow.{pow_pos}
use Rattle.calculus.proofs.Lists.{drop_step}
use Rattle.known.specs.Known.{flag_words, flag_at, unpassed, Gap}
use Rattle.known.specs.declared.Known.{Known}

pub unpassed-end : (known : Known) (ws : List ℕ) (i : ℕ) → length ws ≤ i → unpassed known i (drop i ws) ≡ []
unfolding unpassed
unpassed-end known ws i l = rw (drop_of_length-le ws {i = i} l) refl

-- the word at a place, and those after it
module _ (known : Known) (ws : List ℕ) (i : ℕ) (l : i < length ws) where
  at_place : unpassed known i (drop i ws) ≡ cond (flag_at known i) (unpassed known (i + 1) (drop (i + 1) ws)) (get_or ws i 0 ∷ unpassed known (i + 1) (drop (i + 1) ws))
  unfolding unpassed
  at_place = ap (unpassed known i) (drop_step ws i l) ∙ rw (← add-one i) refl

  pub unpassed-here : flag_at known i ≡ false → unpassed known i (drop i ws) ≡ get_or ws i 0 ∷ unpassed known (i + 1) (drop (i + 1) ws)
  unpassed-here e = at_place ∙ rw e refl

-- a place is passed over, within the slice or after its end
pub unpassed_not : (known : Known) (ws : List ℕ) (i : ℕ) → flag_at known i ≡ true → unpassed known i (drop i ws) ≡ unpassed known (i + 1) (drop (i + 1) ws)
unpassed_not known ws i e = go (ltb i (length ws)) refl
  where
    go : (b : Bool) → ltb i (length ws) ≡ b → unpassed known i (drop i ws) ≡ unpassed known (i + 1) (drop (i + 1) ws)
    go true q = at_place known ws i (ltb-true i (length ws) q) ∙ rw e refl
    go false q =
        let l = ltb-false i (length ws) q in
        unpassed-end known ws i (omega arith) ∙ sym (unpassed-end known ws (i + 1) (omega arith))

-- a gap is passed over
pub unpassed_gap : (known : Known) (ws : List ℕ) (r i : ℕ) → ((q : ℕ) → q < r → flag_at known (i + q) ≡ true) → unpassed known i (drop i ws) ≡ unpassed known (i + r) (drop (i + r) ws)
unpassed_gap known ws zero i all = let e : i ≡ i + 0 = omega arith in ap (λ (x : ℕ). unpassed known x (drop x ws)) e
unpassed_gap known ws (suc r) i all =
    let first : i + 0 ≡ i = omega arith in
    let last : (i + 1) + r ≡ i + suc r = omega arith in
    unpassed_not known ws i (rw first at (all 0 (omega arith))) ∙
    unpassed_gap known ws r (i + 1) (λ q l. let e : i + suc q ≡ (i + 1) + q = omega arith in rw e at (all (suc q) (omega arith))) ∙
    ap (λ (x : ℕ). unpassed known x (drop x ws)) last

-- a place that is passed over is the first of a gap
pub gap_some : {known : Known} {p r : ℕ} → Gap known p r → flag_at known p ≡ true → 0 < r
gap_some {r = zero} g e = absurd (false≢true (sym (g.none refl) ∙ e))
gap_some {r = suc r} g e = omega arith

-- no flag stands if every word of them is 0
zeros_at : (n k : ℕ) → ◌≡◌ {A = ℕ} (get_or (replicate n 0) k 0) 0
zeros_at zero k = refl
zeros_at (suc n) zero = refl
zeros_at (suc n) (suc k) = zeros_at n k

pub no_flags : (known : Known) → known.flags ≡ replicate flag_words 0 → (p : ℕ) → flag_at known p ≡ false
no_flags known none p =
    let at : get_or known.flags (p / 32) 0 ≡ 0 = ap (λ (fs : List ℕ). get_or fs (p / 32) 0) none ∙ zeros_at flag_words (p / 32) in
    rw at (ap (λ (x : ℕ). eqb (x % 2) 1) (div-eq_of_lt (pow_pos (p % 32))))

-- with no flag, all words of a slice are walked
pub unpassed-all : (known : Known) → ((p : ℕ) → flag_at known p ≡ false) → (p : ℕ) (ws : List ℕ) → unpassed known p ws ≡ ws
unfolding unpassed
unpassed-all known none p [] = refl
unpassed-all known none p (w ∷ ws) = rw (none p) (ap (λ (l : List ℕ). w ∷ l) (unpassed-all known none (suc p) ws))
