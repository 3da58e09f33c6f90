-- Flags place by place: setting one, and a scan of the words that are not passed over. Assumes nothing.
use Prim.Native.Nat.{ℕ, suc, ◌+◌, ◌≤◌, ◌<◌}
use mathlib.Core.Path.{◌≡◌, refl, ap, ◌∙◌}
use mathlib.Core.Bool.{Bool, true, false, cond}
use mathlib.Core.List.{List, [], ◌∷◌, ◌++◌, append-nil}
use native.Mathlib.Omega.{arith}
use native.Mathlib.Numerals.{add-one}
use borrow.Author.Tests.{eq-eqb, ne_eqb}
use lib.ListN.{length, get_or, take, drop, drop_of_length-le}
use lib.Seq.{take-suc, length-take-le}
use Rattle.calculus.specs.Listed.{listed}
use Rattle.known.specs.declared.Known.{Known}
use Rattle.known.specs.Known.{flag_at, unpassed, Flagged}
use Rattle.calculus.proofs.Lists.{drop_step}
use Rattle.range.specs.Flagged.{stood_before}

-- what is not passed over depends on the flags of its own places alone
pub unpassed-same : (known after : Known) (ws : List ℕ) (p : ℕ) → ((q : ℕ) → q < p + length ws → flag_at after q ≡ flag_at known q) → unpassed after p ws ≡ unpassed known p ws
unfolding unpassed
unpassed-same known after [] p same = refl
unpassed-same known after (w ∷ ws) p same = rw (same p (omega arith), unpassed-same known after ws (suc p) (λ q l. same q (omega arith))) refl

unpassed_snoc : (known : Known) (ws : List ℕ) (w p : ℕ) → unpassed known p (ws ++ w ∷ []) ≡ unpassed known p ws ++ cond (flag_at known (p + length ws)) [] (w ∷ [])
unfolding unpassed
unpassed_snoc known [] w p = let e : p + 0 ≡ p = omega arith in rw e refl
unpassed_snoc known (x ∷ ws) w p =
    let e : p + suc (length ws) ≡ suc p + length ws = omega arith in
    rw e (go (flag_at known p) (unpassed_snoc known ws w (suc p)))
  where
    go :
        (b : Bool) → unpassed known (suc p) (ws ++ w ∷ []) ≡ unpassed known (suc p) ws ++ cond (flag_at known (suc p + length ws)) [] (w ∷ []) →
        cond b (unpassed known (suc p) (ws ++ w ∷ [])) (x ∷ unpassed known (suc p) (ws ++ w ∷ [])) ≡
        cond b (unpassed known (suc p) ws) (x ∷ unpassed known (suc p) ws) ++ cond (flag_at known (suc p + length ws)) [] (w ∷ [])
    go true ih = ih
    go false ih = ap (λ (l : List ℕ). x ∷ l) ih

-- the cells that stood before place i + 1
pub stood-next :
    {known after : Known} {i : ℕ} {b : Bool} (ws : List ℕ) → i < length ws → Flagged known i b after →
    stood_before after ws (i + 1) ≡ cond b (stood_before known ws i) (stood_before known ws i ++ get_or ws i 0 ∷ [])
stood-next {known} {after} {i} {b} ws l f =
    let long : length (take i ws) ≡ i = length-take-le i ws (omega arith) in
    let at : 0 + length (take i ws) ≡ i = omega (arith, long) in
    ap (λ (k : ℕ). unpassed after 0 (take k ws)) (add-one i) ∙ ap (unpassed after 0) (take-suc ws i 0 l) ∙ unpassed_snoc after (take i ws) (get_or ws i 0) 0 ∙
    rw (at, unpassed-same known after (take i ws) 0 (λ q m. f.other q (λ e. omega (arith, e, m, long))), f.here) (go b)
  where
    go : (t : Bool) → stood_before known ws i ++ cond t [] (get_or ws i 0 ∷ []) ≡ cond t (stood_before known ws i) (stood_before known ws i ++ get_or ws i 0 ∷ [])
    go true = append-nil (stood_before known ws i)
    go false = refl

-- a scan for a cell among the words that are not passed over, at word j; the first word has place b
module _ (known : Known) (b : ℕ) (ws : List ℕ) (cell j : ℕ) where
  at_word : j < length ws → unpassed known (b + j) (drop j ws) ≡ cond (flag_at known (b + j)) (unpassed known (b + (j + 1)) (drop (j + 1) ws)) (get_or ws j 0 ∷ unpassed known (b + (j + 1)) (drop (j + 1) ws))
  unfolding unpassed
  at_word l =
      let e : suc (b + j) ≡ b + (j + 1) = omega arith in
      ap (unpassed known (b + j)) (drop_step ws j l) ∙ rw e refl

  pub scan_end : length ws ≤ j → listed cell (unpassed known (b + j) (drop j ws)) ≡ false
  unfolding listed unpassed
  scan_end l = ap (λ (vs : List ℕ). listed cell (unpassed known (b + j) vs)) (drop_of_length-le ws {i = j} l)

  module _ (l : j < length ws) where
    pub scan_passed : flag_at known (b + j) ≡ true → listed cell (unpassed known (b + j) (drop j ws)) ≡ listed cell (unpassed known (b + (j + 1)) (drop (j + 1) ws))
    scan_passed e = ap (listed cell) (at_word l) ∙ rw e refl

    pub scan_here : get_or ws j 0 ≡ cell → flag_at known (b + j) ≡ false → listed cell (unpassed known (b + j) (drop j ws)) ≡ true
    unfolding listed
    scan_here is e = ap (listed cell) (at_word l) ∙ rw (e, eq-eqb (get_or ws j 0) cell is) refl

    pub scan_other : (get_or ws j 0 ≡ cell → ⊥) → listed cell (unpassed known (b + j) (drop j ws)) ≡ listed cell (unpassed known (b + (j + 1)) (drop (j + 1) ws))
    unfolding listed
    scan_other ne = go (flag_at known (b + j)) refl
      where
        go : (t : Bool) → flag_at known (b + j) ≡ t → listed cell (unpassed known (b + j) (drop j ws)) ≡ listed cell (unpassed known (b + (j + 1)) (drop (j + 1) ws))
        go true e = scan_passed e
        go false e = ap (listed cell) (at_word l) ∙ rw (e, ne_eqb (get_or ws j 0) cell ne) refl
