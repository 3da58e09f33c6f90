-- A walk over the words that sets flags: what holds when the first i words were walked. Assumes nothing.
use Prim.Native.Nat.{ℕ, suc, ◌+◌, ◌-◌, ◌≤◌, ◌<◌}
use mathlib.Core.Path.{◌≡◌, refl, sym, ap, ◌∙◌}
use mathlib.Core.Bool.{Bool, true, false}
use mathlib.Core.List.{List, [], ◌∷◌, ◌++◌}
use native.Mathlib.Omega.{arith}
use borrow.Author.Tests.{ltb-true, ltb-false, eqb-true, eqb-false}
use lib.Dec.{ltb, eqb}
use lib.ListN.{length, get_or, drop, replicate}
use lib.Seq.{drop-drop, drop-length, get_or-drop, take-length}
use Rattle.calculus.specs.Listed.{listed}
use Rattle.calculus.proofs.Lists.{drop_step}
use Rattle.instance.specs.Header.{arity_of}
use Rattle.instance.specs.Rows.{words_well_formed}
use Rattle.instance.proofs.Rows.{at_row, at_cell}
use Rattle.known.specs.declared.Known.{Known}
use Rattle.known.specs.Known.{flag_at, unpassed, SameBesides, Flagged}
use Rattle.known.proofs.Setting.{kept_same, kept_then}
use Rattle.range.specs.Cache.{head_count, Cached}
use Rattle.range.specs.Flagged.{stood_before}
use Rattle.range.specs.Walked.{passes}
use Rattle.range.proofs.Cache.{cached-starts, cached-relation}
use Rattle.range.proofs.Places.{stood-next}
use Rattle.range.proofs.Walked.{SameCells, same_more}

-- the flags so far, if the flag of place i becomes the next one
module _ {known after : Known} {i : ℕ} {b : Bool} {rest : List Bool} (flags : List Bool) (f : Flagged known i b after) (e : drop i flags ≡ b ∷ rest) where
  first : get_or flags i false ≡ b
  first = let z : i + 0 ≡ i = omega arith in ap (λ (k : ℕ). get_or flags k false) (sym z) ∙ sym (get_or-drop i flags 0 false) ∙ ap (λ (l : List Bool). get_or l 0 false) e

  rest_next : drop (i + 1) flags ≡ rest
  rest_next = sym (drop-drop 1 i flags) ∙ ap (drop 1) e

  past_next : ((q : ℕ) → q < i → flag_at known q ≡ get_or flags q false) → (q : ℕ) → q < i + 1 → flag_at after q ≡ get_or flags q false
  past_next past q l = go (eqb q i) refl
    where
      go : (t : Bool) → eqb q i ≡ t → flag_at after q ≡ get_or flags q false
      go true p = let is : q ≡ i = eqb-true q i p in ap (flag_at after) is ∙ f.here ∙ sym first ∙ ap (λ (k : ℕ). get_or flags k false) (sym is)
      go false p = let ne = eqb-false q i p in f.other q ne ∙ past q (omega (arith, ne))

  later-next : ((q : ℕ) → i ≤ q → flag_at known q ≡ false) → (q : ℕ) → i + 1 ≤ q → flag_at after q ≡ false
  later-next later q l = f.other q (λ h. omega (arith, h, l)) ∙ later q (omega arith)

-- The first i words were walked, and `left` cells of a row are still to come. `earlier` holds every cell that stood; the flags leave of equal cells
-- only the first.
pub record Passing (n : ℕ) (ars ws : List ℕ) (before known : Known) (heads : List ℕ) (left i : ℕ) : Type 0 where
  pub earlier : List ℕ
  pub inside : i ≤ length ws
  pub well_formed : words_well_formed n ars left (drop i ws) ≡ true
  pub kept : SameBesides before known
  pub same : SameCells (stood_before known ws i) earlier
  pub cached : Cached heads ws (stood_before known ws i) i
  pub past : (q : ℕ) → q < i → flag_at known q ≡ get_or (passes ars [] 0 ws) q false
  pub later : (q : ℕ) → i ≤ q → flag_at known q ≡ false
  pub rest : drop i (passes ars [] 0 ws) ≡ passes ars earlier left (drop i ws)

pub passing-starts :
    (n : ℕ) (ars ws : List ℕ) (known : Known) → words_well_formed n ars 0 ws ≡ true → ((q : ℕ) → flag_at known q ≡ false) →
    Passing n ars ws known known (replicate head_count 0) 0 0
unfolding unpassed
passing-starts n ars ws known e none = record {
  earlier = [];
  inside = omega arith;
  well_formed = e;
  kept = kept_same;
  same = λ d. refl;
  cached = cached-starts known ws;
  past = λ q l. absurd (omega arith);
  later = λ q l. none q;
  rest = refl;
}

module _ {n : ℕ} {ars ws : List ℕ} {before known : Known} {heads : List ℕ} {left i : ℕ} (s : Passing n ars ws before known heads left i) (l : i < length ws) where
  abbrev w : ℕ
  w = get_or ws i 0

  abbrev ws' : List ℕ
  ws' = drop (i + 1) ws

  abbrev all : List Bool
  all = passes ars [] 0 ws

  here : words_well_formed n ars left (w ∷ ws') ≡ true
  here = rw (drop_step ws i l) at s.well_formed

  next : drop i all ≡ passes ars s.earlier left (w ∷ ws')
  next = s.rest ∙ ap (passes ars s.earlier left) (drop_step ws i l)

  pub passing-relation : left ≡ 0 → w < n
  passing-relation e = ltb-true w n (at_row n ars w ws' (rw e at here)).0

  -- a relation's number is passed over
  pub passing-row : left ≡ 0 → (after : Known) → Flagged known i true after → Passing n ars ws before after heads (arity_of ars w) (i + 1)
  unfolding passes
  passing-row e after f =
      let more : drop i all ≡ true ∷ passes ars s.earlier (arity_of ars w) ws' = rw e at next in
      record {
        earlier = s.earlier;
        inside = omega arith;
        well_formed = (at_row n ars w ws' (rw e at here)).1;
        kept = kept_then s.kept f.kept;
        same = λ d. ap (listed d) (stood-next ws l f) ∙ s.same d;
        cached = cached-relation l s.cached f;
        past = past_next all f more s.past;
        later = later-next all f more s.later;
        rest = rest_next all f more;
      }

  -- a cell is passed over if it stood earlier
  pub passing-cell :
      (k : ℕ) → left ≡ suc k → (after : Known) (heads' : List ℕ) → Flagged known i (listed w (stood_before known ws i)) after →
      Cached heads' ws (stood_before after ws (i + 1)) (i + 1) → Passing n ars ws before after heads' k (i + 1)
  unfolding passes
  passing-cell k e after heads' f cache =
      let vs = stood_before known ws i in
      let cells : drop i all ≡ listed w s.earlier ∷ passes ars (s.earlier ++ w ∷ []) k ws' = rw e at next in
      let more : drop i all ≡ listed w vs ∷ passes ars (s.earlier ++ w ∷ []) k ws' =
      cells ∙ ap (λ (b : Bool). b ∷ passes ars (s.earlier ++ w ∷ []) k ws') (sym (s.same w))
      in
      record {
        earlier = s.earlier ++ w ∷ [];
        inside = omega arith;
        well_formed = (at_cell n ars k w ws' (rw e at here)).1;
        kept = kept_then s.kept f.kept;
        same = λ d. ap (listed d) (stood-next ws l f) ∙ same_more vs s.earlier w s.same (listed w vs) refl d;
        cached = cache;
        past = past_next all f more s.past;
        later = later-next all f more s.later;
        rest = rest_next all f more;
      }

-- at the end the heads are those of all cells
pub passing-cached :
    {n : ℕ} {ars ws : List ℕ} {before known : Known} {heads : List ℕ} {left i : ℕ} → Passing n ars ws before known heads left i → length ws ≤ i →
    Cached heads ws (unpassed known 0 ws) (length ws)
passing-cached {ws = ws} {known = known} {heads = heads} {i = i} s l =
    let e : i ≡ length ws = omega (arith, s.inside) in
    rw (take-length ws) at (rw e at s.cached)

-- at the end the flags are those of the walk, and none stands after the words
pub passing-ends :
    {n : ℕ} {ars ws : List ℕ} {before known : Known} {heads : List ℕ} {left i : ℕ} → Passing n ars ws before known heads left i → length ws ≤ i →
    (p : ℕ) → flag_at known p ≡ get_or (passes ars [] 0 ws) p false
unfolding passes
passing-ends {ars = ars} {ws} {before} {known} {heads} {left} {i} s l p = go (ltb p i) refl
  where
    none : drop i (passes ars [] 0 ws) ≡ []
    none = let e : i ≡ length ws = omega (arith, s.inside) in s.rest ∙ ap (passes ars s.earlier left) (ap (λ (k : ℕ). drop k ws) e ∙ drop-length ws)

    go : (b : Bool) → ltb p i ≡ b → flag_at known p ≡ get_or (passes ars [] 0 ws) p false
    go true e = s.past p (ltb-true p i e)
    go false e =
        let m = ltb-false p i e in
        let at : i + (p - i) ≡ p = omega arith in
        s.later p m ∙
        sym (ap (λ (k : ℕ). get_or (passes ars [] 0 ws) k false) (sym at) ∙ sym (get_or-drop i (passes ars [] 0 ws) (p - i) false) ∙ ap (λ (fs : List Bool). get_or fs (p - i) false) none)
