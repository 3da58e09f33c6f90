-- A walk over the question's words after an instance's: what is not passed over. Assumes nothing.
use Prim.Native.Nat.{ℕ, zero, suc, ◌+◌, ◌-◌, ◌≤◌, ◌<◌}
use mathlib.Core.Path.{◌≡◌, refl, sym, ap, ◌∙◌}
use mathlib.Core.Bool.{Bool, true, false, ◌&&◌, ◌||◌, not, cond}
use mathlib.Core.List.{List, [], ◌∷◌, ◌++◌, append-nil}
use native.Mathlib.Omega.{arith}
use borrow.Author.Tests.{lt-ltb, leb-true, leb-false, ltb-true, ltb-false}
use lib.Dec.{leb, ltb}
use lib.ListN.{length, get_or, take, drop, length-append, length-drop, get_or-eq_default}
use lib.Seq.{take_all, take-length, take-append-add, get_or-append-add, get_or-take, get_or-drop, length-take-le}
use Rattle.calculus.specs.Cell.{is_constant}
use Rattle.calculus.specs.Domain.{listing}
use Rattle.calculus.specs.Listed.{listed}
use Rattle.calculus.proofs.Listed.{listed-append}
use Rattle.calculus.proofs.Listing.{listing-append}
use Rattle.known.specs.declared.Known.{Known}
use Rattle.known.specs.Known.{flag_at, unpassed, Flagged}
use Rattle.known.proofs.Setting.{kept_same, kept_then}
use Rattle.query.specs.Named.{constants_among}
use Rattle.query.proofs.KindTerms.{among_next as among_one}
use Rattle.instance.specs.Header.{arity_of}
use Rattle.range.specs.Flagged.{stood_before, Asking, Passed}
use Rattle.range.specs.Walked.{passes}
use Rattle.range.proofs.Places.{stood-next, unpassed-same}

unpassed-append : (known : Known) (xs ys : List ℕ) (p : ℕ) → unpassed known p (xs ++ ys) ≡ unpassed known p xs ++ unpassed known (p + length xs) ys
unfolding unpassed
unpassed-append known [] ys p = let e : p + 0 ≡ p = omega arith in rw e refl
unpassed-append known (x ∷ xs) ys p =
    let e : p + suc (length xs) ≡ suc p + length xs = omega arith in
    rw e (go (flag_at known p) (unpassed-append known xs ys (suc p)))
  where
    go :
        (b : Bool) → unpassed known (suc p) (xs ++ ys) ≡ unpassed known (suc p) xs ++ unpassed known (suc p + length xs) ys →
        cond b (unpassed known (suc p) (xs ++ ys)) (x ∷ unpassed known (suc p) (xs ++ ys)) ≡
        cond b (unpassed known (suc p) xs) (x ∷ unpassed known (suc p) xs) ++ unpassed known (suc p + length xs) ys
    go true ih = ih
    go false ih = ap (λ (l : List ℕ). x ∷ l) ih

-- what stood before word p of the question: in the instance, or earlier in the question
pub stood_parts : (known : Known) (ws qs : List ℕ) (p : ℕ) → stood_before known (ws ++ qs) (length ws + p) ≡ unpassed known 0 ws ++ unpassed known (length ws) (take p qs)
stood_parts known ws qs p =
    let e : 0 + length ws ≡ length ws = omega arith in
    ap (unpassed known 0) (take-append-add ws qs p) ∙ unpassed-append known ws (take p qs) 0 ∙ rw e refl

pub listed-parts :
    (known : Known) (ws qs : List ℕ) (p w : ℕ) →
    listed w (stood_before known (ws ++ qs) (length ws + p)) ≡ (listed w (unpassed known 0 ws) || listed w (unpassed known (length ws) (take p qs)))
listed-parts known ws qs p w =
    ap (listed w) (stood_parts known ws qs p) ∙ listed-append w (unpassed known 0 ws) (unpassed known (length ws) (take p qs))

-- whether a word is an inked term that is new
module _ (known : Known) (ws qs : List ℕ) (p : ℕ) (term : Bool) (is : term ≡ true) (low : get_or qs p 0 < 1000000) where
  abbrev word : ℕ
  word = get_or qs p 0

  whole : stood_before known ws (length ws) ≡ unpassed known 0 ws
  whole = ap (unpassed known 0) (take-length ws)

  pub not_new : listed word (stood_before known ws (length ws)) ≡ true → false ≡ (term && (is_constant word && not (listed word (stood_before known (ws ++ qs) (length ws + p)))))
  not_new e =
      let seen : listed word (stood_before known (ws ++ qs) (length ws + p)) ≡ true = listed-parts known ws qs p word ∙ rw (sym (ap (listed word) whole) ∙ e) refl in
      rw (is, lt-ltb word 1000000 low, seen) refl

  pub new-here :
      listed word (stood_before known ws (length ws)) ≡ false → (b : Bool) → b ≡ listed word (unpassed known (length ws) (take p qs)) →
      not b ≡ (term && (is_constant word && not (listed word (stood_before known (ws ++ qs) (length ws + p)))))
  new-here e b f =
      let seen : listed word (stood_before known (ws ++ qs) (length ws + p)) ≡ b = listed-parts known ws qs p word ∙ rw (sym (ap (listed word) whole) ∙ e) (sym f) in
      rw (is, lt-ltb word 1000000 low, seen) refl

pub passed-starts :
    (ws qs : List ℕ) (known : Known) (p : ℕ) → ((q : ℕ) → length ws + p ≤ q → flag_at known q ≡ false) → Passed ws qs known p [] known p
unfolding listing
passed-starts ws qs known p later = record { kept = kept_same; instance = refl; walks = refl; later = later }

pub passed_then :
    {ws qs : List ℕ} {a b c : Known} {xs ys : List ℕ} {p r s : ℕ} → Passed ws qs a p xs b r → Passed ws qs b r ys c s → Passed ws qs a p (xs ++ ys) c s
passed_then {xs = xs} {ys = ys} f g = record {
  kept = kept_then f.kept g.kept;
  instance = g.instance ∙ f.instance;
  walks = g.walks ∙ ap (λ (l : List ℕ). listing l ys) f.walks ∙ sym (listing-append _ xs ys);
  later = g.later;
}

-- a word is kept if it is an inked term that is new
module _ (ws qs : List ℕ) (known : Known) (p : ℕ) (l : p < length qs) (term : Bool) (later : (q : ℕ) → length ws + p ≤ q → flag_at known q ≡ false) where
  abbrev w : ℕ
  w = get_or qs p 0

  abbrev stood_here : List ℕ
  stood_here = stood_before known (ws ++ qs) (length ws + p)

  abbrev is_new : Bool
  is_new = term && (is_constant w && not (listed w stood_here))

  -- what the word adds
  abbrev adds : List ℕ
  adds = cond (term && is_constant w) (w ∷ []) []

  pub passed-word : (after : Known) → Flagged known (length ws + p) (not is_new) after → Passed ws qs known p adds after (p + 1)
  unfolding listing
  passed-word after f = record {
    kept = f.kept;
    instance = unpassed-same known after ws 0 (λ q m. f.other q (λ e. omega (arith, e, m)));
    walks =
        ap (stood_before after (ws ++ qs)) (let e : length ws + (p + 1) ≡ length ws + p + 1 = omega arith in e) ∙
        stood-next (ws ++ qs) (omega (arith, length-append ws qs)) f ∙
        ap (λ (v : ℕ). cond (not is_new) stood_here (stood_here ++ v ∷ [])) (get_or-append-add ws qs p 0) ∙
        go term (is_constant w) (listed w stood_here) refl;
    later = λ q m. f.other q (λ e. omega (arith, e, m)) ∙ later q (omega arith);
  }
    where
      go :
          (t c b : Bool) → listed w stood_here ≡ b →
          cond (not (t && (c && not b))) stood_here (stood_here ++ w ∷ []) ≡ listing stood_here (cond (t && c) (w ∷ []) [])
      go true true true e = rw e refl
      go true true false e = rw e refl
      go true false b e = refl
      go false c b e = refl

-- the constants among the words from `start` to `end`, up to word p: one word more
module _ (qs : List ℕ) (start end p : ℕ) (ordered : start ≤ end) (within : end ≤ length qs) where
  abbrev terms : List ℕ
  terms = take (end - start) (drop start qs)

  terms-long : length terms ≡ end - start
  terms-long = length-take-le (end - start) (drop start qs) (omega (arith, length-drop start qs))

  term_at : start ≤ p → p < end → get_or terms (p - start) 0 ≡ get_or qs p 0
  term_at a b =
      let e : start + (p - start) ≡ p = omega arith in
      get_or-take (end - start) (drop start qs) (p - start) 0 (omega arith) ∙ get_or-drop start qs (p - start) 0 ∙ ap (λ (k : ℕ). get_or qs k 0) e

  abbrev adding : Bool → List ℕ
  adding t = cond (t && is_constant (get_or qs p 0)) (get_or qs p 0 ∷ []) []

  pub among_next : constants_among (take (p + 1 - start) terms) ≡ constants_among (take (p - start) terms) ++ adding (leb start p && ltb p end)
  unfolding constants_among
  among_next = go (leb start p) refl (ltb p end) refl
    where
      same : (n m : ℕ) → take n terms ≡ take m terms → constants_among (take n terms) ≡ constants_among (take m terms) ++ []
      same n m e = ap constants_among e ∙ sym (append-nil (constants_among (take m terms)))

      go : (a : Bool) → leb start p ≡ a → (b : Bool) → ltb p end ≡ b → constants_among (take (p + 1 - start) terms) ≡ constants_among (take (p - start) terms) ++ adding (a && b)
      go true e true f =
          let low = leb-true start p e in
          let high = ltb-true p end f in
          let next : p + 1 - start ≡ p - start + 1 = omega arith in
          ap (λ (n : ℕ). constants_among (take n terms)) next ∙ among_one terms (p - start) (omega (arith, terms-long)) ∙
          ap (λ (v : ℕ). constants_among (take (p - start) terms) ++ cond (is_constant v) (v ∷ []) []) (term_at low high)
      go true e false f =
          let low = leb-true start p e in
          let high = ltb-false p end f in
          same (p + 1 - start) (p - start) (take_all (p + 1 - start) terms (omega (arith, terms-long)) ∙ sym (take_all (p - start) terms (omega (arith, terms-long))))
      go false e b f =
          let low = leb-false start p e in
          same (p + 1 - start) (p - start) (ap (λ (n : ℕ). take n terms) (let z : p + 1 - start ≡ p - start = omega arith in z))

  pub among_first : p ≤ start → constants_among (take (p - start) terms) ≡ []
  unfolding constants_among
  among_first l = ap (λ (n : ℕ). constants_among (take n terms)) (let z : p - start ≡ 0 = omega arith in z)

  pub among_last : end ≤ p → constants_among (take (p - start) terms) ≡ constants_among terms
  among_last l = ap constants_among (take_all (p - start) terms (omega (arith, terms-long)))

-- what a pass is given stays
pub asking-kept : {ws qs : List ℕ} {before : Known} {heads named : List ℕ} {after : Known} {p r : ℕ} → Asking ws qs before heads → Passed ws qs before p named after r → Asking ws qs after heads
asking-kept a f = record { short = a.short; few = a.few; cached = rw f.instance a.cached }

-- the words of a node up to word p were walked, and then word p
pub node-step :
    {ws qs : List ℕ} {before known : Known} {first p : ℕ} (start end : ℕ) → start ≤ end → end ≤ length qs → p < length qs →
    Passed ws qs before first (constants_among (take (p - start) (take (end - start) (drop start qs)))) known p →
    (term : Bool) → term ≡ (leb start p && ltb p end) →
    (new : Bool) → new ≡ (term && (is_constant (get_or qs p 0) && not (listed (get_or qs p 0) (stood_before known (ws ++ qs) (length ws + p))))) →
    (after : Known) → Flagged known (length ws + p) (not new) after →
    Passed ws qs before first (constants_among (take (p + 1 - start) (take (end - start) (drop start qs)))) after (p + 1)
node-step {ws} {qs} {before} {known} {first} {p} start end ordered within inside so_far term is new e after f =
    let word = passed-word ws qs known p inside term so_far.later after (rw e at f) in
    rw (among_next qs start end p ordered within) (passed_then so_far (rw is at word))

-- no flag stands after the instance's words
passes-long : (ars earlier : List ℕ) (left : ℕ) (ws : List ℕ) → length (passes ars earlier left ws) ≡ length ws
unfolding passes
passes-long ars earlier left [] = refl
passes-long ars earlier zero (w ∷ ws) = ap suc (passes-long ars earlier (arity_of ars w) ws)
passes-long ars earlier (suc left) (w ∷ ws) = ap suc (passes-long ars (earlier ++ w ∷ []) left ws)

pub none-behind : (ars ws : List ℕ) (q : ℕ) → length ws ≤ q → get_or (passes ars [] 0 ws) q false ≡ false
none-behind ars ws q l = get_or-eq_default (passes ars [] 0 ws) false {n = q} (omega (arith, passes-long ars [] 0 ws))

-- the whole question was walked
pub passed-whole :
    {ws qs : List ℕ} {before after : Known} {named : List ℕ} → Passed ws qs before 0 named after (length qs) → unpassed after 0 (ws ++ qs) ≡ listing (unpassed before 0 ws) named
unfolding unpassed
passed-whole {ws} {qs} {before} {after} {named} f =
    sym (ap (unpassed after 0) (take_all (length ws + length qs) (ws ++ qs) (omega (arith, length-append ws qs)))) ∙ f.walks ∙
    ap (λ (l : List ℕ). listing l named) (stood_parts before ws qs 0 ∙ append-nil (unpassed before 0 ws))
