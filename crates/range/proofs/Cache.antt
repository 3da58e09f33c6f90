-- The cache of cells that stood earlier: empty at first, and after a word more. Assumes nothing.
use Prim.Native.Nat.{ℕ, ◌+◌, ◌-◌, ◌<◌}
use mathlib.Core.Path.{◌≡◌, refl, sym, ap, ◌∙◌}
use mathlib.Core.Bool.{Bool, true, false, ◌||◌, cond}
use mathlib.Core.List.{List, [], ◌∷◌, ◌++◌}
use native.Mathlib.Omega.{arith}
use borrow.Author.Tests.{eqb-true, eqb-false, eq-eqb, ne_eqb}
use lib.Dec.{eqb}
use lib.ListN.{length, get_or, set, replicate, length-set, length-replicate, get_or-replicate}
use lib.Seq.{get_or-set_same, get_or-set_other}
use Rattle.calculus.specs.Listed.{listed}
use Rattle.calculus.proofs.Listed.{listed-left}
use Rattle.known.specs.declared.Known.{Known}
use Rattle.known.specs.Known.{unpassed, Flagged}
use Rattle.range.specs.Cache.{head_count, head_of, Head, Cached}
use Rattle.range.specs.Flagged.{stood_before}
use Rattle.range.proofs.Places.{stood-next}
use Rattle.range.proofs.Walked.{listed_snoc}

pub cached-starts : (known : Known) (ws : List ℕ) → Cached (replicate head_count 0) ws (stood_before known ws 0) 0
unfolding unpassed listed
cached-starts known ws = record {
  size = length-replicate {A = ℕ} head_count 0;
  heads_of = λ c.
      rw (get_or-replicate {A = ℕ} head_count (head_of c) 0 0 (omega arith))
      (record { none = λ e. refl; within = omega arith; stood = λ l. absurd (omega arith) });
}

-- a relation's number leaves it as it is
pub cached-relation :
    {heads : List ℕ} {known after : Known} {ws : List ℕ} {i : ℕ} → i < length ws → Cached heads ws (stood_before known ws i) i → Flagged known i true after →
    Cached heads ws (stood_before after ws (i + 1)) (i + 1)
cached-relation {ws = ws} l s f =
    rw (stood-next ws l f)
    (record {
      size = s.size;
      heads_of = λ c. let h = s.heads_of c in let w = h.within in record { none = h.none; within = omega arith; stood = h.stood };
    })

-- the values vs, and a cell c, which is taken in if it is new
module _ (vs : List ℕ) (c : ℕ) where
  abbrev grown : Bool → List ℕ
  grown b = cond b vs (vs ++ c ∷ [])

  grown_here : (b : Bool) → listed c vs ≡ b → listed c (grown b) ≡ true
  grown_here true e = e
  grown_here false e = listed_snoc c c vs ∙ ap (λ (b : Bool). b || listed c vs) (eq-eqb c c refl)

  grown_other : (d : ℕ) → (c ≡ d → ⊥) → (b : Bool) → listed d (grown b) ≡ listed d vs
  grown_other d ne true = refl
  grown_other d ne false = listed_snoc d c vs ∙ ap (λ (b : Bool). b || listed d vs) (ne_eqb c d ne)

  grown_left : (d : ℕ) → listed d vs ≡ true → (b : Bool) → listed d (grown b) ≡ true
  grown_left d e true = e
  grown_left d e false = listed-left d vs (c ∷ []) e

-- a cell's place becomes the head of its bucket
module _ {heads ws vs : List ℕ} {i : ℕ} (s : Cached heads ws vs i) where
  abbrev cell : ℕ
  cell = get_or ws i 0

  abbrev later : List ℕ
  later = cond (listed cell vs) vs (vs ++ cell ∷ [])

  head_more : (d : ℕ) (b : Bool) → eqb (head_of d) (head_of cell) ≡ b → Head ws later (i + 1) d (get_or (set heads (head_of cell) (i + 1)) (head_of d) 0)
  head_more d true q =
      let back : i + 1 - 1 ≡ i = omega arith in
      rw (eqb-true (head_of d) (head_of cell) q, get_or-set_same heads (head_of cell) (i + 1) 0 (omega (arith, s.size)))
      (record { none = λ e. absurd (omega arith); within = omega arith; stood = λ l. rw back (grown_here vs cell (listed cell vs) refl) })
  head_more d false q =
      let ne = eqb-false (head_of d) (head_of cell) q in
      let h = s.heads_of d in
      let w = h.within in
      rw (get_or-set_other heads (head_of cell) (head_of d) (i + 1) 0 ne)
      (record {
        none = λ e. grown_other vs cell d (λ p. ne (ap head_of (sym p))) (listed cell vs) ∙ h.none e;
        within = omega arith;
        stood = λ l. grown_left vs cell _ (h.stood l) (listed cell vs);
      })

  cached_more : Cached (set heads (head_of cell) (i + 1)) ws later (i + 1)
  cached_more = record {
    size = length-set heads (head_of cell) (i + 1) ∙ s.size;
    heads_of = λ d. head_more d (eqb (head_of d) (head_of cell)) refl;
  }

pub cached-cell :
    {heads : List ℕ} {known after : Known} {ws : List ℕ} {i : ℕ} (bucket : ℕ) → bucket ≡ head_of (get_or ws i 0) → i < length ws → Cached heads ws (stood_before known ws i) i →
    Flagged known i (listed (get_or ws i 0) (stood_before known ws i)) after → Cached (set heads bucket (i + 1)) ws (stood_before after ws (i + 1)) (i + 1)
cached-cell {ws = ws} bucket e l s f = rw (e, stood-next ws l f) (cached_more s)
