-- The chains of a list of values: followed from one index to the next, and extended by a value. Assumes nothing.
use Prim.Native.Nat.{ℕ, ◌+◌, ◌-◌, ◌*◌, ◌≤◌, ◌<◌}
use mathlib.Core.Path.{◌≡◌, refl, sym, ap, ◌∙◌}
use mathlib.Core.Bool.{Bool, true, false, ◌||◌, or-true}
use mathlib.Core.List.{List, [], ◌∷◌, ◌++◌, map, map-append}
use native.Mathlib.Numerals.{add-one}
use native.Mathlib.Omega.{arith}
use borrow.Author.Tests.{eqb-true, eqb-false, eq-eqb, ne_eqb}
use lib.ListN.{length, get_or, set, take, replicate, length-set, length-replicate, get_or-replicate, drop, length-append}
use lib.Seq.{take-suc, take-set-le, drop-set-lt, get_or-set_same, get_or-set_other, drop-drop}
use lib.Dec.{eqb}
use Rattle.calculus.specs.Listed.{listed}
use Rattle.domain.specs.Bucket.{buckets, bucket_of}
use Rattle.domain.specs.Chains.{link_unit, word_value, word_link, values_of, Chain, Linked, Chained, Added}
use Rattle.calculus.specs.Domain.{listing}
use Rattle.calculus.proofs.Listing.{listing-append}

-- one value after others: the cell, or another
module _ (c x : ℕ) where
  listed_last : (vs : List ℕ) → x ≡ c → listed c (vs ++ x ∷ []) ≡ true
  unfolding listed
  listed_last [] e = simp (eq-eqb x c e)
  listed_last (v ∷ vs) e = rw (listed_last vs e) (or-true (eqb v c))

  listed-other : (vs : List ℕ) → (x ≡ c → ⊥) → listed c (vs ++ x ∷ []) ≡ listed c vs
  unfolding listed
  listed-other [] ne = simp (ne_eqb x c ne)
  listed-other (v ∷ vs) ne = ap (λ (b : Bool). eqb v c || b) (listed-other vs ne)

values_more : (i : ℕ) (ws : List ℕ) → i < length ws → values_of (i + 1) ws ≡ values_of i ws ++ word_value (get_or ws i 0) ∷ []
values_more i ws l = ap (λ (k : ℕ). values_of k ws) (add-one i) ∙ ap (map word_value) (take-suc ws i 0 l) ∙ map-append word_value (take i ws) (get_or ws i 0 ∷ [])

-- at index p, counted from 1, of the chain of c's bucket through n words
module _ {ws : List ℕ} {c n p : ℕ} (links : Linked ws n) (s : Chain ws c n p) (l : p ≤ length ws) (at : 0 < p) where
  abbrev here : ℕ
  here = get_or ws (p - 1) 0

  here_last : values_of p ws ≡ values_of (p - 1) ws ++ word_value here ∷ []
  here_last = let e : p ≡ p - 1 + 1 = omega arith in ap (λ (k : ℕ). values_of k ws) e ∙ values_more (p - 1) ws (omega arith)

  next : Chain ws c (p - 1) (word_link here)
  next = let w = s.within in links (p - 1) c (omega arith) (s.bucket at)

  pub chain_falls : word_link here < p
  chain_falls = let w = next.within in omega arith

  -- c is found
  pub chain_ends : word_value here ≡ c → listed c (values_of n ws) ≡ true
  chain_ends e = s.same ∙ ap (listed c) here_last ∙ listed_last c (word_value here) (values_of (p - 1) ws) e

  -- or the chain goes on
  pub chain_goes : (word_value here ≡ c → ⊥) → Chain ws c n (word_link here)
  chain_goes ne = record {
    within = let w = s.within in let v = next.within in omega arith;
    same = s.same ∙ ap (listed c) here_last ∙ listed-other c (word_value here) (values_of (p - 1) ws) ne ∙ next.same;
    bucket = next.bucket;
  }

-- at its end, c is not listed
pub chain_none : {ws : List ℕ} {c n p : ℕ} → Chain ws c n p → p ≤ 0 → listed c (values_of n ws) ≡ false
unfolding listed
chain_none {p = p} s l = let e : p ≡ 0 = omega arith in s.same ∙ rw e

-- no values are listed at the start
pub chained_starts : (ws : List ℕ) → Chained (replicate buckets 0) ws 0
chained_starts ws = record {
  size = length-replicate {A = ℕ} buckets 0;
  links = λ i c l e. absurd (omega arith);
  starts = λ c.
      rw (get_or-replicate {A = ℕ} buckets (bucket_of c) 0 0 (omega arith))
      (record { within = omega arith; same = refl; bucket = λ l. absurd (omega arith) });
}

-- a store after the first n words does not change them
module _ (ws : List ℕ) (n w : ℕ) where
  chain_kept : {c i p : ℕ} → i ≤ n → Chain ws c i p → Chain (set ws n w) c i p
  chain_kept {i = i} {p = p} l s =
      let v = s.within in
      record {
        within = v;
        same = rw (take-set-le i ws n w l, take-set-le p ws n w (omega arith)) s.same;
        bucket = λ at. rw (get_or-set_other ws n (p - 1) w 0 (λ e. omega arith)) (s.bucket at);
      }

-- a cell stored after n values, linked to the head of its bucket
module _ {heads ws : List ℕ} {n : ℕ} (s : Chained heads ws n) (room : n < length ws) (c : ℕ) (small : c < link_unit) where
  abbrev word : ℕ
  word = c + link_unit * get_or heads (bucket_of c) 0

  abbrev longer : List ℕ
  longer = set ws n word

  at_value : word_value (get_or longer n 0) ≡ c
  at_value = rw (get_or-set_same ws n word 0 room) (omega arith)

  at_link : word_link (get_or longer n 0) ≡ get_or heads (bucket_of c) 0
  at_link = rw (get_or-set_same ws n word 0 room) (omega arith)

  values_last : values_of (n + 1) longer ≡ values_of n longer ++ c ∷ []
  values_last = values_more n longer (omega (arith, length-set ws n word)) ∙ rw at_value refl

  kept : (d : ℕ) → Chain longer d n (get_or heads (bucket_of d) 0)
  kept d = chain_kept ws n word (omega arith) (s.starts d)

  links_more : Linked longer (n + 1)
  links_more i d l e = go (eqb i n) refl
    where
      go : (b : Bool) → eqb i n ≡ b → Chain longer d i (word_link (get_or longer i 0))
      go true q =
          let p : i ≡ n = eqb-true i n q in
          let same : bucket_of c ≡ bucket_of d = rw (p, at_value) at e in
          rw (p, at_link) (rw (← same) at (kept d))
      go false q =
          let ne = eqb-false i n q in
          let before : get_or longer i 0 ≡ get_or ws i 0 = get_or-set_other ws n i word 0 ne in
          rw before (chain_kept ws n word (omega arith) (s.links i d (omega arith) (rw before at e)))

  starts_more : (d : ℕ) → Chain longer d (n + 1) (get_or (set heads (bucket_of c) (n + 1)) (bucket_of d) 0)
  starts_more d = go (eqb (bucket_of d) (bucket_of c)) refl
    where
      go : (b : Bool) → eqb (bucket_of d) (bucket_of c) ≡ b → Chain longer d (n + 1) (get_or (set heads (bucket_of c) (n + 1)) (bucket_of d) 0)
      go true q =
          let p : bucket_of d ≡ bucket_of c = eqb-true _ _ q in
          let back : n + 1 - 1 ≡ n = omega arith in
          rw (p, get_or-set_same heads (bucket_of c) (n + 1) 0 (omega (arith, s.size)))
          (record { within = omega arith; same = refl; bucket = λ at. rw (back, at_value) (sym p) })
      go false q =
          let ne = eqb-false _ _ q in
          let k = kept d in
          let v = k.within in
          rw (get_or-set_other heads (bucket_of c) (bucket_of d) (n + 1) 0 ne)
          (record {
            within = omega arith;
            same = ap (listed d) values_last ∙ listed-other d c (values_of n longer) (λ e. ne (ap bucket_of (sym e))) ∙ k.same;
            bucket = k.bucket;
          })

  pub chained_more : Chained (set heads (bucket_of c) (n + 1)) longer (n + 1)
  chained_more = record { size = length-set heads (bucket_of c) (n + 1) ∙ s.size; links = links_more; starts = starts_more }

  pub added_new : listed c (values_of n ws) ≡ false → Added ws n (c ∷ []) longer (n + 1)
  unfolding listing
  added_new e = record {
    least = omega arith;
    most = omega arith;
    long = length-set ws n word;
    values = values_last ∙ rw (take-set-le n ws n word (omega arith), e) refl;
    kept = drop-set-lt (n + 1) ws n word (omega arith);
  }

-- a cell that is listed already
pub added_old : (ws : List ℕ) (n c : ℕ) → listed c (values_of n ws) ≡ true → Added ws n (c ∷ []) ws n
unfolding listing
added_old ws n c e = record { least = omega arith; most = omega arith; long = refl; values = rw e refl; kept = refl }

-- no cell
pub added_none : (ws : List ℕ) (n : ℕ) → Added ws n [] ws n
unfolding listing
added_none ws n = record { least = omega arith; most = omega arith; long = refl; values = refl; kept = refl }

-- cells, and then more cells
pub added_then : {a b d cs ds : List ℕ} {n m k : ℕ} → Added a n cs b m → Added b m ds d k → Added a n (cs ++ ds) d k
added_then {a} {b} {d} {cs} {ds} {n} {m} {k} s t =
    let low = s.least in
    let more = t.least in
    let e : m + (k - m) ≡ k = omega arith in
    let past : (xs : List ℕ) → drop k xs ≡ drop (k - m) (drop m xs) = λ xs. ap (λ (j : ℕ). drop j xs) (sym e) ∙ sym (drop-drop (k - m) m xs) in
    record {
      least = omega arith;
      most = omega (arith, s.most, t.most, length-append cs ds);
      long = t.long ∙ s.long;
      values = t.values ∙ ap (λ (vs : List ℕ). listing vs ds) s.values ∙ sym (listing-append (values_of n a) cs ds);
      kept = t.kept ∙ past b ∙ ap (drop (k - m)) s.kept ∙ sym (past a);
    }
