-- Fresh constants: a block of 200 that no value of a list is in, the valuation that gives each null its own constant of
-- the block, and the way back. Assumes nothing.
use Prim.Native.Nat.{ℕ, zero, suc, ◌+◌, ◌-◌, ◌*◌, ◌/◌, ◌%◌, ◌<◌}
use mathlib.Core.Path.{◌≡◌, refl, sym, ap, ◌∙◌}
use mathlib.Core.Bool.{Bool, true, false, not, ◌&&◌, ◌||◌, cond}
use mathlib.Core.List.{List, [], ◌∷◌, map}
use native.Mathlib.Omega.{arith}
use lib.ListN.{length, length-map}
use lib.Dec.{eqb, ltb, leb}
use borrow.Author.Tests.{eqb-true, eq-eqb, ne_eqb, lt-ltb, ltb-true, leb-true, not-true}
use Rattle.calculus.specs.All.{all}
use Rattle.calculus.specs.Cell.{constants, nulls, null, is_constant, is_null, is_cell}
use Rattle.calculus.specs.Domain.{without}
use Rattle.calculus.specs.Unify.{Valuation, under}
use Rattle.calculus.proofs.All.{all_unmap}
use Rattle.calculus.proofs.Bools.{false_not_true, and_parts, and_intro}
use Rattle.calculus.proofs.Distinct.{without_le}

-- ---- a number that a list lacks

-- no element of a list is n
abbrev lacks : ℕ → List ℕ → Bool
lacks n cs = all (λ c. not (eqb c n)) cs

without_less : (n : ℕ) (cs : List ℕ) → lacks n cs ≡ false → length (without n cs) < length cs
unfolding all without
without_less n [] e = false_not_true (sym e)
without_less n (c ∷ cs) e = go (eqb c n) e (without_less n cs)
  where
    go :
        (b : Bool) → (not b && lacks n cs) ≡ false → (lacks n cs ≡ false → length (without n cs) < length cs) →
        length (cond b (without n cs) (c ∷ without n cs)) < suc (length cs)
    go true e later = omega (arith, without_le n cs)
    go false e later = omega (arith, later e)

-- if the list without n lacks m, and m is not n, the list lacks m
without_lacks : (m n : ℕ) (cs : List ℕ) → (n ≡ m → ⊥) → lacks m (without n cs) ≡ true → lacks m cs ≡ true
unfolding all without
without_lacks m n [] ne e = refl
without_lacks m n (c ∷ cs) ne e = go (eqb c n) refl e (without_lacks m n cs ne)
  where
    go :
        (b : Bool) → eqb c n ≡ b → lacks m (cond b (without n cs) (c ∷ without n cs)) ≡ true →
        (lacks m (without n cs) ≡ true → lacks m cs ≡ true) → lacks m (c ∷ cs) ≡ true
    go true p e later =
        let other = ne_eqb c m (λ q. ne (sym (eqb-true c n p) ∙ q)) in
        and_intro (ap not other) (later e)
    go false p e later = let b = and_parts (not (eqb c m)) (lacks m (without n cs)) e in and_intro b.0 (later b.1)

-- of n numbers, a shorter list lacks one
lacking : (n : ℕ) (cs : List ℕ) → length cs < n → (m : ℕ) × (m < n) × (lacks m cs ≡ true)
lacking zero cs l = absurd (omega arith)
lacking (suc n) cs l = go (lacks n cs) refl (lacking n (without n cs))
  where
    go :
        (b : Bool) → lacks n cs ≡ b →
        (length (without n cs) < n → (m : ℕ) × (m < n) × (lacks m (without n cs) ≡ true)) →
        (m : ℕ) × (m < suc n) × (lacks m cs ≡ true)
    go true e fewer = (n, omega arith, e)
    go false e fewer =
        let r = fewer (omega (arith, without_less n cs e)) in
        let low = r.1 in
        (r.0, omega arith, without_lacks r.0 n cs (λ q. omega arith) r.2)

-- ---- a block of constants

-- the block that a constant is in: as many constants as there are nulls
abbrev block_of : ℕ → ℕ
block_of c = c / nulls

abbrev pub blocks : ℕ
blocks = constants / nulls

-- a value that is not in block k
abbrev pub outside : ℕ → ℕ → Bool
outside k c = not (eqb (block_of c) k)

-- if there are fewer values than blocks, some block has none of them
pub free_block : (cs : List ℕ) → length cs < blocks → (k : ℕ) × (k < blocks) × (all (outside k) cs ≡ true)
free_block cs few =
    let r = lacking blocks (map block_of cs) (omega (arith, length-map cs block_of)) in
    (r.0, r.1, all_unmap (λ c. not (eqb c r.0)) block_of cs r.2)

module _ (k : ℕ) (low : k < blocks) where
  -- null m gets constant m - 1 of the block
  pub fresh : Valuation
  fresh = record {
    value = λ c. k * nulls + (c - null 1) % nulls;
    constant = λ c. lt-ltb (k * nulls + (c - null 1) % nulls) constants (omega arith);
  }

  -- a constant of the block stands for its null, every other value for itself
  pub back : ℕ → ℕ
  back c = cond (eqb (block_of c) k) (null (1 + c % nulls)) c

  pub back_outside : (c : ℕ) → outside k c ≡ true → back c ≡ c
  unfolding back
  back_outside c e = rw (not-true (eqb (block_of c) k) e)

  -- the way back, for cells outside the block
  pub back_fresh : (c : ℕ) → (is_cell c && outside k c) ≡ true → back (under fresh c) ≡ c
  unfolding back fresh is_cell
  back_fresh c e = let p = and_parts (is_constant c || is_null c) (outside k c) e in go (is_constant c) p.0 p.1
    where
      go :
          (b : Bool) → (b || is_null c) ≡ true → outside k c ≡ true →
          back (cond b c (k * nulls + (c - null 1) % nulls)) ≡ c
      go true cell out = rw (not-true (eqb (block_of c) k) out)
      go false cell out =
          let p = and_parts (ltb constants c) (leb c (constants + nulls)) cell in
          let lo = ltb-true constants c p.0 in
          let hi = leb-true c (constants + nulls) p.1 in
          let block : block_of (k * nulls + (c - null 1) % nulls) ≡ k = omega arith in
          let place : null (1 + (k * nulls + (c - null 1) % nulls) % nulls) ≡ c = omega arith in
          rw (eq-eqb (block_of (k * nulls + (c - null 1) % nulls)) k block) place
