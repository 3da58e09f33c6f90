-- Lists of constants, and what keeps them so. Assumes nothing.
use Prim.Native.Nat.{ℕ}
use mathlib.Core.Path.{◌≡◌, refl}
use mathlib.Core.Bool.{Bool, true, false, cond}
use mathlib.Core.List.{List, [], ◌∷◌, map}
use lib.Dec.{eqb}
use Rattle.calculus.specs.Cell.{is_constant, all_constant}
use Rattle.calculus.specs.Domain.{without, distinct}
use Rattle.calculus.specs.Formula.{Term, const, var, value, values, term_passes, terms_pass}
use Rattle.calculus.proofs.Bools.{and_parts, and_intro}
use Rattle.calculus.specs.Order.{Fixes}
use Rattle.calculus.specs.All.{all}
use Rattle.calculus.proofs.All.{all_get_d}

pub constant-without : (x : ℕ) (cs : List ℕ) → all_constant cs ≡ true → all_constant (without x cs) ≡ true
unfolding all without
constant-without x [] h = refl
constant-without x (c ∷ cs) h =
    let b = and_parts (is_constant c) (all_constant cs) h in
    go (eqb c x) b.0 (constant-without x cs b.1)
  where
    go : (p : Bool) → is_constant c ≡ true → all_constant (without x cs) ≡ true → all_constant (cond p (without x cs) (c ∷ without x cs)) ≡ true
    go true k r = r
    go false k r = and_intro k r

pub constant-distinct : (cs : List ℕ) → all_constant cs ≡ true → all_constant (distinct cs) ≡ true
unfolding all distinct
constant-distinct [] h = refl
constant-distinct (c ∷ cs) h =
    let b = and_parts (is_constant c) (all_constant cs) h in
    and_intro b.0 (constant-without c (distinct cs) (constant-distinct cs b.1))

-- a map that changes no number that passes a test changes no list of such numbers
pub fixes_all : (test : ℕ → Bool) (h : ℕ → ℕ) → Fixes test h → (cs : List ℕ) → all test cs ≡ true → map h cs ≡ cs
unfolding all
fixes_all test h fixes [] k = refl
fixes_all test h fixes (c ∷ cs) k =
    let b = and_parts (test c) (all test cs) k in
    rw (fixes c b.0, fixes_all test h fixes cs b.1) refl

module _ (e : List ℕ) (known : all_constant e ≡ true) where
  pub constant-value : (t : Term) → term_passes is_constant t ≡ true → is_constant (value e t) ≡ true
  constant-value (const c) k = k
  constant-value (var v) k = all_get_d is_constant e v 0 refl known

  pub constant-values : (ts : List Term) → terms_pass is_constant ts ≡ true → all_constant (values e ts) ≡ true
  unfolding all
  constant-values [] k = refl
  constant-values (t ∷ ts) k =
      let b = and_parts (term_passes is_constant t) (terms_pass is_constant ts) k in
      and_intro (constant-value t b.0) (constant-values ts b.1)
