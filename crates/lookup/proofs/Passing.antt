-- Rows that are passed over for one column change neither the verdict nor, beyond their own number, the rows examined. Assumes nothing.
use Prim.Native.Nat.{ℕ, suc, ◌+◌, ◌≤◌, ◌<◌}
use mathlib.Core.Path.{◌≡◌, refl, sym, ap, subst, ◌∙◌}
use mathlib.Core.Bool.{Bool, true, false, not, ◌&&◌, cond}
use mathlib.Core.List.{List, [], ◌∷◌, map}
use native.Mathlib.Omega.{arith}
use borrow.Author.Tests.{eq-eqb, ne_eqb, lt-ltb, le-ltb, eqb-false, ltb-true, not-true}
use lib.Dec.{eqb, ltb}
use lib.ListN.{length, get_or, get_or-map}
use Rattle.calculus.proofs.Bools.{and_parts}
use Rattle.calculus.proofs.Cells.{cell_below}
use Rattle.calculus.proofs.Tuples.{identical-is}
use Rattle.calculus.proofs.Unification.{unifies_agrees}
use Rattle.calculus.specs.Cell.{constants, is_constant, is_cell}
use Rattle.calculus.specs.Closed.{identical, examined}
use Rattle.calculus.specs.Unify.{Valuation, under, unifies}
use Rattle.lookup.specs.Matching.{matching, match_after}
use Rattle.lookup.specs.Passing.{limit_of, told_apart, passing}
use Rattle.lookup.proofs.Atom.{truth_from, truth_after, truth-step, examined_after, examined-step}

-- ---- one tuple more

module _ (test : List ℕ → Bool) (t : List ℕ) (ts : List (List ℕ)) where
  pub passing_stops : test t ≡ false → passing test (t ∷ ts) ≡ t ∷ ts
  unfolding passing
  passing_stops e = simp e

  pub passing-goes_on : test t ≡ true → passing test (t ∷ ts) ≡ passing test ts
  unfolding passing
  passing-goes_on e = simp e

-- the test by its meaning
module _ (column cell limit : ℕ) (t : List ℕ) where
  pub told_same : get_or t column 0 ≡ cell → told_apart column cell limit t ≡ false
  told_same e = simp (eq-eqb _ _ e)

  pub told-high : limit ≤ get_or t column 0 → told_apart column cell limit t ≡ false
  told-high l = simp (le-ltb _ _ l, and_false (not (eqb (get_or t column 0) cell)))
    where
      and_false : (b : Bool) → b && false ≡ false
      and_false true = refl
      and_false false = refl

  pub told-low : (get_or t column 0 ≡ cell → ⊥) → get_or t column 0 < limit → told_apart column cell limit t ≡ true
  told-low ne l = simp (ne_eqb _ _ ne, lt-ltb _ _ l)

  told_apart_lem : told_apart column cell limit t ≡ true → (get_or t column 0 ≡ cell → ⊥) × (get_or t column 0 < limit)
  told_apart_lem e =
      let p = and_parts (not (eqb (get_or t column 0) cell)) (ltb (get_or t column 0) limit) e in
      (eqb-false _ _ (not-true _ p.0), ltb-true _ _ p.1)

-- ---- what passing over changes

pub passing_shorter : (test : List ℕ → Bool) (ts : List (List ℕ)) → length (passing test ts) ≤ length ts
unfolding passing
passing_shorter test [] = omega arith
passing_shorter test (t ∷ ts) = go (test t) (passing_shorter test ts)
  where
    go : (b : Bool) → length (passing test ts) ≤ length ts → length (cond b (passing test ts) (t ∷ ts)) ≤ length (t ∷ ts)
    go true rest = omega (arith, rest)
    go false rest = omega arith

-- the limit before a row has unified: two cells below it are constants
limit_constants : (cell c : ℕ) → c < limit_of false cell → (cell < constants) × (c < constants)
unfolding limit_of
limit_constants cell c l = go (is_constant cell) refl l
  where
    go : (b : Bool) → is_constant cell ≡ b → c < cond b constants 0 → (cell < constants) × (c < constants)
    go true e l = (ltb-true cell constants e, l)
    go false e l = absurd (omega (arith, l))

-- the limit after one: every cell is below it
pub limit_any : (cell c : ℕ) → is_cell c ≡ true → c < limit_of true cell
unfolding limit_of
limit_any cell c e = omega (arith, cell_below c e)

-- a constant stays under every valuation, so two different ones in a column keep rows from unifying
under-constant : (v : Valuation) (c : ℕ) → c < constants → under v c ≡ c
under-constant v c l = ap (λ (b : Bool). cond b c (v.value c)) (lt-ltb c constants l)

column-under : (v : Valuation) (xs ys : List ℕ) → map (under v) xs ≡ map (under v) ys → (i : ℕ) → under v (get_or xs i 0) ≡ under v (get_or ys i 0)
column-under v xs ys e i =
    sym (get_or-map (under v) xs i 0) ∙ ap (λ (l : List ℕ). get_or l i (under v 0)) e ∙ get_or-map (under v) ys i 0

constants-apart :
    (xs ys : List ℕ) (i : ℕ) → (get_or ys i 0 ≡ get_or xs i 0 → ⊥) → get_or xs i 0 < constants → get_or ys i 0 < constants → unifies xs ys ≡ false
constants-apart xs ys i ne p q = go (unifies xs ys) refl
  where
    go : (b : Bool) → unifies xs ys ≡ b → b ≡ false
    go false e = refl
    go true e =
        let u = (unifies_agrees xs ys).0 e in
        let v = u.valuation in
        absurd (ne (sym (sym (under-constant v _ p) ∙ column-under v xs ys u.equal i ∙ under-constant v _ q)))

module _ (possible : Bool) (column : ℕ) (row : List ℕ) where
  abbrev cell : ℕ
  cell = get_or row column 0

  abbrev test : List ℕ → Bool
  test = told_apart column cell (limit_of possible cell)

  -- a tuple that is passed over is not identical, and it does not unify where that matters
  not_identical : (t : List ℕ) → test t ≡ true → identical row t ≡ false
  not_identical t e = go (identical row t) refl
    where
      go : (b : Bool) → identical row t ≡ b → b ≡ false
      go false f = refl
      go true f = absurd ((told_apart_lem column cell (limit_of possible cell) t e).0 (ap (λ (l : List ℕ). get_or l column 0) (sym (identical-is row t f))))

  not_unifying : (t : List ℕ) → test t ≡ true → possible ≡ false → unifies row t ≡ false
  not_unifying t e f =
      let p = told_apart_lem column cell (limit_of possible cell) t e in
      let l = limit_constants cell (get_or t column 0) (subst (λ (b : Bool). get_or t column 0 < limit_of b cell) f p.1) in
      constants-apart row t column p.0 l.0 l.1

  -- so it leaves the verdict to the tuples after it, and is examined
  told : (t : List ℕ) (ts : List (List ℕ)) → test t ≡ true →
      (truth_from possible (t ∷ ts) row ≡ truth_from possible ts row) × (examined (t ∷ ts) row ≡ suc (examined ts row))
  unfolding matching
  told t ts e =
      let p = go possible (not_unifying t e) in (truth-step possible t ts row ∙ p.0, examined-step possible t ts row ∙ p.1)
    where
      go : (b : Bool) → (b ≡ false → unifies row t ≡ false) →
          (truth_after (match_after b row t) b ts row ≡ truth_from b ts row) × (examined_after (match_after b row t) ts row ≡ suc (examined ts row))
      go true none = rw (not_identical t e) (refl, refl)
      go false none = rw (not_identical t e, none refl) (refl, refl)

  -- the tuples l say the same as ts, and as many as they lack are examined
  abbrev Same : List (List ℕ) → List (List ℕ) → Type 0
  Same ts l = (truth_from possible ts row ≡ truth_from possible l row) × (examined ts row + length l ≡ examined l row + length ts)

  pub passed : (ts : List (List ℕ)) → Same ts (passing test ts)
  unfolding passing
  passed [] = (refl, refl)
  passed (t ∷ ts) = go (test t) refl (passed ts)
    where
      go : (b : Bool) → test t ≡ b → Same ts (passing test ts) → Same (t ∷ ts) (cond b (passing test ts) (t ∷ ts))
      go true e rest = let p = told t ts e in (p.0 ∙ rest.0, omega (arith, p.1, rest.1))
      go false e rest = (refl, refl)
