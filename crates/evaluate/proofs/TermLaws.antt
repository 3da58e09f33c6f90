-- Terms in a node's words. Assumes nothing.
use Prim.Native.Nat.{ℕ, zero, suc, ◌+◌, ◌-◌, ◌≤◌, ◌<◌}
use mathlib.Core.Path.{◌≡◌, refl, sym, ap, ◌∙◌}
use mathlib.Core.Bool.{true, ◌&&◌}
use mathlib.Core.List.{List, [], ◌∷◌, ◌++◌}
use native.Mathlib.Nat.{add-zero, add-suc, suc-add}
use native.Mathlib.Numerals.{add-one}
use native.Mathlib.Omega.{arith}
use lib.ListN.{length, take, set}
use lib.Dec.{leb, ltb}
use borrow.Author.Tests.{le-leb, lt-leb, le-ltb, ltb-true}
use Rattle.calculus.specs.Cell.{constants}
use Rattle.calculus.specs.Padded.{padded}
use Rattle.calculus.specs.Formula.{Term, const, var, value, values, variables}
use Rattle.instance.specs.Header.{max_columns}
use Rattle.query.specs.Words.{word_at}
use Rattle.query.specs.Tree.{variable_base, term_of, terms_at}
use Rattle.query.specs.Check.{is_term}
use Rattle.calculus.proofs.Bools.{and_parts}
use Rattle.calculus.proofs.Padded.{padded_more, padded_front}

pub below_base : (w : ℕ) → w < variable_base → term_of w ≡ const w
unfolding term_of
below_base w h = rw (lt-leb variable_base w h)

pub from_base : (w : ℕ) → variable_base ≤ w → term_of w ≡ var (w - variable_base)
unfolding term_of
from_base w h = rw (le-leb variable_base w h)

-- a term that is not a constant is one of 16 variables
pub few-variables : (w : ℕ) → is_term w ≡ true → variable_base ≤ w → w - variable_base < variables
few-variables w t h =
    let rest : (leb variable_base w && ltb w (variable_base + variables)) ≡ true = rw (le-ltb w constants (omega arith)) at t in
    omega (arith, ltb-true w (variable_base + variables) (and_parts (leb variable_base w) (ltb w (variable_base + variables)) rest).1)

pub terms_more : (qs : List ℕ) (i j k : ℕ) → terms_at qs i j (suc k) ≡ terms_at qs i j k ++ term_of (word_at qs i (j + k)) ∷ []
unfolding terms_at
terms_more qs i j zero = ap (λ (x : ℕ). term_of (word_at qs i x) ∷ []) (sym (add-zero j))
terms_more qs i j (suc k) =
    ap (λ (l : List Term). term_of (word_at qs i j) ∷ l) (terms_more qs i (suc j) k) ∙
    ap (λ (x : ℕ). term_of (word_at qs i j) ∷ (terms_at qs i (suc j) k ++ term_of (word_at qs i x) ∷ [])) (suc-add j k ∙ sym (add-suc j k))

pub values_more : (e : List ℕ) (ts : List Term) (t : Term) → values e (ts ++ t ∷ []) ≡ values e ts ++ value e t ∷ []
values_more e [] t = refl
values_more e (s ∷ ts) t = ap (λ (l : List ℕ). value e s ∷ l) (values_more e ts t)

terms-long : (qs : List ℕ) (i j k : ℕ) (e : List ℕ) → length (values e (terms_at qs i j k)) ≡ k
unfolding terms_at
terms-long qs i j zero e = refl
terms-long qs i j (suc k) e = ap suc (terms-long qs i (suc j) k e)

-- one more term of a row
pub row_more :
    (qs : List ℕ) (i : ℕ) (e row : List ℕ) (j v : ℕ) → j < max_columns → row ≡ padded max_columns (values e (terms_at qs i 2 j)) →
    v ≡ value e (term_of (word_at qs i (2 + j))) → set row j v ≡ padded max_columns (values e (terms_at qs i 2 (j + 1)))
row_more qs i e row j v room so_far is =
    ap (λ (l : List ℕ). set l j v) so_far ∙ padded_more max_columns (values e (terms_at qs i 2 j)) j v (terms-long qs i 2 j e) room ∙
    ap (padded max_columns)
    (ap (λ (x : ℕ). values e (terms_at qs i 2 j) ++ x ∷ []) is ∙
    sym (values_more e (terms_at qs i 2 j) (term_of (word_at qs i (2 + j)))) ∙ ap (values e) (sym (terms_more qs i 2 j)) ∙
    ap (λ (n : ℕ). values e (terms_at qs i 2 n)) (sym (add-one j)))

-- the row that a node asks about begins with the values of its terms
module _ (qs : List ℕ) (i : ℕ) (e row : List ℕ) (arity : ℕ) (is : row ≡ padded max_columns (values e (terms_at qs i 2 arity))) where
  pub row_front : take arity row ≡ values e (terms_at qs i 2 arity)
  row_front = ap (take arity) is ∙ padded_front max_columns arity (values e (terms_at qs i 2 arity)) (terms-long qs i 2 arity e)
