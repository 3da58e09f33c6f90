-- What the three answers of the row test mean: the very row, a row that some valuation makes equal, and one that none does. Assumes nothing.
use Prim.Native.Nat.{ℕ}
use mathlib.Core.Path.{◌≡◌, refl, sym, ap, subst, ◌∙◌}
use mathlib.Core.Bool.{Bool, true, false, false≢true, cond}
use mathlib.Core.List.{List, [], ◌∷◌}
use native.Mathlib.Omega.{arith}
use Rattle.calculus.specs.Closed.{identical, stands}
use Rattle.calculus.specs.Unify.{Unify, unifies}
use Rattle.calculus.proofs.Tuples.{identical_refl, identical-is}
use Rattle.calculus.proofs.Unification.{unifies_agrees}
use Rattle.calculus.proofs.ClosedImage.{identical-unifies}
use Rattle.lookup.specs.declared.row.Match.{Match}
use Rattle.lookup.specs.declared.row.Match.TheVariants.{Identical, Unifies, Apart}
use Rattle.lookup.specs.Matching.{unified, matching, row_verdict}
use Rattle.lookup.specs.Place.{MeansMatch}
use Rattle.lookup.proofs.Matching.{row_verdict_lem}

-- the answers are different: each has a number of its own
abbrev number : Match → ℕ
number Identical = 0
number Unifies = 1
number Apart = 2

pub match_means : (xs ys : List ℕ) {m : Match} → m ≡ matching xs ys → MeansMatch xs ys m
unfolding matching
match_means xs ys e = go (identical xs ys) refl (unifies xs ys) refl e
  where
    differ : identical xs ys ≡ false → xs ≡ ys → ⊥
    differ f e = false≢true (sym f ∙ subst (λ (l : List ℕ). identical xs l ≡ true) e (identical_refl xs))

    go :
        (same : Bool) → identical xs ys ≡ same → (can : Bool) → unifies xs ys ≡ can → {m : Match} → m ≡ cond same Identical (unified can) →
        MeansMatch xs ys m
    go true s can u e =
        let equal = identical-is xs ys s in
        record {
          identical = (λ _. equal, λ _. e);
          unifies = (λ f. absurd (omega (arith, ap number (sym e ∙ f))), λ p. absurd (p.1 equal));
          apart = (λ f. absurd (omega (arith, ap number (sym e ∙ f))), λ none. absurd (none ((unifies_agrees xs ys).0 (identical-unifies xs ys s))));
        }
    go false s true u e =
        let may = (unifies_agrees xs ys).0 u in
        record {
          identical = (λ f. absurd (omega (arith, ap number (sym e ∙ f))), λ p. absurd (differ s p));
          unifies = (λ _. (may, differ s), λ _. e);
          apart = (λ f. absurd (omega (arith, ap number (sym e ∙ f))), λ none. absurd (none may));
        }
    go false s false u e =
        let none : Unify xs ys → ⊥ = λ p. false≢true (sym u ∙ (unifies_agrees xs ys).1 p) in
        record {
          identical = (λ f. absurd (omega (arith, ap number (sym e ∙ f))), λ p. absurd (differ s p));
          unifies = (λ f. absurd (omega (arith, ap number (sym e ∙ f))), λ p. absurd (none p.0));
          apart = (λ _. none, λ _. e);
        }

-- the answer with what it says: as a verdict on a relation that has only this row, and by its meaning
pub row_told :
    (xs ys : List ℕ) {m : Match} → m ≡ matching xs ys →
    (m ≡ matching xs ys) × ((row_verdict m ≡ stands (ys ∷ []) xs) × MeansMatch xs ys m)
row_told xs ys e = (e, (ap row_verdict e ∙ row_verdict_lem xs ys, match_means xs ys e))
