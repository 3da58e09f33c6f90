-- What a budget covers of an atom: the atom itself, and a number of rows. Assumes nothing.
use Prim.Native.Nat.{ℕ, ◌+◌, ◌≤◌, ◌<◌}
use mathlib.Core.Path.{◌≡◌, sym, ap, ◌∙◌}
use mathlib.Core.List.{List}
use native.Mathlib.Omega.{arith}
use lib.ListN.{length, take}
use lib.Seq.{length-take-le, take_all}
use Rattle.calculus.specs.declared.truth.Truth.TheVariants.{True}
use Rattle.calculus.specs.Eval.{Outcome}
use Rattle.calculus.specs.Closed.{stands, examined}
use Rattle.calculus.proofs.UpTo.{examined_le}
use Rattle.calculus.proofs.Examined.{front_stands, front_examined, beyond_front}
use Rattle.evaluate.specs.declared.evaluated.Evaluated.TheVariants.{Verdict, Spent}
use Rattle.evaluate.specs.Within.{within}
use Rattle.evaluate.proofs.Budget.{spent, verdict, verdicts}

-- the outcome of an atom over these tuples
abbrev pub atom_of : List (List ℕ) → List ℕ → Outcome
atom_of ts row = record { truth = stands ts row; cost = 1 + examined ts row }

module _ (b k : ℕ) (ts : List (List ℕ)) (row : List ℕ) where
  -- the budget covers no row after the first k, there are more, and none of the k is identical
  pub beyond_spent : b ≤ k + 1 → k < length ts → (stands (take k ts) row ≡ True → ⊥) → within b (atom_of ts row) ≡ Spent
  beyond_spent dear more none = spent b (atom_of ts row) (omega (arith, beyond_front k ts row none more))

  module _ (covered : k + 1 ≤ b) (few : k ≤ length ts) where
    -- the first k rows say what all of them say
    front-verdict :
        stands (take k ts) row ≡ stands ts row → examined (take k ts) row ≡ examined ts row →
        Verdict (stands (take k ts) row) (1 + examined (take k ts) row) ≡ within b (atom_of ts row)
    front-verdict same charge =
        let low = examined_le (take k ts) row in
        verdicts same (ap (λ (n : ℕ). 1 + n) charge) ∙ sym (verdict b (atom_of ts row) (omega (arith, charge, low, length-take-le k ts few)))

    pub found_verdict : stands (take k ts) row ≡ True → Verdict (stands (take k ts) row) (1 + examined (take k ts) row) ≡ within b (atom_of ts row)
    found_verdict e = front-verdict (e ∙ sym (front_stands k ts row e)) (front_examined k ts row e)

    pub all-verdict : length ts ≤ k → Verdict (stands (take k ts) row) (1 + examined (take k ts) row) ≡ within b (atom_of ts row)
    all-verdict all =
        let whole = take_all k ts all in
        front-verdict (ap (λ (us : List (List ℕ)). stands us row) whole) (ap (λ (us : List (List ℕ)). examined us row) whole)
