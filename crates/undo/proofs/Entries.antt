-- The latest entry of a log: its places as a slice of the log, and what undo returns. Assumes nothing.
use Prim.Native.Nat.{ℕ, ◌-◌, ◌<◌}
use mathlib.Core.Path.{◌≡◌, ap₂}
use mathlib.Core.Bool.{false, and-false}
use mathlib.Core.List.{List}
use borrow.Author.Tests.{lt-leb}
use lib.ListN.{take, drop}
use Rattle.calculus.specs.Answer.{Answer}
use Rattle.calculus.specs.Answer.{Tells}
use Rattle.calculus.specs.Fill.{entry_length}
use Rattle.calculus.proofs.Answers.{tells}
use Rattle.instance.specs.declared.header.Header.{Header}
use Rattle.undo_log.specs.Log.{last_count, last_places, entry_well_formed, undone}
use Rattle.undo_log.proofs.Accepted.{undo_accepted}

-- the places stand before the mark, as many as the count says: a part of the log that starts there, of that length
pub places-lent :
    (log : List ℕ) (used k i : ℕ) → k ≡ last_count log used → i ≡ used - entry_length (last_count log used) →
    take k (drop i log) ≡ last_places log used
places-lent log used k i size start = ap₂ (λ (k i : ℕ). take k (drop i log)) size start

module _ (h : Header) (ws log : List ℕ) (used : ℕ) where
  -- "the words in use .. fall short of the latest note"
  pub entry-short : used < entry_length (last_count log used) → entry_well_formed h ws log used ≡ false
  unfolding entry_well_formed
  entry-short l = simp (lt-leb (entry_length (last_count log used)) used l, and-false)

  pub undo-told :
      {r : Answer} {P Q : Type 0} → (r ≡ undone h ws log used) × (P × Q) →
      (r ≡ undone h ws log used) × (P × (Q × Tells r (undone h ws log used) (last_count log used)))
  undo-told p = (p.0, (p.1.0, (p.1.1, tells (last_count log used) p.0 (λ k d. (undo_accepted h ws log used k d).count))))
