-- Reading one byte under its rule. Assumes nothing.
use Prim.Native.Nat.{ℕ, ◌+◌, ◌≤◌, ◌<◌}
use mathlib.Core.Path.{◌≡◌, ap, ◌∙◌}
use mathlib.Core.Bool.{Bool, true}
use mathlib.Core.List.{List, [], ◌∷◌}
use lib.ListN.{length, get_or, drop, drop_of_length-le}
use Rattle.calculus.specs.Demand.{demand}
use Rattle.calculus.specs.Reading.{read, refused}
use Rattle.calculus.specs.declared.refusal.Refusal.{Refusal}
use Rattle.calculus.specs.declared.refusal.Refusal.TheVariants.{CutShort}
use Rattle.calculus.proofs.Lists.{drop_step}
use Rattle.calculus.proofs.Reading.{refused-read, demand-read}
use Rattle.parse.specs.Parse.{read_byte}

module _ (rule : ℕ → Bool) (why : Refusal) where
  pub byte_read : (bs : List ℕ) {x : ℕ} {drop_step : List ℕ} → read_byte rule why bs ≡ read x drop_step → (bs ≡ x ∷ drop_step) × (rule x ≡ true)
  unfolding read_byte
  byte_read [] e = refused-read e
  byte_read (b ∷ bs) {x} {drop_step} e =
      let d = demand-read (rule b) why (read b bs) e in
      let same : x ≡ b = cc d.1 in
      (cc d.1, ap rule same ∙ d.0)

  -- the byte at index i of a list
  pub byte_at : (bs : List ℕ) (i : ℕ) → i < length bs
      → read_byte rule why (drop i bs) ≡ demand (rule (get_or bs i 0)) (refused why) (read (get_or bs i 0) (drop (i + 1) bs))
  unfolding read_byte
  byte_at bs i l = rw (drop_step bs i l)

  pub byte_cut : (bs : List ℕ) (i : ℕ) → length bs ≤ i → read_byte rule why (drop i bs) ≡ refused CutShort
  unfolding read_byte
  byte_cut bs i l = rw (drop_of_length-le bs l)
