-- The rows examined for kind 1: by their meaning, which settles their number, and in the front of a relation. Assumes nothing.
use Prim.Native.Nat.{ℕ, suc, ◌<◌}
use mathlib.Core.Path.{◌≡◌, refl, sym, ap, ◌∙◌}
use mathlib.Core.Bool.{Bool, true, false, ◌||◌}
use mathlib.Core.List.{List, [], ◌∷◌, ◌++◌, Memᴰ}
use lib.ListN.{length, take}
use Rattle.calculus.specs.declared.truth.Truth.TheVariants.{True}
use Rattle.calculus.specs.Closed.{some, identical, stands, examined}
use Rattle.calculus.specs.KindOne.{MeansExamined}
use Rattle.calculus.proofs.Bools.{false_not_true}
use Rattle.calculus.proofs.Tuples.{identical_refl, identical-is}
use Rattle.calculus.proofs.UpTo.{up_to_nothing, up_to-here, up_to_past, some_front, up_to_front, up_to_beyond}
use Rattle.calculus.proofs.KindOne.{some_member, stands_true}

module _ (row : List ℕ) where
  -- only the row itself is identical
  differs : (t : List ℕ) → (row ≡ t → ⊥) → identical row t ≡ false
  differs t other = go (identical row t) refl
    where
      go : (b : Bool) → identical row t ≡ b → identical row t ≡ false
      go true e = absurd (other (identical-is row t e))
      go false e = e

  examined-first : (before after : List (List ℕ)) → (Memᴰ row before → ⊥) → examined (before ++ (row ∷ after)) row ≡ suc (length before)
  unfolding examined
  examined-first [] after none = up_to-here (identical row) row after (identical_refl row)
  examined-first (t ∷ before) after none =
      up_to_past (identical row) t (before ++ (row ∷ after)) (differs t (λ e. none (mathlib.Core.List.Memᴰ.head e))) ∙
      ap suc (examined-first before after (λ m. none (mathlib.Core.List.Memᴰ.tail m)))

  examined-all : (ts : List (List ℕ)) → (Memᴰ row ts → ⊥) → examined ts row ≡ length ts
  unfolding examined
  examined-all [] none = up_to_nothing (identical row)
  examined-all (t ∷ ts) none =
      up_to_past (identical row) t ts (differs t (λ e. none (mathlib.Core.List.Memᴰ.head e))) ∙ ap suc (examined-all ts (λ m. none (mathlib.Core.List.Memᴰ.tail m)))

  pub examined_means : (ts : List (List ℕ)) → MeansExamined ts row (examined ts row)
  examined_means ts = record {
    first = λ before after is none. ap (λ (us : List (List ℕ)). examined us row) is ∙ examined-first before after none;
    none = examined-all ts;
  }

-- ---- no other number has the meaning

-- the tuples before the first identical one, and those after it
record First (row : List ℕ) (ts : List (List ℕ)) : Type 0 where
  before : List (List ℕ)
  after : List (List ℕ)
  is : ts ≡ before ++ (row ∷ after)
  none : Memᴰ row before → ⊥

module _ (row : List ℕ) where
  nowhere : Memᴰ row [] → ⊥
  nowhere m = elim m [ ]

  not_before : (t : List ℕ) (before : List (List ℕ)) → identical row t ≡ false → (Memᴰ row before → ⊥) → Memᴰ row (t ∷ before) → ⊥
  not_before t before other none (mathlib.Core.List.Memᴰ.head e) = false_not_true (sym other ∙ ap (identical row) (sym e) ∙ identical_refl row)
  not_before t before other none (mathlib.Core.List.Memᴰ.tail m) = none m

  first_of_lem : (ts : List (List ℕ)) → some (identical row) ts ≡ true → First row ts
  unfolding some
  first_of_lem [] e = false_not_true e
  first_of_lem (t ∷ ts) e = go (identical row t) refl e (first_of_lem ts)
    where
      go : (b : Bool) → identical row t ≡ b → (b || some (identical row) ts) ≡ true → (some (identical row) ts ≡ true → First row ts) → First row (t ∷ ts)
      go true p q rest = record { before = []; after = ts; is = ap (λ (u : List ℕ). u ∷ ts) (sym (identical-is row t p)); none = nowhere }
      go false p q rest =
          let f = rest q in
          record { before = t ∷ f.before; after = f.after; is = ap (λ (us : List (List ℕ)). t ∷ us) f.is; none = not_before t f.before p f.none }

  pub examined_settled : (ts : List (List ℕ)) (n : ℕ) → MeansExamined ts row n → n ≡ examined ts row
  examined_settled ts n m = go (some (identical row) ts) refl
    where
      go : (b : Bool) → some (identical row) ts ≡ b → n ≡ examined ts row
      go true e =
          let f = first_of_lem ts e in
          m.first f.before f.after f.is f.none ∙ sym ((examined_means row ts).first f.before f.after f.is f.none)
      go false e =
          let none : Memᴰ row ts → ⊥ = λ there. false_not_true (sym e ∙ some_member (identical row) row ts there (identical_refl row)) in
          m.none none ∙ sym ((examined_means row ts).none none)

-- ---- the front of a relation

module _ (k : ℕ) (ts : List (List ℕ)) (row : List ℕ) where
  -- an identical row in the front settles both
  pub front_stands : stands (take k ts) row ≡ True → stands ts row ≡ True
  front_stands e = (stands_true ts row).1 (some_front (identical row) k ts ((stands_true (take k ts) row).0 e))

  pub front_examined : stands (take k ts) row ≡ True → examined (take k ts) row ≡ examined ts row
  unfolding examined
  front_examined e = up_to_front (identical row) k ts ((stands_true (take k ts) row).0 e)

  -- without one in the front, rows after it are examined too
  pub beyond_front : (stands (take k ts) row ≡ True → ⊥) → k < length ts → k < examined ts row
  unfolding examined
  beyond_front not_there more = go (some (identical row) (take k ts)) refl
    where
      go : (b : Bool) → some (identical row) (take k ts) ≡ b → k < examined ts row
      go true e = absurd (not_there ((stands_true (take k ts) row).1 e))
      go false e = up_to_beyond (identical row) k ts e more
