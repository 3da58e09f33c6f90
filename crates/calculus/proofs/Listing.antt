-- The values of a list of cells, listed from left to right: a cell that is not listed yet is appended. Assumes nothing.
use Prim.Native.Nat.{ℕ}
use mathlib.Core.Path.{◌≡◌, refl, sym, ap, ◌∙◌}
use mathlib.Core.Bool.{Bool, true, false, ◌||◌, cond, false≢true, true≢false}
use mathlib.Core.List.{List, [], ◌∷◌, ◌++◌, append-nil, append_assoc}
use borrow.Author.Tests.{eqb-true, eqb-false, eq-eqb, ne_eqb}
use lib.Dec.{eqb}
use Rattle.calculus.specs.Row.{Row, cells_of}
use Rattle.calculus.specs.Domain.{without, distinct, listing, domain, range_over}
use Rattle.calculus.specs.Listed.{listed}
use Rattle.calculus.proofs.Distinct.{without_skip, without_keep, without_comm, without_again}

pub listing-append : (vs cs ds : List ℕ) → listing vs (cs ++ ds) ≡ listing (listing vs cs) ds
unfolding listing
listing-append vs [] ds = refl
listing-append vs (c ∷ cs) ds = listing-append (cond (listed c vs) vs (vs ++ c ∷ [])) cs ds

-- a list with every value of vs left out
unfoldable without_all : List ℕ → List ℕ → List ℕ
without_all [] l = l
without_all (v ∷ vs) l = without_all vs (without v l)

all_nil : (vs : List ℕ) → without_all vs [] ≡ []
unfolding without_all without
all_nil [] = refl
all_nil (v ∷ vs) = all_nil vs

all_comm : (x : ℕ) (vs l : List ℕ) → without x (without_all vs l) ≡ without_all vs (without x l)
unfolding without_all
all_comm x [] l = refl
all_comm x (v ∷ vs) l = all_comm x vs (without v l) ∙ ap (without_all vs) (without_comm x v l)

all_snoc : (x : ℕ) (vs l : List ℕ) → without_all (vs ++ x ∷ []) l ≡ without x (without_all vs l)
unfolding without_all
all_snoc x [] l = refl
all_snoc x (v ∷ vs) l = all_snoc x vs (without v l)

-- a value that is listed already makes no difference
module _ (x : ℕ) where
  all_again : (vs l : List ℕ) → listed x vs ≡ true → without_all vs (without x l) ≡ without_all vs l
  unfolding without_all listed
  all_again [] l e = absurd (false≢true e)
  all_again (v ∷ vs) l e = go (eqb v x) refl e (all_again vs (without v l))
    where
      go :
          (b : Bool) → eqb v x ≡ b → (b || listed x vs) ≡ true →
          (listed x vs ≡ true → without_all vs (without x (without v l)) ≡ without_all vs (without v l)) →
          without_all vs (without v (without x l)) ≡ without_all vs (without v l)
      go true p q ih = rw (eqb-true v x p, without_again)
      go false p q ih = ap (without_all vs) (without_comm v x l) ∙ ih q

  all_skip : (vs l : List ℕ) → listed x vs ≡ true → without_all vs (x ∷ l) ≡ without_all vs l
  unfolding without_all listed
  all_skip [] l e = absurd (false≢true e)
  all_skip (v ∷ vs) l e = go (eqb v x) refl e (all_skip vs (without v l))
    where
      go :
          (b : Bool) → eqb v x ≡ b → (b || listed x vs) ≡ true →
          (listed x vs ≡ true → without_all vs (x ∷ without v l) ≡ without_all vs (without v l)) →
          without_all vs (without v (x ∷ l)) ≡ without_all vs (without v l)
      go true p q ih = ap (without_all vs) (without_skip v x l (eq-eqb x v (sym (eqb-true v x p))))
      go false p q ih = ap (without_all vs) (without_keep v x l (ne_eqb x v (λ h. eqb-false v x p (sym h)))) ∙ ih q

  -- a value that is not listed stays first
  all_keep : (vs l : List ℕ) → listed x vs ≡ false → without_all vs (x ∷ l) ≡ x ∷ without_all vs l
  unfolding without_all listed
  all_keep [] l e = refl
  all_keep (v ∷ vs) l e = go (eqb v x) refl e (all_keep vs (without v l))
    where
      go :
          (b : Bool) → eqb v x ≡ b → (b || listed x vs) ≡ false →
          (listed x vs ≡ false → without_all vs (x ∷ without v l) ≡ x ∷ without_all vs (without v l)) →
          without_all vs (without v (x ∷ l)) ≡ x ∷ without_all vs (without v l)
      go true p q ih = absurd (true≢false q)
      go false p q ih = ap (without_all vs) (without_keep v x l (ne_eqb x v (λ h. eqb-false v x p (sym h)))) ∙ ih q

listing_adds : (vs cs : List ℕ) → listing vs cs ≡ vs ++ without_all vs (distinct cs)
unfolding listing distinct
listing_adds vs [] = rw (all_nil vs) (sym (append-nil vs))
listing_adds vs (c ∷ cs) = go (listed c vs) refl (λ us. listing_adds us cs)
  where
    go :
        (b : Bool) → listed c vs ≡ b → ((us : List ℕ) → listing us cs ≡ us ++ without_all us (distinct cs)) →
        listing (cond b vs (vs ++ c ∷ [])) cs ≡ vs ++ without_all vs (c ∷ without c (distinct cs))
    go true e ih = ih vs ∙ ap (λ (l : List ℕ). vs ++ l) (sym (all_skip c vs (without c (distinct cs)) e ∙ all_again c vs (distinct cs) e))
    go false e ih =
        ih (vs ++ c ∷ []) ∙ append_assoc vs (c ∷ []) (without_all (vs ++ c ∷ []) (distinct cs)) ∙
        ap (λ (l : List ℕ). vs ++ c ∷ l) (all_snoc c vs (distinct cs) ∙ all_comm c vs (distinct cs)) ∙
        ap (λ (l : List ℕ). vs ++ l) (sym (all_keep c vs (without c (distinct cs)) e))

-- listing from the empty list gives each value once, at its first occurrence
pub listing-distinct : (cs : List ℕ) → listing [] cs ≡ distinct cs
unfolding without_all
listing-distinct cs = listing_adds [] cs

-- the range is the active domain, and then the named values that are not in it
pub range-listing : (named : List ℕ) (rs : List Row) → range_over named rs ≡ listing (domain rs) named
range-listing named rs =
    sym (listing-distinct (cells_of rs ++ named)) ∙ listing-append [] (cells_of rs) named ∙
    ap (λ (vs : List ℕ). listing vs named) (listing-distinct (cells_of rs))
