-- What a walk that passes over the flagged words finds: the range, in order. Assumes nothing.
use Prim.Native.Nat.{ℕ, zero, suc, ◌+◌}
use mathlib.Core.Path.{◌≡◌, refl, sym, ap, ◌∙◌}
use mathlib.Core.Bool.{Bool, true, false, ◌||◌, cond}
use mathlib.Core.List.{List, [], ◌∷◌, ◌++◌, append_assoc, append-nil}
use native.Mathlib.Omega.{arith}
use borrow.Author.Tests.{eqb-true}
use lib.Dec.{eqb}
use lib.ListN.{get_or, take}
use Rattle.calculus.specs.Domain.{listing, range_over}
use Rattle.calculus.specs.Listed.{listed}
use Rattle.calculus.specs.Row.{Row, cells_of}
use Rattle.calculus.proofs.Listing.{listing-append, listing-distinct}
use Rattle.instance.specs.Header.{arity_of}
use Rattle.instance.specs.Rows.{rows_from}
use Rattle.known.specs.declared.Known.{Known}
use Rattle.known.specs.Known.{flag_at, unpassed}
use Rattle.range.specs.Walked.{walked, walked_range, passes}

-- two lists of the same cells
abbrev pub SameCells : List ℕ → List ℕ → Type 0
SameCells xs ys = (d : ℕ) → listed d xs ≡ listed d ys

pub listed_snoc : (d c : ℕ) (xs : List ℕ) → listed d (xs ++ c ∷ []) ≡ (eqb c d || listed d xs)
unfolding listed
listed_snoc d c [] = refl
listed_snoc d c (x ∷ xs) = ap (λ (b : Bool). eqb x d || b) (listed_snoc d c xs) ∙ go (eqb x d) (eqb c d)
  where
    go : (a b : Bool) → (a || (b || listed d xs)) ≡ (b || (a || listed d xs))
    go true true = refl
    go true false = refl
    go false b = refl

-- a further cell, which one list takes in only if it is new there
pub same_more : (xs ys : List ℕ) (c : ℕ) → SameCells xs ys → (b : Bool) → listed c xs ≡ b → SameCells (cond b xs (xs ++ c ∷ [])) (ys ++ c ∷ [])
same_more xs ys c same false e d = listed_snoc d c xs ∙ ap (λ (b : Bool). eqb c d || b) (same d) ∙ sym (listed_snoc d c ys)
same_more xs ys c same true e d = go (eqb c d) refl ∙ sym (listed_snoc d c ys)
  where
    go : (b : Bool) → eqb c d ≡ b → listed d xs ≡ (b || listed d ys)
    go true p = ap (λ (x : ℕ). listed x xs) (sym (eqb-true c d p)) ∙ e
    go false p = same d

listing-walked : (vs earlier cs : List ℕ) → SameCells vs earlier → listing vs cs ≡ vs ++ walked earlier cs
unfolding listing walked
listing-walked vs earlier [] same = sym (append-nil vs)
listing-walked vs earlier (c ∷ cs) same =
    rw (← same c) (go (listed c vs) refl (λ us more. listing-walked us (earlier ++ c ∷ []) cs more))
  where
    go :
        (b : Bool) → listed c vs ≡ b → ((us : List ℕ) → SameCells us (earlier ++ c ∷ []) → listing us cs ≡ us ++ walked (earlier ++ c ∷ []) cs) →
        listing (cond b vs (vs ++ c ∷ [])) cs ≡ vs ++ cond b (walked (earlier ++ c ∷ []) cs) (c ∷ walked (earlier ++ c ∷ []) cs)
    go true e ih = ih vs (same_more vs earlier c same true e)
    go false e ih = ih (vs ++ c ∷ []) (same_more vs earlier c same false e) ∙ append_assoc vs (c ∷ []) (walked (earlier ++ c ∷ []) cs)

walked-listing : (cs : List ℕ) → listing [] cs ≡ walked [] cs
walked-listing cs = listing-walked [] [] cs (λ d. refl)

-- what a walk does not pass over is the range
pub walked_range_lem : (named : List ℕ) (rs : List Row) → walked_range named rs ≡ range_over named rs
walked_range_lem named rs = sym (walked-listing (cells_of rs ++ named)) ∙ listing-distinct (cells_of rs ++ named)

-- a walk that goes on lists what is new
pub walked_more : (cs ds : List ℕ) → listing (walked [] cs) ds ≡ walked [] (cs ++ ds)
walked_more cs ds = ap (λ (l : List ℕ). listing l ds) (sym (walked-listing cs)) ∙ sym (listing-append [] cs ds) ∙ walked-listing (cs ++ ds)

-- from place p on, with `left` cells of a row still to come
walk_from :
    (ars : List ℕ) (known : Known) (earlier : List ℕ) (left p : ℕ) (ws : List ℕ) → ((q : ℕ) → flag_at known (p + q) ≡ get_or (passes ars earlier left ws) q false) →
    unpassed known p ws ≡ walked earlier (take left ws ++ cells_of (rows_from ars left ws))
unfolding unpassed walked passes rows_from cells_of
walk_from ars known earlier zero p [] flags = refl
walk_from ars known earlier (suc left) p [] flags = refl
walk_from ars known earlier zero p (w ∷ ws) flags =
    let first : p + 0 ≡ p = omega arith in
    rw (rw first at (flags 0))
    (walk_from ars known earlier (arity_of ars w) (suc p) ws (λ q. let e : p + suc q ≡ suc p + q = omega arith in rw e at (flags (suc q))))
walk_from ars known earlier (suc left) p (w ∷ ws) flags =
    let first : p + 0 ≡ p = omega arith in
    rw (
      rw first at (flags 0),
      walk_from ars known (earlier ++ w ∷ []) left (suc p) ws (λ q. let e : p + suc q ≡ suc p + q = omega arith in rw e at (flags (suc q))),
    ) refl

-- what the flags leave of the words is what the walk over the rows finds
pub unpassed-walked :
    (ars ws : List ℕ) (known : Known) → ((p : ℕ) → flag_at known p ≡ get_or (passes ars [] 0 ws) p false) → unpassed known 0 ws ≡ walked [] (cells_of (rows_from ars 0 ws))
unpassed-walked ars ws known flags =
    walk_from ars known [] 0 0 ws (λ q. let e : 0 + q ≡ q = omega arith in ap (flag_at known) e ∙ flags q)
