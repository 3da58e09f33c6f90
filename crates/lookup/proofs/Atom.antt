-- What the rows of a relation say of a row, one by one: an identical one settles it, and one that unifies makes it possible. Only an identical one
-- ends the count of those examined. Assumes nothing.
use Prim.Native.Nat.{ℕ, suc}
use mathlib.Core.Path.{◌≡◌, refl, sym, ap, ◌∙◌}
use mathlib.Core.Bool.{Bool, true, false, ◌||◌, cond}
use mathlib.Core.List.{List, [], ◌∷◌}
use Rattle.calculus.specs.declared.truth.Truth.{Truth}
use Rattle.calculus.specs.declared.truth.Truth.TheVariants.{False, Unknown, True}
use Rattle.calculus.specs.Closed.{some, identical, stands, examined}
use Rattle.calculus.proofs.UpTo.{up_to_nothing, up_to-here, up_to_past}
use Rattle.calculus.specs.Unify.{unifies}
use Rattle.lookup.specs.declared.row.Match.{Match}
use Rattle.lookup.specs.declared.row.Match.TheVariants.{Identical, Unifies, Apart}
use Rattle.lookup.specs.Matching.{unified, matching, match_after}

-- what the tuples ts say of a row; `possible` tells whether an earlier tuple unified with it
unfoldable pub truth_from : Bool → List (List ℕ) → List ℕ → Truth
truth_from possible ts row = cond (some (identical row) ts) True (cond (possible || some (unifies row) ts) Unknown False)

pub truth-starts : (ts : List (List ℕ)) (row : List ℕ) → stands ts row ≡ truth_from false ts row
unfolding stands truth_from
truth-starts ts row = refl

pub truth_ends : (possible : Bool) (row : List ℕ) → truth_from possible [] row ≡ cond possible Unknown False
unfolding truth_from some
truth_ends true row = refl
truth_ends false row = refl

-- what the tuples ts say of a row after a tuple with this match
abbrev pub truth_after : Match → Bool → List (List ℕ) → List ℕ → Truth
truth_after Identical possible ts row = True
truth_after Unifies possible ts row = truth_from true ts row
truth_after Apart possible ts row = truth_from possible ts row

module _ (possible : Bool) (row t : List ℕ) where
  -- how a tuple compares: in full at first, and by identity alone once an earlier tuple has unified
  pub match_first : possible ≡ false → matching row t ≡ match_after possible row t
  match_first e = ap (λ (b : Bool). match_after b row t) (sym e)

  pub match_later : possible ≡ true → (same : Bool) → identical row t ≡ same → cond same Identical Unifies ≡ match_after possible row t
  match_later e same s = sym (ap (λ (b : Bool). match_after b row t) e ∙ ap (λ (b : Bool). cond b Identical Unifies) s)

pub truth-step :
    (possible : Bool) (t : List ℕ) (ts : List (List ℕ)) (row : List ℕ) →
    truth_from possible (t ∷ ts) row ≡ truth_after (match_after possible row t) possible ts row
unfolding truth_from some matching
truth-step possible t ts row = go (identical row t) (unifies row t) possible
  where
    go :
        (same can possible : Bool) →
        cond (same || some (identical row) ts) True (cond (possible || (can || some (unifies row) ts)) Unknown False) ≡
        truth_after (cond possible (cond same Identical Unifies) (cond same Identical (unified can))) possible ts row
    go true can true = refl
    go true can false = refl
    go false true true = refl
    go false true false = refl
    go false false true = refl
    go false false false = refl

-- the rows examined, from a tuple with this match on
abbrev pub examined_after : Match → List (List ℕ) → List ℕ → ℕ
examined_after Identical ts row = 1
examined_after Unifies ts row = suc (examined ts row)
examined_after Apart ts row = suc (examined ts row)

pub examined-step :
    (possible : Bool) (t : List ℕ) (ts : List (List ℕ)) (row : List ℕ) → examined (t ∷ ts) row ≡ examined_after (match_after possible row t) ts row
unfolding examined matching
examined-step possible t ts row = go (identical row t) refl (unifies row t) possible
  where
    go :
        (same : Bool) → identical row t ≡ same → (can possible : Bool) →
        examined (t ∷ ts) row ≡ examined_after (cond possible (cond same Identical Unifies) (cond same Identical (unified can))) ts row
    go true e can true = up_to-here (identical row) t ts e
    go true e can false = up_to-here (identical row) t ts e
    go false e can true = up_to_past (identical row) t ts e
    go false e true false = up_to_past (identical row) t ts e
    go false e false false = up_to_past (identical row) t ts e

pub examined_ends : (row : List ℕ) → examined [] row ≡ 0
unfolding examined
examined_ends row = up_to_nothing (identical row)
