-- `undo::put_all` meets its contract: what is left to do is x at the places from index k. Assumes nothing.
use Prim.Native.Nat.{ℕ, ◌<◌}
use mathlib.Core.Path.{◌≡◌, refl, sym, ap, ◌∙◌}
use mathlib.Core.List.{List}
use native.Mathlib.Omega.{arith}
use lib.ListN.{length, get_or, length-set}
use lib.Seq.{drop-length}
use Rattle.calculus.proofs.Lists.{drop_step}
use Rattle.undo_log.specs.Places.{put_at}
use Rattle.undo.proofs.put_all.Goals as goal
use Rattle.undo.proofs.put_all.Goals.{In-loop-place}

pub loop-place-init : goal.loop-place-init
loop-place-init c = (refl, refl)

-- the place at index k
module _ (c : In-loop-place) where
  abbrev places : List ℕ
  places = c.args.places.now

  abbrev words : List ℕ
  words = c.loop-place.words

  abbrev k : ℕ
  k = c.loop-place.place-index

  below : get_or places k 0 < length words
  below = omega (arith, c.requires k (omega arith))

pub offset_bounds-words-place : goal.offset_bounds-words-place
offset_bounds-words-place c = omega (arith, below (goal.at.offset_bounds-words-place c).In-loop-place)

pub bounds-words-place : goal.bounds-words-place
bounds-words-place c = below (goal.at.bounds-words-place c).In-loop-place

pub loop-place-preserved : goal.loop-place-preserved
unfolding put_at
loop-place-preserved c =
    let b = (goal.at.loop-place-preserved c).In-loop-place in
    let x = c.args.x in
    let inv = c.loop-place.invariant in (
      length-set (words b) _ x ∙ inv.0,
      sym (ap (λ (ps : List ℕ). put_at ps x (words b)) (drop_step (places b) (k b) (omega arith))) ∙ inv.1,
    )

pub shape_of-words : goal.shape_of-words
shape_of-words c = c.loop-place.invariant.0

pub returns : goal.returns
unfolding put_at
returns c =
    let e : c.loop-place.place-index ≡ length c.args.places.now = omega arith in
    rw (← c.loop-place.invariant.1, e, drop-length)
