-- `null_counts::count_words` meets its contract: the counts plus those of the words from index i are the totals. Assumes nothing.
use Prim.Native.Nat.{ℕ, ◌≤◌, ◌<◌, ◌-◌, ◌+◌}
use mathlib.Core.Path.{◌≡◌, subst, refl}
use mathlib.Core.List.{List, ◌∷◌}
use native.Mathlib.Omega.{arith}
use borrow.Author.Tests.{leb-true, leb-false}
use lib.ListN.{length, drop, get_or, set}
use lib.Seq.{drop-length}
use Rattle.calculus.specs.Cell.{constants, nulls, null}
use Rattle.instance.specs.Header.{max_words}
use Rattle.calculus.proofs.Lists.{drop_step}
use Rattle.instance.proofs.Counts.{Census, census_other, census_null}
use Rattle.calculus.proofs.Counts.{count_of_le}
use Rattle.calculus.proofs.Counting.{counting_starts, counting_ends}
use Rattle.calculus.specs.Fill.{count_of}
use Rattle.null_counts.proofs.count_words.Goals as goal
use Rattle.null_counts.proofs.count_words.Goals.{In-loop-w, then-w-gt-CONSTANTS+then-w, else-w-gt-CONSTANTS, else-w-gt-CONSTANTS-via-then-w-gt-CONSTANTS+else-w, else-w-gt-CONSTANTS-via-else-w-gt-CONSTANTS}

pub loop-w-init : goal.loop-w-init
loop-w-init c = counting_starts nulls _

pub overflow_cast-k : goal.overflow_cast-k
overflow_cast-k c = omega (arith, leb-true)

pub offset_bounds-counts-k : goal.offset_bounds-counts-k
offset_bounds-counts-k c = omega (arith, leb-true)

pub bounds-counts-k : goal.bounds-counts-k
bounds-counts-k c = omega (arith, leb-true)

-- the word at index i
module _ (c : In-loop-w) where
  abbrev ws : List ℕ
  ws = c.args.words.now

  abbrev counts : List ℕ
  counts = c.loop-w.counts

  abbrev w : ℕ
  w = get_or ws c.loop-w.w-index 0

  abbrev place : ℕ
  place = w - 1000000 - 1

  abbrev behind : List ℕ
  behind = drop (c.loop-w.w-index + 1) ws

  seen : Census ws (w ∷ behind) counts
  seen = rw (drop_step ws c.loop-w.w-index (omega arith)) at c.loop-w.invariant

  at_null : constants < w → w ≤ constants + nulls → Census ws behind (set counts place (get_or counts place 0 + 1))
  at_null l g =
      let e : w ≡ null (1 + place) = omega arith in
      census_null ws behind counts place (omega arith) (subst (λ (v : ℕ). Census ws (v ∷ behind) counts) e seen)

  at_other : ((k : ℕ) → k < nulls → w ≡ null (1 + k) → ⊥) → Census ws behind counts
  at_other ne = census_other ws behind counts w ne seen

  below : (k : ℕ) → k < nulls → get_or counts k 0 ≤ max_words
  below k l = omega (arith, c.loop-w.invariant.each k l, count_of_le (null (1 + k)) ws)

pub overflow_add-counts : goal.overflow_add-counts
overflow_add-counts c = omega (arith, below (goal.at.overflow_add-counts c).In-loop-w (place (goal.at.overflow_add-counts c).In-loop-w) (omega (arith, leb-true)))

pub bounds-counts-k-then-w : goal.bounds-counts-k-then-w
bounds-counts-k-then-w c = omega (arith, leb-true)

pub loop-w-preserved : goal.loop-w-preserved
loop-w-preserved c =
    let b = (goal.at.loop-w-preserved c).In-loop-w in
    elim c.if-w-gt-CONSTANTS.branch [
      | then-w-gt-CONSTANTS+then-w a ↦ rw a.counts-is (at_null b a.if-w-gt-CONSTANTS.true (omega (arith, leb-true)))
      | else-w-gt-CONSTANTS a ↦ rw a.counts-is (at_other b (λ k l q. elim a.else-w-gt-CONSTANTS.branch [
        | else-w-gt-CONSTANTS-via-then-w-gt-CONSTANTS+else-w s ↦ omega (arith, leb-false)
        | else-w-gt-CONSTANTS-via-else-w-gt-CONSTANTS s ↦ omega arith
      ]))
    ]

pub returns : goal.returns
unfolding count_of
returns c =
    let ws = c.args.words.now in
    let e : c.loop-w.w-index ≡ length ws = omega arith in
    counting_ends nulls _ _ _ (λ k. refl) (rw (e, drop-length) at c.loop-w.invariant)
