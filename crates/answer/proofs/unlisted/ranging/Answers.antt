-- `answer::unlisted::ranging` meets its contract: none of the nodes so far ranges over values. Assumes nothing.
use Prim.Native.Nat.{ℕ, ◌+◌, ◌*◌}
use mathlib.Core.Path.{◌≡◌, refl, sym, ap, ◌∙◌}
use mathlib.Core.Bool.{true, false, ◌||◌}
use mathlib.Core.List.{List}
use native.Mathlib.Numerals.{add-one}
use native.Mathlib.Omega.{arith}
use borrow.Author.Tests.{eq-eqb, ne_eqb}
use lib.ListN.{get_or}
use lib.Dec.{eqb}
use Rattle.query.specs.Words.{kind_of, word_at, node_count}
use Rattle.answer.specs.Ranging.{is_range, ranges_among}
use Rattle.answer.proofs.Ranging.{range-kind, ranges_more, ranges-here}
use Rattle.answer.proofs.unlisted.ranging.Goals as goal
use Rattle.answer.proofs.unlisted.ranging.Goals.{In-loop-node, then-kind-eq-SOME-via-then-kind-eq-SOME, then-kind-eq-SOME-via-else-kind-eq-SOME+then-kind-eq-EVERY}

pub loop-node-init : goal.loop-node-init
unfolding ranges_among
loop-node-init c = refl

-- the kind that is read is the node's
module _ (c : In-loop-node) where
  abbrev qs : List ℕ
  qs = c.args.query.now

  abbrev i : ℕ
  i = c.loop-node.node

  abbrev kind : ℕ
  kind = get_or qs (i * 8) 0

  told : is_range (kind_of (word_at qs i 0)) ≡ (eqb kind 6 || eqb kind 7)
  told = let e : i * 8 + 0 ≡ i * 8 = omega arith in ap (λ (k : ℕ). is_range (kind_of (get_or qs k 0))) e ∙ range-kind kind

  -- the node does not range over values
  goes_on : (kind ≡ 6 → ⊥) → (kind ≡ 7 → ⊥) → ranges_among qs (i + 1) ≡ false
  goes_on some every =
      ap (ranges_among qs) (add-one i)
      ∙ ranges_more qs i (told ∙ rw (ne_eqb kind 6 some, ne_eqb kind 7 every)) c.loop-node.invariant

  ranges : (kind ≡ 6 → ranges_among qs (node_count qs) ≡ true) × (kind ≡ 7 → ranges_among qs (node_count qs) ≡ true)
  ranges = (
    λ e. ranges-here qs i (node_count qs) (omega arith) (told ∙ rw (eq-eqb kind 6 e)),
    λ e. ranges-here qs i (node_count qs) (omega arith) (told ∙ rw (e)),
  )

pub returns-then-kind-eq-SOME : goal.returns-then-kind-eq-SOME
returns-then-kind-eq-SOME c =
    let r = ranges (goal.at.returns-then-kind-eq-SOME c).In-loop-node in
    elim c.then-kind-eq-SOME.branch [
      | then-kind-eq-SOME-via-then-kind-eq-SOME w ↦ sym (r.0 w.if-kind-eq-SOME.true)
      | then-kind-eq-SOME-via-else-kind-eq-SOME+then-kind-eq-EVERY w ↦ sym (r.1 w.if-kind-eq-EVERY.true)
    ]

pub loop-node-preserved : goal.loop-node-preserved
loop-node-preserved c = goes_on (goal.at.loop-node-preserved c).In-loop-node c.if-kind-eq-SOME.false c.if-kind-eq-EVERY.false

pub returns : goal.returns
returns c =
    let e : c.loop-node.node ≡ node_count c.args.query.now = omega arith in
    sym (sym (ap (ranges_among c.args.query.now) e) ∙ c.loop-node.invariant)
