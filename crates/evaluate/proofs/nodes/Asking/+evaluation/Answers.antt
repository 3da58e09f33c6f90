-- The mutually recursive functions of evaluation meet their contracts: each call is on the same node or on a child. Assumes nothing.
use Prim.Native.Nat.{ℕ, ◌+◌, ◌-◌, ◌<◌}
use mathlib.Core.Path.{◌≡◌, refl, sym, ap, ap₂, ◌∙◌}
use native.Mathlib.Omega.{arith}
use mathlib.Core.List.{List, ◌∷◌, ◌++◌}
use lib.ListN.{length, get_or, set, drop, length-append}
use lib.Seq.{set-get_or, get_or-take, length-take-le}
use Rattle.known.specs.declared.Known.{Known}
use Rattle.known.specs.Known.{arities_in, places_in, unpassed}
use Rattle.known.proofs.Walking.{unpassed-end, unpassed-here, unpassed_gap}
use Rattle.query.specs.Passed.{NodeBy}
use Rattle.query.specs.Words.{no_such_kind, negates, joins, ranges, kind_of, word_at, equals}
use Rattle.evaluate.specs.declared.evaluated.Evaluated.{Evaluated}
use Rattle.evaluate.specs.Ready.{walked_words, Right}
use Rattle.evaluate.specs.Junction.{junction_of}
use Rattle.evaluate.proofs.Children.{no_kind, well_formed_by, negated_spent, negated_verdict, both_left-spent, both_settled, both_low, both_right-spent, both_verdict, right-low, set_again, set_back, walk_starts, walk_ends, walk_spent, walk_settled, walk_more, walk_passes}
use Rattle.evaluate.proofs.nodes.Asking.+evaluation.Goals as goal
use Rattle.evaluate.proofs.nodes.Asking.+evaluation.Goals.{both-After-evaluate, walk-After-evaluate}

-- what is known of the two children of a node that joins them, and the left child's answer, as the answer for the node that word 1 names
module _ (t : ℕ) (e : both-After-evaluate t) where
  both_down : NodeBy e.requires.evaluable.ready.given.relations (arities_in e.args.self.now.known.now) e.args.self.now.query.now e.args.node (joins (junction_of e.args.junction))
  both_down = well_formed_by _ _ _ _ _ (joins (junction_of e.args.junction)) e.requires.evaluable.ready e.requires.evaluable.known e.requires.node_value

  left_told : (r : Evaluated) → e.evaluate.result ≡ r
      → Right (arities_in e.args.self.now.known.now) e.args.self.now.words.now e.args.self.now.query.now (word_at e.args.self.now.query.now e.args.node 1) e.args.env.now e.args.budget r
  left_told r is = rw (e.word-left.ensures, is) at e.evaluate.ensures.right

pub both-returns-in_default-clause-right : goal.both-returns-in_default-clause-right
both-returns-in_default-clause-right t c =
    let e = (goal.at.both-returns-in_default-clause-right t c).After-evaluate in
    let down = both_down t e in
    both_left-spent _ _ _ _ c.requires.evaluable.known _ c.requires.node_value down.0.0 down.1.0 _ _ (left_told t e _ c.in_default.is)

pub both-returns-then-settles-clause-right : goal.both-returns-then-settles-clause-right
both-returns-then-settles-clause-right t c =
    let e = (goal.at.both-returns-then-settles-clause-right t c).After-evaluate in
    let down = both_down t e in
    both_settled _ _ _ _ c.requires.evaluable.known _ c.requires.node_value down.0.0 down.1.0 _ _ _ _
    (left_told t e _ c.in-Verdict.is)
    (sym c.settles.ensures ∙ c.if-settles.true)

pub both-overflow_sub-budget : goal.both-overflow_sub-budget
both-overflow_sub-budget t c =
    let e = (goal.at.both-overflow_sub-budget t c).After-evaluate in
    let down = both_down t e in
    both_low _ _ _ _ c.requires.evaluable.known _ c.requires.node_value down.0.0 down.1.0 _ _ _ _ (left_told t e _ c.in-Verdict.is)

pub both-returns-in_default-evaluate-clause-right : goal.both-returns-in_default-evaluate-clause-right
both-returns-in_default-evaluate-clause-right t c =
    let e = (goal.at.both-returns-in_default-evaluate-clause-right t c).After-evaluate in
    let down = both_down t e in
    both_right-spent _ _ _ _ c.requires.evaluable.known _ c.requires.node_value down.0.0 down.1.0 _ _ _ _
    (left_told t e _ c.in-Verdict.is)
    (sym c.settles.ensures ∙ c.if-settles.false)
    (rw (c.word-right.ensures, c.in_default-evaluate.is, c.evaluate.ensures.kept) at c.evaluate-2.ensures.right)

pub both-overflow_add-cost : goal.both-overflow_add-cost
both-overflow_add-cost t c =
    let e = (goal.at.both-overflow_add-cost t c).After-evaluate in
    let down = both_down t e in
    omega (
      arith,
      c.ranges.budget.fits,
      right-low _ _ _ _ down.0.1 _ _ _ _ (left_told t e _ c.in-Verdict.is),
      right-low _ _ _ _ down.1.1 _ _ _ _
          (rw (c.word-right.ensures, c.in-Verdict-evaluate.is, c.evaluate.ensures.kept) at c.evaluate-2.ensures.right),
    )

pub both-returns-clause-right : goal.both-returns-clause-right
both-returns-clause-right t c =
    let e = (goal.at.both-returns-clause-right t c).After-evaluate in
    let down = both_down t e in
    rw c.join-truth.ensures
    (both_verdict _ _ _ _ c.requires.evaluable.known _ c.requires.node_value down.0.0 down.1.0 _ _ _ _
    (left_told t e _ c.in-Verdict.is)
    (sym c.settles.ensures ∙ c.if-settles.false) _ _
    (rw (c.word-right.ensures, c.in-Verdict-evaluate.is, c.evaluate.ensures.kept) at c.evaluate-2.ensures.right))

pub evaluate-atom-requires-clause-node_value : goal.evaluate-atom-requires-clause-node_value
unfolding kind_of
evaluate-atom-requires-clause-node_value t c = ap kind_of (sym c.word-kind.ensures ∙ c.in-1.is)

pub evaluate-equality-requires-clause-node_value : goal.evaluate-equality-requires-clause-node_value
unfolding kind_of
evaluate-equality-requires-clause-node_value t c =
    well_formed_by _ _ _ _ _ equals c.requires.ready c.requires.known (ap kind_of (sym c.word-kind.ensures ∙ c.in-2.is))

pub evaluate-equality-requires-clause-node_value_2 : goal.evaluate-equality-requires-clause-node_value_2
unfolding kind_of
evaluate-equality-requires-clause-node_value_2 t c = ap kind_of (sym c.word-kind.ensures ∙ c.in-2.is)

pub evaluate-negated-requires : goal.evaluate-negated-requires
unfolding kind_of
evaluate-negated-requires t c = (omega arith, (c.requires, ap kind_of (sym c.word-kind.ensures ∙ c.in-3.is)))

pub evaluate-both-requires : goal.evaluate-both-requires
unfolding kind_of
evaluate-both-requires t c = (omega arith, (c.requires, ap kind_of (sym c.word-kind.ensures ∙ c.in-4.is)))

pub evaluate-both-requires-in-5 : goal.evaluate-both-requires-in-5
unfolding kind_of
evaluate-both-requires-in-5 t c = (omega arith, (c.requires, ap kind_of (sym c.word-kind.ensures ∙ c.in-5.is)))

pub evaluate-walk-requires : goal.evaluate-walk-requires
unfolding kind_of
evaluate-walk-requires t c = (omega arith, (c.requires, ap kind_of (sym c.word-kind.ensures ∙ c.in-6.is)))

pub evaluate-walk-requires-in-7 : goal.evaluate-walk-requires-in-7
unfolding kind_of
evaluate-walk-requires-in-7 t c = (omega arith, (c.requires, ap kind_of (sym c.word-kind.ensures ∙ c.in-7.is)))

pub evaluate-returns-in_default-clause-right : goal.evaluate-returns-in_default-clause-right
evaluate-returns-in_default-clause-right t c =
    let none = no_kind c.word-kind.result (λ l. omega (arith, l)) in
    absurd (well_formed_by _ _ _ _ _ no_such_kind c.requires.ready c.requires.known (ap kind_of (sym c.word-kind.ensures) ∙ none))

pub negated-returns-in_default-clause-right : goal.negated-returns-in_default-clause-right
negated-returns-in_default-clause-right t c =
    let ev = c.requires.evaluable in
    let down = well_formed_by _ _ _ _ _ negates ev.ready ev.known c.requires.node_value in
    negated_spent _ _ _ _ ev.known c.requires.node_value down.0 _ _ (rw (c.word-child.ensures, c.in_default.is) at c.evaluate.ensures.right)

pub negated-returns-clause-right : goal.negated-returns-clause-right
negated-returns-clause-right t c =
    let ev = c.requires.evaluable in
    let down = well_formed_by _ _ _ _ _ negates ev.ready ev.known c.requires.node_value in
    rw c.not.ensures.answer
    (negated_verdict _ _ _ _ ev.known c.requires.node_value down.0 _ _ _ _ (rw (c.word-child.ensures, c.in-Verdict.is) at c.evaluate.ensures.right))

-- once the child was evaluated for a value
module _ (t : ℕ) (e : walk-After-evaluate t) where
  abbrev env₀ : List ℕ
  env₀ = e.args.env.now

  abbrev qs : List ℕ
  qs = e.args.self.now.query.now

  abbrev known : Known
  known = e.args.self.now.known.now

  abbrev all : List ℕ
  all = walked_words known e.args.self.now.values.now qs

  -- the variable of the node
  abbrev variable : ℕ
  variable = word_at qs e.args.node 1

  abbrev i : ℕ
  i = e.loop-i.i

  abbrev value : ℕ
  value = get_or (e.args.self.now.values.now ++ qs) i 0

  -- what is known of the child of a node that ranges over values
  walk_down : NodeBy e.requires.evaluable.ready.given.relations (arities_in known) qs e.args.node (ranges (junction_of e.args.junction))
  walk_down = well_formed_by _ _ _ _ _ (ranges (junction_of e.args.junction)) e.requires.evaluable.ready e.requires.evaluable.known e.requires.node_value

  walk_long : length all ≡ places_in known
  walk_long =
      length-take-le (places_in known) (e.args.self.now.values.now ++ qs)
      (omega (arith, e.requires.evaluable.ranged.places, length-append e.args.self.now.values.now qs))

  -- a place of the walk is left
  low : i < places_in known
  low = omega (arith, e.loop-i-test.true, e.places.ensures)

  -- its index, and the cell that it had
  abbrev place : ℕ
  place = e.word-variable.result

  abbrev old : ℕ
  old = get_or env₀ place 0

  again : set e.loop-i.env place e.value_at.result ≡ set env₀ place e.value_at.result
  again = set_again env₀ e.loop-i.env place old e.value_at.result e.loop-i.invariant.1

  -- the assignment under which the child was evaluated
  here : set e.loop-i.env place e.value_at.result ≡ set env₀ variable value
  here = again ∙ ap₂ (set env₀) e.word-variable.ensures e.value_at.ensures

  -- the value is the next one that the walk does not pass over
  next : unpassed known i (drop i all) ≡ value ∷ unpassed known (i + 1) (drop (i + 1) all)
  next =
      unpassed-here known all i (omega (arith, low, walk_long)) (sym e.passed.ensures ∙ e.if-passed.false) ∙
      ap (λ (v : ℕ). v ∷ unpassed known (i + 1) (drop (i + 1) all)) (get_or-take (places_in known) (e.args.self.now.values.now ++ qs) i 0 low)

  -- putting the old cell back restores the assignment
  back : set e.evaluate.new.env place old ≡ env₀
  back =
      ap (λ (l : List ℕ). set l place old) (e.evaluate.ensures.kept ∙ again) ∙
      set_back env₀ e.loop-i.env place old e.value_at.result e.loop-i.invariant.1 refl

  -- the child's answer, as the answer for the node that word 2 names, within what is left of the budget
  child_told : (r : Evaluated) → e.evaluate.result ≡ r
      → Right (arities_in known) e.args.self.now.words.now qs (word_at qs e.args.node 2) (set env₀ variable value) (e.args.budget - e.loop-i.cost) r
  child_told r is = rw (e.word.ensures, is, here) at e.evaluate.ensures.right

pub walk-loop-i-init : goal.walk-loop-i-init
walk-loop-i-init t c =
    let ev = c.requires.evaluable in
    let down = well_formed_by _ _ _ _ _ (ranges (junction_of c.args.junction)) ev.ready ev.known c.requires.node_value in (
      rw c.unit-truth.ensures (walk_starts _ _ _ _ ev.known _ c.requires.node_value down.1.0 _ _ _ (ev.ranged.walked _ _ ev.known c.requires.node_value)),
      set-get_or _ _ 0,
    )

pub walk-loop-i-preserved-then-passed : goal.walk-loop-i-preserved-then-passed
walk-loop-i-preserved-then-passed t c =
    let ev = c.requires.evaluable in
    let down = well_formed_by _ _ _ _ _ (ranges (junction_of c.args.junction)) ev.ready ev.known c.requires.node_value in (
      walk_passes _ _ _ _ ev.known _ c.requires.node_value down.1.0 _ _ _ _ _ c.loop-i.invariant.0 _
          (unpassed_gap _ _ _ _ c.gap-i.ensures.gap.all),
      c.loop-i.invariant.1,
    )

pub walk-returns-in_default : goal.walk-returns-in_default
walk-returns-in_default t c =
    let e = (goal.at.walk-returns-in_default t c).After-evaluate in record {
      kept = back t e;
      right =
          walk_spent _ _ _ _ c.requires.evaluable.known _ c.requires.node_value (walk_down t e).1.0 _ _ _ _ _
          c.loop-i.invariant.0 _ _ (next t e)
          (child_told t e _ c.in_default.is);
    }

pub walk-overflow_add-cost : goal.walk-overflow_add-cost
walk-overflow_add-cost t c =
    let e = (goal.at.walk-overflow_add-cost t c).After-evaluate in
    omega (arith, c.ranges.budget.fits, c.loop-i.invariant.0.low, right-low _ _ _ _ (walk_down t e).1.1 _ _ _ _ (child_told t e _ c.in-Verdict.is))

pub walk-returns-then-settles : goal.walk-returns-then-settles
walk-returns-then-settles t c =
    let e = (goal.at.walk-returns-then-settles t c).After-evaluate in record {
      kept = back t e;
      right =
          rw c.join-truth.ensures
          (walk_settled _ _ _ _ c.requires.evaluable.known _ c.requires.node_value (walk_down t e).1.0 _ _ _ _ _
          c.loop-i.invariant.0 _ _ (next t e) _ _
          (child_told t e _ c.in-Verdict.is)
          (sym c.settles.ensures ∙ c.if-settles.true));
    }

pub walk-loop-i-preserved : goal.walk-loop-i-preserved
walk-loop-i-preserved t c =
    let e = (goal.at.walk-loop-i-preserved t c).After-evaluate in (
      rw c.join-truth.ensures
          (walk_more _ _ _ _ c.requires.evaluable.known _ c.requires.node_value (walk_down t e).1.0 _ _ _ _ _
          c.loop-i.invariant.0 _ _ (next t e) _ _
          (child_told t e _ c.in-Verdict.is)
          (sym c.settles.ensures ∙ c.if-settles.false)),
      back t e,
    )

pub walk-returns : goal.walk-returns
walk-returns t c =
    let ev = c.requires.evaluable in
    let down = well_formed_by _ _ _ _ _ (ranges (junction_of c.args.junction)) ev.ready ev.known c.requires.node_value in
    let long : length (walked_words c.args.self.now.known.now c.args.self.now.values.now c.args.self.now.query.now) ≡ places_in c.args.self.now.known.now =
    length-take-le (places_in c.args.self.now.known.now) (c.args.self.now.values.now ++ c.args.self.now.query.now)
    (omega (arith, ev.ranged.places, length-append c.args.self.now.values.now c.args.self.now.query.now))
    in record {
      kept = c.loop-i.invariant.1;
      right =
          walk_ends _ _ _ _ ev.known _ c.requires.node_value down.1.0 _ _ _ _ _ c.loop-i.invariant.0
          (unpassed-end _ _ _ (omega (arith, c.loop-i-test.false, c.places.ensures, long)));
    }
