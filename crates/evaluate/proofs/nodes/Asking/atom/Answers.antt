-- `evaluate::nodes::Asking::atom` meets its contract: an atom costs 1 plus the rows of its relation that are examined. Assumes nothing.
use mathlib.Core.Path.{◌≡◌, refl, sym, ap, subst, ◌∙◌}
use mathlib.Core.Bool.{true}
use Prim.Native.Nat.{ℕ, ◌+◌, ◌-◌, ◌<◌, ◌≤◌}
use mathlib.Core.List.{List}
use native.Mathlib.Omega.{arith}
use lib.ListN.{length, take}
use lib.Seq.{length-take-le}
use Rattle.calculus.specs.Closed.{stands, examined, tuples}
use Rattle.calculus.specs.declared.truth.Truth.{Truth}
use Rattle.calculus.specs.declared.truth.Truth.TheVariants.{False, Unknown, True}
use Rattle.calculus.specs.Kleene.{disj}
use Rattle.calculus.specs.Eval.{settles}
use Rattle.calculus.specs.Padded.{padded}
use Rattle.calculus.specs.Formula.{values}
use Rattle.calculus.proofs.Bools.{false_not_true}
use Rattle.calculus.proofs.UpTo.{examined_le}
use Rattle.instance.specs.Header.{arity_of, max_columns}
use Rattle.instance.specs.Rows.{rows_from}
use Rattle.lookup.specs.declared.relation.Examined.{Examined}
use Rattle.lookup.specs.Examined.{examined_of}
use Rattle.query.specs.Tree.{terms_at}
use Rattle.query.specs.Words.{node_count, word_at, kind_of, row_stands}
use Rattle.evaluate.specs.declared.evaluated.Evaluated.{Evaluated}
use Rattle.evaluate.specs.Within.{within}
use Rattle.evaluate.specs.Ready.{Right}
use Rattle.evaluate.proofs.TermLaws.{row_front}
use Rattle.known.specs.Known.{arities_in, count_in}
use Rattle.lookup.specs.Passing.{RowsLeft}
use Rattle.evaluate.proofs.Budget.{spent, verdicts}
use Rattle.evaluate.proofs.Covered.{atom_of, beyond_spent, found_verdict, all-verdict}
use Rattle.evaluate.proofs.Children.{atom-well-formed, atom-right, AtomWellFormed}
use Rattle.evaluate.proofs.nodes.Asking.atom.Goals as goal
use Rattle.evaluate.proofs.nodes.Asking.atom.Goals.{After-arity-arity, After-asked_row-row, Start}

-- the node, and what is known of it
module _ (s : Start) where
  abbrev known : s.args.node < node_count s.args.self.now.query.now
  known = s.requires.ready.1

  abbrev is : kind_of (word_at s.args.self.now.query.now s.args.node 0) ≡ row_stands
  is = s.requires.node_value

  node : AtomWellFormed (arities_in s.args.self.now.known.now) s.args.self.now.words.now s.args.self.now.query.now s.args.self.now.known.now s.args.node
  node = atom-well-formed _ _ _ _ _ s.requires.ready.0 known is

only_true : (t : Truth) → settles disj t ≡ true → t ≡ True
only_true False e = false_not_true e
only_true Unknown e = false_not_true e
only_true True e = refl

pub returns-then-budget-eq0 : goal.returns-then-budget-eq0
returns-then-budget-eq0 c =
    record {
      right = (let s = (goal.at.returns-then-budget-eq0 c).Start in
          λ k h. sym (spent _ _ (omega (arith, c.if-budget-eq0.true))) ∙ atom-right _ _ _ _ (known s) (is s) _ _ k h);
    }

pub count-rows-requires : goal.count-rows-requires
count-rows-requires c = omega (arith, c.word-relation.ensures, (node (goal.at.count-rows-requires c).Start).eight)

pub arity-arity-requires : goal.arity-arity-requires
arity-arity-requires c = omega (arith, c.word-relation.ensures, (node (goal.at.arity-arity-requires c).Start).eight)

-- the arity of the node's relation
is_arity_lem : (c : After-arity-arity) → c.arity-arity.result ≡ arity_of (arities_in c.args.self.now.known.now) (word_at c.args.self.now.query.now c.args.node 1)
is_arity_lem c = c.arity-arity.ensures ∙ ap (arity_of (arities_in c.args.self.now.known.now)) c.word-relation.ensures

pub asked_row-row-requires : goal.asked_row-row-requires
asked_row-row-requires c =
    let s = (goal.at.asked_row-row-requires c).Start in
    let a = node s in
    rw (is_arity_lem (goal.at.asked_row-row-requires c).After-arity-arity) (record { known = known s; narrow = a.narrow; terms = a.terms })

-- what the first `most` rows say of the row that the node's terms stand for; the budget covers them
module _ (c : After-asked_row-row) where
  abbrev qs : List ℕ
  qs = c.args.self.now.query.now

  abbrev ws : List ℕ
  ws = c.args.self.now.words.now

  abbrev ars : List ℕ
  ars = arities_in c.args.self.now.known.now

  abbrev relation : ℕ
  relation = c.word-relation.result

  abbrev named : ℕ
  named = word_at qs c.args.node 1

  is-named : relation ≡ named
  is-named = c.word-relation.ensures

  asked : AtomWellFormed ars ws qs c.args.self.now.known.now c.args.node
  asked = atom-well-formed _ _ _ _ _ c.requires.ready.0 c.requires.ready.1 c.requires.node_value

  -- the tuples of a relation, and the row that is asked of the node's
  abbrev ts : ℕ → List (List ℕ)
  ts r = tuples r (rows_from ars 0 ws)

  abbrev row : List ℕ
  row = values c.args.env.now (terms_at qs c.args.node 2 (arity_of ars named))

  all-rows : c.count-rows.result ≡ length (ts named)
  all-rows = c.count-rows.ensures ∙ ap (λ (r : ℕ). count_in c.args.self.now.known.now r) is-named ∙ asked.counted

  row_is : c.asked_row-row.result ≡ padded max_columns row
  row_is =
      c.asked_row-row.ensures ∙
      ap (λ (k : ℕ). padded max_columns (values c.args.env.now (terms_at qs c.args.node 2 k))) (c.arity-arity.ensures ∙ ap (arity_of ars) is-named)

  lent : (most : ℕ) → most ≤ length (ts named) → RowsLeft ars ws relation 0 most
  lent most few = record {
    given = asked.given;
    known = omega (arith, is-named, asked.relation);
    within = omega arith;
    well_formed = asked.given.well_formed.words;
    some = subst (λ (r : ℕ). most ≤ length (ts r)) (sym is-named) few;
  }

  right : {r : Evaluated} → r ≡ within c.args.budget (atom_of (ts named) row) → Right ars ws qs c.args.node c.args.env.now c.args.budget r
  right e = λ k h. e ∙ atom-right _ _ _ _ c.requires.ready.1 c.requires.node_value _ _ k h

  module _ (most : ℕ) (few : most ≤ length (ts named)) (covered : most + 1 ≤ c.args.budget) (e : Examined)
      (answered : e ≡ examined_of (take most (ts relation)) (take (arity_of ars relation) c.asked_row-row.result)) where
    told : e ≡ examined_of (take most (ts named)) row
    told =
        answered ∙
        ap (λ (r : ℕ). examined_of (take most (ts r)) (take (arity_of ars r) c.asked_row-row.result)) is-named ∙
        ap (examined_of (take most (ts named))) (row_front _ _ _ _ _ row_is)

    says : e.truth ≡ stands (take most (ts named)) row
    says = ap (λ (e : Examined). e.truth) told

    charges : 1 + e.rows ≡ 1 + examined (take most (ts named)) row
    charges = ap (λ (e : Examined). 1 + e.rows) told

    fits : 1 + e.rows ≤ c.args.budget
    fits = omega (arith, charges, covered, examined_le (take most (ts named)) row, length-take-le most (ts named) few)

  -- the budget does not cover all rows
  module _ (less : c.args.budget - 1 < c.count-rows.result) where
    abbrev covered : ℕ
    covered = c.args.budget - 1

    enough : covered + 1 ≤ c.args.budget
    enough = omega (arith, c.if-budget-eq0.false)

    more : covered < length (ts named)
    more = omega (arith, less, all-rows)

    low : covered ≤ length (ts named)
    low = omega (arith, more)

  -- the budget covers all rows
  module _ (enough_for : c.count-rows.result ≤ c.args.budget - 1) where
    all-few : c.count-rows.result ≤ length (ts named)
    all-few = omega (arith, all-rows)

    all_covered : c.count-rows.result + 1 ≤ c.args.budget
    all_covered = omega (arith, enough_for, c.if-budget-eq0.false)

pub overflow_cast-relation : goal.overflow_cast-relation
overflow_cast-relation c = let b = (goal.at.overflow_cast-relation c).After-asked_row-row in omega (arith, is-named b, (asked b).eight)

pub stands-front-requires : goal.stands-front-requires
stands-front-requires c = let b = (goal.at.stands-front-requires c).After-asked_row-row in lent b (covered b c.if-covered-rows.true) (low b c.if-covered-rows.true)

pub overflow_add-cost : goal.overflow_add-cost
overflow_add-cost c =
    let b = (goal.at.overflow_add-cost c).After-asked_row-row in
    let less = c.if-covered-rows.true in
    omega (arith, fits b (covered b less) (low b less) (enough b less) _ c.stands-front.ensures.answer, c.ranges.budget.fits)

pub returns-then-settles : goal.returns-then-settles
returns-then-settles c =
    record {
      right = (let b = (goal.at.returns-then-settles c).After-asked_row-row in
          let less = c.if-covered-rows.true in
          let front = says b (covered b less) (low b less) (enough b less) _ c.stands-front.ensures.answer in
          let found = only_true _ (sym c.settles.ensures ∙ c.if-settles.true) in
          right b
          (verdicts front (charges b (covered b less) (low b less) (enough b less) _ c.stands-front.ensures.answer) ∙
          found_verdict _ (covered b less) _ _ (enough b less) (low b less) (sym front ∙ found)));
    }

pub returns-then-covered-rows : goal.returns-then-covered-rows
returns-then-covered-rows c =
    record {
      right = (let b = (goal.at.returns-then-covered-rows c).After-asked_row-row in
          let less = c.if-covered-rows.true in
          let front = says b (covered b less) (low b less) (enough b less) _ c.stands-front.ensures.answer in
          right b
          (sym
          (beyond_spent _ (covered b less) _ _ (omega (arith, enough b less)) (more b less) (λ e.
          false_not_true (sym c.if-settles.false ∙ c.settles.ensures ∙ ap (settles disj) (front ∙ e))))));
    }

pub overflow_cast-relation-2 : goal.overflow_cast-relation-2
overflow_cast-relation-2 c = let b = (goal.at.overflow_cast-relation-2 c).After-asked_row-row in omega (arith, is-named b, (asked b).eight)

pub stands-all-requires : goal.stands-all-requires
stands-all-requires c = let b = (goal.at.stands-all-requires c).After-asked_row-row in lent b c.count-rows.result (all-few b c.if-covered-rows.false)

pub overflow_add-cost-2 : goal.overflow_add-cost-2
overflow_add-cost-2 c =
    let b = (goal.at.overflow_add-cost-2 c).After-asked_row-row in
    let all = c.if-covered-rows.false in
    omega (arith, fits b c.count-rows.result (all-few b all) (all_covered b all) _ c.stands-all.ensures.answer, c.ranges.budget.fits)

pub returns : goal.returns
returns c =
    record {
      right = (let b = (goal.at.returns c).After-asked_row-row in
          let all = c.if-covered-rows.false in
          let told-all = c.stands-all.ensures.answer in
          right b
          (verdicts (says b c.count-rows.result (all-few b all) (all_covered b all) _ told-all) (charges b c.count-rows.result (all-few b all) (all_covered b all) _ told-all) ∙
          all-verdict _ c.count-rows.result _ _ (all_covered b all) (all-few b all) (omega (arith, all-rows b))));
    }
