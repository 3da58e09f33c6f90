-- `lookup::relation::stands` meets its contract: the rows left at index i decide, and whether an earlier row unified; the rows examined are those before
-- index i and those from there on. Assumes nothing.
use Prim.Native.Nat.{ℕ, suc, ◌≤◌, ◌<◌, ◌-◌, ◌+◌}
use mathlib.Core.Path.{◌≡◌, refl, sym, ap, subst, ◌∙◌}
use mathlib.Core.Bool.{Bool, true, false, cond}
use mathlib.Core.List.{List, [], ◌∷◌}
use native.Mathlib.Omega.{arith}
use lib.ListN.{length, get_or, take, drop}
use lib.Seq.{length-take-le}
use Rattle.calculus.specs.declared.truth.Truth.{Truth}
use Rattle.calculus.specs.declared.truth.Truth.TheVariants.{False, Unknown}
use Rattle.calculus.specs.Closed.{stands, examined, tuples}
use Rattle.calculus.specs.KindOne.{MeansStands, MeansExamined}
use Rattle.instance.specs.Header.{arity_of, max_relations, max_columns}
use Rattle.instance.specs.Rows.{rows_from}
use Rattle.instance.proofs.Rows.{headed}
use Rattle.lookup.specs.declared.row.Match.{Match}
use Rattle.lookup.specs.declared.row.Match.TheVariants.{Identical, Unifies, Apart}
use Rattle.lookup.specs.declared.relation.Examined.{Examined}
use Rattle.lookup.specs.Examined.{examined_of}
use Rattle.lookup.specs.Matching.{match_after}
use Rattle.known.specs.Known.{arities_in}
use Rattle.lookup.specs.Passing.{RowsLeft, limit_of, told_apart, passing}
use Rattle.lookup.specs.Place.{cells_at}
use Rattle.calculus.proofs.KindOne.{row_means}
use Rattle.calculus.proofs.Examined.{examined_means}
use Rattle.instance.proofs.Walk.{relation-few}
use Rattle.lookup.proofs.Atom.{truth_from, truth-starts, truth_ends, truth_after, truth-step, examined_after, examined-step, examined_ends}
use Rattle.lookup.proofs.Probes.{probe_stands}
use Rattle.lookup.proofs.Left.{fewer_left, same_step, same-within, same_left}
use Rattle.lookup.proofs.Passing.{passing_shorter, passed}
use Rattle.lookup.proofs.relation.stands.Goals as goal
use Rattle.lookup.proofs.relation.stands.Lts.View.{up-After-arity-arity, up-After-next_near-near, up-At-loop-more}
use Rattle.lookup.proofs.relation.stands.Goals.{in-Unifies, in-Apart, After-arity-arity, After-loop-more, After-next_near-near, At-loop-more, Joined-compare_after, Start}

by_answer_verdict_charge : {A B C : Type 0} → A × (B × C) → record { answer : A; verdict : B; charge : C }
by_answer_verdict_charge p = record { answer = p.0; verdict = p.1.0; charge = p.1.1 }

-- the answer with its meaning, from the equations of its two parts; the row is the part of a longer one that the arity says
means :
    (ts : List (List ℕ)) (row : List ℕ) {k arity : ℕ} {t : Truth} {n : ℕ} → k ≡ arity → t ≡ stands ts (take k row) → n ≡ examined ts (take k row) →
    (◌≡◌ {A = Examined} (record { truth = t; rows = n }) (examined_of ts (take arity row)))
    × (MeansStands ts (take arity row) t × MeansExamined ts (take arity row) n)
means ts row {k} {arity} e p q =
    let says = p ∙ ap (λ (k : ℕ). stands ts (take k row)) e in
    let counts = q ∙ ap (λ (k : ℕ). examined ts (take k row)) e in
    (rw (says, counts) refl, (row_means ts (take arity row) says, rw counts (examined_means (take arity row) ts)))

-- none of any tuples
none_left : (k : ℕ) → k ≡ 0 → (ts us : List (List ℕ)) → take k ts ≡ take k us
none_left k e ts us = ap (λ (k : ℕ). take k ts) e ∙ sym (ap (λ (k : ℕ). take k us) e)

relation-low : (c : Start) → c.args.relation < max_relations
relation-low c = relation-few _ (arities_in c.args.known.now) c.args.words.now _ c.requires.given.well_formed c.requires.known

pub arity-arity-requires : goal.arity-arity-requires
arity-arity-requires c = relation-low (goal.at.arity-arity-requires c).Start

-- the arity is known
module _ (c : After-arity-arity) where
  abbrev called : Start
  called = c.before.before.before

  -- the tuples to examine, and the row that is asked
  abbrev all : List (List ℕ)
  all = take called.args.most (tuples called.args.relation (rows_from (arities_in called.args.known.now) 0 called.args.words.now))

  abbrev arity : ℕ
  arity = c.arity-arity.result

  is_arity_lem : arity ≡ arity_of (arities_in called.args.known.now) called.args.relation
  is_arity_lem = c.arity-arity.ensures

  abbrev asked : List ℕ
  asked = take arity called.args.row.now

  columns : (1 ≤ arity) × (arity ≤ max_columns)
  columns = rw is_arity_lem ((headed _ _ called.requires.given.well_formed.header).columns _ called.requires.known)

  size : length asked ≡ arity
  size = length-take-le arity called.args.row.now (omega (arith, columns.1))

pub shared_ref_as_front-asked : goal.shared_ref_as_front-asked
shared_ref_as_front-asked c = (columns (goal.at.shared_ref_as_front-asked c).After-arity-arity).1

pub new-probe-requires : goal.new-probe-requires
new-probe-requires c = let b = (goal.at.new-probe-requires c).After-arity-arity in omega (arith, size b, (columns b).0)

pub loop-more-init : goal.loop-more-init
loop-more-init c =
    let b = (goal.at.loop-more-init c).After-arity-arity in (
      b.requires,
      probe_stands _ _ _ c.new-probe.ensures (omega (arith, size b, (columns b).0)),
      truth-starts _ _,
      omega arith,
      omega arith,
    )

pub next_near-near-requires : goal.next_near-near-requires
next_near-near-requires c =
    let l = (goal.at.next_near-near-requires c).At-loop-more in
    let b = (goal.at.next_near-near-requires c).After-arity-arity in
    (c.loop-more.invariant.0, omega (arith, c.loop-more.invariant.1.column, size b, is_arity_lem b))

-- the next row that is not passed over, if there is one
module _ (c : After-next_near-near) where
  abbrev at : At-loop-more
  at = (up-At-loop-more _ _ _ _ _ _ c.before.before.before.before)

  abbrev asks : After-arity-arity
  asks = (up-After-arity-arity _ _ _ _ _ _ at.before.before.before.before)

  abbrev start : Start
  start = called asks

  abbrev ars : List ℕ
  ars = arities_in start.args.known.now

  abbrev ws : List ℕ
  ws = start.args.words.now

  abbrev relation : ℕ
  relation = start.args.relation

  abbrev most : ℕ
  most = start.args.most

  abbrev cells : List ℕ
  cells = asked asks

  abbrev column : ℕ
  column = at.loop-more.probe.column

  abbrev possible : Bool
  possible = at.loop-more.possible

  abbrev test : List ℕ → Bool
  test = told_apart column (get_or cells column 0) (limit_of possible (get_or cells column 0))

  abbrev place : ℕ
  place = c.next_near-near.result.place

  abbrev more : ℕ
  more = c.next_near-near.result.more

  abbrev answer : Truth
  answer = stands (all asks) cells

  abbrev charge : ℕ
  charge = examined (all asks) cells

  -- the rows left before the search and after it
  abbrev coming : List (List ℕ)
  coming = take at.loop-more.more (tuples relation (rows_from ars 0 (drop at.loop-more.i ws)))

  abbrev rest : List (List ℕ)
  rest = take more (tuples relation (rows_from ars 0 (drop place ws)))

  skipped : rest ≡ passing test coming
  skipped = c.next_near-near.ensures.rows ∙ ap (λ (k : ℕ). passing (told_apart column (get_or cells column 0) k) coming) at.loop-more.invariant.1.low

  left : RowsLeft ars ws relation place more
  left = c.next_near-near.ensures.left

  coming_size : length coming ≡ at.loop-more.more
  coming_size = length-take-le _ _ at.loop-more.invariant.0.some

  rest_size : length rest ≡ more
  rest_size = length-take-le _ _ left.some

  fewer : more ≤ at.loop-more.more
  fewer = omega (arith, rest_size, ap length skipped, passing_shorter test coming, coming_size)

  -- they say the same
  same_after : (truth_from possible coming cells ≡ truth_from possible rest cells) × (examined coming cells + length rest ≡ examined rest cells + length coming)
  same_after = rw skipped (passed possible column cells coming)

  seen : answer ≡ truth_from possible rest cells
  seen = at.loop-more.invariant.2 ∙ same_after.0

  counted : charge + more ≡ most + examined rest cells
  counted = omega (arith, at.loop-more.invariant.4, same_after.1, coming_size, rest_size)

  -- the row at that place
  module _ (some : 0 < more) where
    abbrev next : ℕ
    next = place + 1 + arity asks

    sum : place + (1 + arity_of ars relation) ≡ next
    sum = omega (arith, is_arity_lem asks)

    abbrev this : List ℕ
    this = cells_at ws place (length cells)

    abbrev behind : List (List ℕ)
    behind = take (more - 1) (tuples relation (rows_from ars 0 (drop next ws)))

    is : get_or ws place 0 ≡ relation
    is = c.next_near-near.ensures.here some

    within : next ≤ length ws
    within = omega (arith, same-within _ _ _ _ left some is, is_arity_lem asks)

    after : RowsLeft ars ws relation next (more - 1)
    after = subst (λ (k : ℕ). RowsLeft ars ws relation k (more - 1)) sum (same_left _ _ _ _ left some is (more - 1) (omega (arith, some)))

    here : rest ≡ this ∷ behind
    here =
        let one : more ≡ suc (more - 1) = omega (arith, some) in
        let step =
        same_step _ _ _ _ left some is ∙ ap (λ (k : ℕ). cells_at ws place (arity_of ars relation) ∷ tuples relation (rows_from ars 0 (drop k ws))) sum
        in
        ap (take more) step ∙ ap (λ (k : ℕ). take k (cells_at ws place (arity_of ars relation) ∷ tuples relation (rows_from ars 0 (drop next ws)))) one ∙
        ap (λ (k : ℕ). cells_at ws place k ∷ behind) (sym (size asks ∙ is_arity_lem asks))

    module _ (m : Match) (told : match_after possible cells this ≡ m) where
      same : answer ≡ truth_after m possible behind cells
      same =
          seen ∙ ap (λ (ts : List (List ℕ)). truth_from possible ts cells) here ∙ truth-step possible this behind cells ∙
          ap (λ (m : Match). truth_after m possible behind cells) told

      counted_same : charge + more ≡ most + examined_after m behind cells
      counted_same =
          counted ∙
          ap (λ (n : ℕ). most + n)
          (ap (λ (ts : List (List ℕ)). examined ts cells) here ∙ examined-step possible this behind cells ∙ ap (λ (m : Match). examined_after m behind cells) told)

pub compare_after-requires : goal.compare_after-requires
compare_after-requires c =
    let b = (goal.at.compare_after-requires c).After-next_near-near in (omega (arith, within b c.if-more-gt0.true, size (asks b)), omega (arith, size (asks b), (columns (asks b)).1))

pub overflow_sub-examined : goal.overflow_sub-examined
overflow_sub-examined c = let b = (goal.at.overflow_sub-examined c).After-next_near-near in omega (arith, fewer b, (at b).loop-more.invariant.3)

pub returns-in-Identical : goal.returns-in-Identical
returns-in-Identical c =
    let b = (goal.at.returns-in-Identical c).After-next_near-near in
    let some = c.if-more-gt0.true in
    let told = sym c.compare_after.ensures ∙ c.in-Identical.is in by_answer_verdict_charge (means _ _ (is_arity_lem (asks b)) (sym (same b some Identical told)) (omega (arith, counted_same b some Identical told, fewer b, (at b).loop-more.invariant.3)))

pub next-probe-requires : goal.next-probe-requires
next-probe-requires c =
    let b = (goal.at.next-probe-requires c).After-next_near-near in (omega (arith, within b c.if-more-gt0.true, size (asks b)), (at b).loop-more.invariant.1)

-- after the row at that place
module _ (c : Joined-compare_after) where
  abbrev b : After-next_near-near
  b = (up-After-next_near-near _ _ _ _ _ _ c.before.before.before.before)

  abbrev some : 0 < more b
  some = c.if-more-gt0.true

pub overflow_add-i : goal.overflow_add-i
overflow_add-i c = let j = (goal.at.overflow_add-i c).Joined-compare_after in omega (arith, within (b j) (some j), (start (b j)).requires.given.well_formed.few)

pub loop-more-smaller-then-more-gt0 : goal.loop-more-smaller-then-more-gt0
loop-more-smaller-then-more-gt0 c = let j = (goal.at.loop-more-smaller-then-more-gt0 c).Joined-compare_after in omega (arith, fewer (b j), some j)

pub loop-more-preserved-then-more-gt0 : goal.loop-more-preserved-then-more-gt0
loop-more-preserved-then-more-gt0 c =
    let j = (goal.at.loop-more-preserved-then-more-gt0 c).Joined-compare_after in
    let told = sym j.before.compare_after.ensures in (
      after (b j) (some j),
      c.next-probe.ensures,
      elim j.match-compare_after.branch [
        | in-Unifies m ↦ rw m.possible-is (same (b j) (some j) Unifies (told ∙ m.in-Unifies.is))
        | in-Apart m ↦ rw m.possible-is (same (b j) (some j) Apart (told ∙ m.in-Apart.is))
      ],
      omega (arith, fewer (b j), (at (b j)).loop-more.invariant.3),
      elim j.match-compare_after.branch [
        | in-Unifies m ↦ omega (arith, some j, counted_same (b j) (some j) Unifies (told ∙ m.in-Unifies.is))
        | in-Apart m ↦ omega (arith, some j, counted_same (b j) (some j) Apart (told ∙ m.in-Apart.is))
      ],
    )

pub loop-more-preserved : goal.loop-more-preserved
loop-more-preserved c =
    let b = (goal.at.loop-more-preserved c).After-next_near-near in
    let none : more b ≡ 0 = omega (arith, c.if-more-gt0.false) in
    let left-none : rest b ≡ take (more b) (tuples (relation b) (rows_from (ars b) 0 (drop (at b).loop-more.i (ws b)))) = none_left _ none _ _ in (
      fewer_left _ _ _ _ (at b).loop-more.invariant.0 _ (fewer b),
      (at b).loop-more.invariant.1,
      seen b ∙ ap (λ (ts : List (List ℕ)). truth_from (possible b) ts (cells b)) left-none,
      omega (arith, fewer b, (at b).loop-more.invariant.3),
      counted b ∙ ap (λ (ts : List (List ℕ)). most b + examined ts (cells b)) left-none,
    )

-- after the last row to examine
module _ (c : After-loop-more) where
  abbrev given : After-arity-arity
  given = (up-After-arity-arity _ _ _ _ _ _ c.before.before.before.before.before)

  abbrev beyond : List (List ℕ)
  beyond =
      tuples given.args.relation
      (rows_from (arities_in given.args.known.now) 0 (drop c.loop-more.i given.args.words.now))

  none : take c.loop-more.more beyond ≡ []
  none = let zero : c.loop-more.more ≡ 0 = omega (arith, c.loop-more-test.false) in ap (λ (k : ℕ). take k beyond) zero

  at_end : (possible : Bool) → c.loop-more.possible ≡ possible → stands (all given) (asked given) ≡ cond possible Unknown False
  at_end possible e = c.loop-more.invariant.2 ∙ rw (e, none) (truth_ends possible _)

  all-examined : given.args.most ≡ examined (all given) (asked given)
  all-examined =
      let is_zero = ap (λ (ts : List (List ℕ)). examined ts (asked given)) none ∙ examined_ends (asked given) in
      omega (arith, c.loop-more-test.false, c.loop-more.invariant.4, is_zero)

pub returns-then-possible : goal.returns-then-possible
returns-then-possible c =
    let b = (goal.at.returns-then-possible c).After-loop-more in by_answer_verdict_charge (means _ _ (is_arity_lem (given b)) (sym (at_end b true c.if-possible.true)) (all-examined b))

pub returns-else-possible : goal.returns-else-possible
returns-else-possible c =
    let b = (goal.at.returns-else-possible c).After-loop-more in by_answer_verdict_charge (means _ _ (is_arity_lem (given b)) (sym (at_end b false c.if-possible.false)) (all-examined b))
