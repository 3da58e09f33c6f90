-- `lookup::rows::next_near` meets its contract: the rows before index i are passed over. Assumes nothing.
use Prim.Native.Nat.{ℕ, suc, ◌≤◌, ◌<◌, ◌-◌, ◌+◌}
use mathlib.Core.Path.{◌≡◌, sym, ap, ◌∙◌}
use mathlib.Core.Bool.{Bool, false}
use mathlib.Core.Logic.{⊎_elim}
use mathlib.Core.List.{List, ◌∷◌}
use native.Mathlib.Omega.{arith}
use lib.ListN.{length, get_or, take, drop}
use Rattle.calculus.specs.Closed.{tuples}
use Rattle.instance.specs.Header.{arity_of, max_relations, max_columns}
use Rattle.instance.specs.Rows.{rows_from}
use Rattle.instance.proofs.Walk.{relation-few, arity_few}
use Rattle.known.specs.Known.{arities_in}
use Rattle.lookup.specs.Passing.{RowsLeft, told_apart, passing, words_passed}
use Rattle.lookup.specs.Place.{cells_at}
use Rattle.lookup.proofs.Columns.{cells_at_lem}
use Rattle.lookup.proofs.Left.{fewer_left, more_left, same_step, same_stops, same-goes-on, same-within, same_left}
use Rattle.lookup.proofs.Passing.{passing_stops, passing-goes_on, told_same, told-high, told-low}
use Rattle.lookup.proofs.rows.next_near.Goals as goal
use Rattle.lookup.proofs.rows.next_near.Goals.{After-next_row-i, Start}

by_rows_left_here_place : {A B C D : Type 0} → A × (B × (C × D)) → record { rows : A; left : B; here : C; place : D }
by_rows_left_here_place p = record { rows = p.0; left = p.1.0; here = p.1.1.0; place = p.1.1.1 }

module _ (c : Start) where
  relation-low : c.args.relation < max_relations
  relation-low = relation-few _ (arities_in c.args.known.now) c.args.words.now _ c.requires.0.given.well_formed c.requires.0.known

  narrow : arity_of (arities_in c.args.known.now) c.args.relation ≤ max_columns
  narrow = arity_few _ (arities_in c.args.known.now) c.args.words.now _ c.requires.0.given.well_formed c.requires.0.known

  column-low : c.args.column < arity_of (arities_in c.args.known.now) c.args.relation
  column-low = c.requires.1

pub arity-step-requires : goal.arity-step-requires
arity-step-requires c = relation-low (goal.at.arity-step-requires c).Start

pub overflow_add-step : goal.overflow_add-step
overflow_add-step c = omega (arith, c.arity-step.ensures, narrow (goal.at.overflow_add-step c).Start)

pub next_row-i-requires : goal.next_row-i-requires
next_row-i-requires c =
    fewer_left _ _ _ _ c.loop-more.invariant.0 1 (omega (arith, c.loop-more-test.true))

-- the relation's next row
module _ (c : After-next_row-i) where
  abbrev start : Start
  start = c.before.before.before.before.before.before

  abbrev ars : List ℕ
  ars = arities_in start.args.known.now

  abbrev ws : List ℕ
  ws = start.args.words.now

  abbrev relation : ℕ
  relation = start.args.relation

  abbrev arity : ℕ
  arity = arity_of ars relation

  abbrev more : ℕ
  more = c.loop-more.more

  abbrev place : ℕ
  place = c.next_row-i.result

  abbrev apart : List ℕ → Bool
  apart = told_apart start.args.column start.args.asked start.args.limit

  abbrev all : List (List ℕ)
  all = passing apart (take start.args.most (tuples relation (rows_from ars 0 (drop start.args.place ws))))

  abbrev this : List ℕ
  this = cells_at ws place arity

  abbrev behind : List (List ℕ)
  behind = tuples relation (rows_from ars 0 (drop (place + (1 + arity)) ws))

  -- the length of a row
  stepped : 1 + c.arity-step.result ≡ 1 + arity
  stepped = ap (λ (k : ℕ). 1 + k) c.arity-step.ensures

  some : 0 < more
  some = c.loop-more-test.true

  is : get_or ws place 0 ≡ relation
  is = c.next_row-i.ensures.here

  left : RowsLeft ars ws relation place more
  left = more_left _ _ _ _ c.next_row-i.ensures.left more (omega (arith, ap length c.next_row-i.ensures.rows, c.loop-more.invariant.0.some))

  -- the rows left here
  here : take more (tuples relation (rows_from ars 0 (drop place ws))) ≡ this ∷ take (more - 1) behind
  here =
      let one : more ≡ suc (more - 1) = omega (arith, some) in
      ap (take more) (same_step _ _ _ _ left some is) ∙ ap (λ (k : ℕ). take k (this ∷ behind)) one

  kept : passing apart (this ∷ take (more - 1) behind) ≡ all
  kept = sym (ap (passing apart) here) ∙ ap (λ (l : List (List ℕ)). passing apart (take more l)) c.next_row-i.ensures.rows ∙ c.loop-more.invariant.1

  within : place + (1 + arity) ≤ length ws
  within = same-within _ _ _ _ left some is

  -- its cell in the column
  cell : get_or this start.args.column 0 ≡ get_or ws (place + 1 + start.args.column) 0
  cell = cells_at_lem ws place arity start.args.column (column-low start)

  -- where passing over leads from here
  abbrev passed : ℕ → ℕ → ℕ
  passed n k = words_passed apart relation n (rows_from ars 0 (drop k ws))

  abbrev the_goal : ℕ
  the_goal = start.args.place + passed start.args.most start.args.place

  leads : place + passed (suc (more - 1)) place ≡ the_goal
  leads =
      let one : more ≡ suc (more - 1) = omega (arith, some) in
      let on = c.next_row-i.ensures.place apart (more - 1) in
      on ∙ ap (λ (k : ℕ). c.loop-more.i + passed k c.loop-more.i) (sym one) ∙ c.loop-more.invariant.2

  stops :
      apart this ≡ false →
      (take more (tuples relation (rows_from ars 0 (drop place ws))) ≡ all)
      × (RowsLeft ars ws relation place more × ((0 < more → get_or ws place 0 ≡ relation) × (place ≡ the_goal)))
  stops e =
      let none = same_stops _ _ _ _ left some is apart (more - 1) e in
      (here ∙ sym (passing_stops apart this _ e) ∙ kept, (left, (λ _. is, omega (arith, none, leads))))

pub overflow_add-cell-in-loop-more : goal.overflow_add-cell-in-loop-more
overflow_add-cell-in-loop-more c = omega (arith, within c, column-low (start c))

pub offset_bounds-words-i : goal.offset_bounds-words-i
offset_bounds-words-i c = omega (arith, within c, column-low (start c))

pub bounds-words-i : goal.bounds-words-i
bounds-words-i c = omega (arith, within (goal.at.bounds-words-i c).After-next_row-i, column-low (start (goal.at.bounds-words-i c).After-next_row-i))

pub returns-then-cell-asked : goal.returns-then-cell-asked
returns-then-cell-asked c =
    let b = (goal.at.returns-then-cell-asked c).After-next_row-i in
    by_rows_left_here_place
    (⊎_elim
    (λ e. stops b (told_same b.args.column _ b.args.limit (this b) (cell b ∙ e)))
    (λ e. stops b (told-high b.args.column b.args.asked b.args.limit (this b) (omega (arith, cell b, e.1))))
    c.then-cell-asked.either)

pub overflow_add-i : goal.overflow_add-i
overflow_add-i c = let b = (goal.at.overflow_add-i c).After-next_row-i in omega (arith, stepped b, within b)

pub loop-more-preserved : goal.loop-more-preserved
loop-more-preserved c =
    let b = (goal.at.loop-more-preserved c).After-next_row-i in
    let low = told-low b.args.column b.args.asked b.args.limit (this b) (λ e. c.if-cell-asked.false (sym (cell b) ∙ e)) (omega (arith, cell b, c.if-limit-cell.false)) in
    rw (stepped b) (
      same_left _ _ _ _ (left b) (some b) (is b) (more b - 1) (omega (arith, some b)),
      sym (passing-goes_on (apart b) (this b) _ low) ∙ kept b,
      sym (same-goes-on _ _ _ _ (left b) (some b) (is b) (apart b) (more b - 1) low) ∙ leads b,
    )

pub returns : goal.returns
unfolding passing words_passed
returns c =
    let a = c.args in
    let none : c.loop-more.more ≡ 0 = omega (arith, c.loop-more-test.false) in
    let apart = told_apart a.column a.asked a.limit in
    let rows = rows_from (arities_in a.known.now) 0 (drop c.loop-more.i a.words.now) in
    let zero : words_passed apart a.relation c.loop-more.more rows ≡ 0 = ap (λ (k : ℕ). words_passed apart a.relation k rows) none in record {
      rows = sym (ap (λ (k : ℕ). passing apart (take k (tuples a.relation rows))) none) ∙ c.loop-more.invariant.1;
      left = fewer_left _ _ _ _ c.loop-more.invariant.0 0 (omega arith);
      here = λ less. absurd (omega (arith, less));
      place = omega (arith, zero, c.loop-more.invariant.2);
    }
