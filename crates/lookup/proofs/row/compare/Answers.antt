-- `lookup::row::compare` meets its contract: the first column that differs decides, with those after it. Assumes nothing.
use Prim.Native.Nat.{ℕ, ◌+◌, ◌-◌, ◌≤◌, ◌<◌}
use mathlib.Core.Path.{◌≡◌, refl, sym, ap, ◌∙◌}
use mathlib.Core.List.{List}
use native.Mathlib.Omega.{arith}
use borrow.Author.Tests.{lt-ltb, le-ltb}
use lib.ListN.{length, get_or, take, drop, length-take, length-drop}
use Rattle.std.specs.Prelude.{Option, Some, None}
use Rattle.calculus.specs.Cell.{constants}
use Rattle.lookup.specs.declared.row.Binding.{Binding}
use Rattle.lookup.specs.Binding.{binding_of}
use Rattle.lookup.specs.Matching.{alike, unified, matching}
use Rattle.lookup.specs.Place.{cells_at, compared_at}
use Rattle.lookup.proofs.Alike.{alike-identical, other-low, other_decides}
use Rattle.lookup.proofs.Columns.{cells-size, rest_of}
use Rattle.lookup.proofs.Matching.{with_binding}
use Rattle.lookup.proofs.Meaning.{row_told}
use Rattle.lookup.proofs.row.compare.Goals as goal
use Rattle.lookup.proofs.row.compare.Goals.{After-alike-i, Start, then-asked-ge-CONSTANTS, else-asked-ge-CONSTANTS+then-cell-ge-CONSTANTS}

binding_none : (x y : ℕ) → x < constants → y < constants → ◌≡◌ {A = Option Binding} None (binding_of x y)
binding_none x y p q = simp (lt-ltb x constants p, lt-ltb y constants q)

binding_left : (x y : ℕ) → constants ≤ x → Some (record { null = x; cell = y }) ≡ binding_of x y
binding_left x y p = simp (le-ltb x constants p)

binding_right : (x y : ℕ) → x < constants → constants ≤ y → Some (record { null = y; cell = x }) ≡ binding_of x y
binding_right x y p q = simp (lt-ltb x constants p, le-ltb y constants q)

by_answer_verdict_means : {A B C : Type 0} → A × (B × C) → record { answer : A; verdict : B; means : C }
by_answer_verdict_means p = record { answer = p.0; verdict = p.1.0; means = p.1.1 }

-- the columns that are alike
module _ (c : After-alike-i) where
  abbrev start : Start
  start = c.before.before.before.before

  abbrev words : List ℕ
  words = start.args.words.now

  abbrev place : ℕ
  place = start.args.place

  abbrev row : List ℕ
  row = start.args.row.now

  abbrev cells : List ℕ
  cells = cells_at words place (length row)

  abbrev i : ℕ
  i = c.alike-i.result

  is : i ≡ alike row cells
  is = c.alike-i.ensures

  size : length row ≡ length cells
  size = cells-size words place (length row) start.requires.0

  -- the row's part of the words, as it is taken
  abbrev taken : List ℕ
  taken = take (place + 1 + length row - (place + 1)) (drop (place + 1) words)

  found : taken ≡ cells
  found = ap (λ (n : ℕ). take n (drop (place + 1) words)) (let e : place + 1 + length row - (place + 1) ≡ length row = omega arith in e)

  module _ (other : i ≡ length row → ⊥) where
    inside : i < length row
    inside = other-low row cells size is other

    decides :
        {o : Option Binding} → o ≡ binding_of (get_or row i 0) (get_or taken i 0) →
        compared_at words place row ≡ unified (with_binding (λ c. c) (drop (i + 1) row) (drop (i + 1) cells) o)
    decides e = other_decides row cells size is other (rw found at e)

pub returns-then-i-row : goal.returns-then-i-row
unfolding matching
returns-then-i-row c =
    let b = (goal.at.returns-then-i-row c).After-alike-i in by_answer_verdict_means (row_told (row b) (cells b) (rw (alike-identical (row b) (cells b) (size b) (sym (is b) ∙ c.if-i-row.true)) refl))

pub offset_bounds-row-i : goal.offset_bounds-row-i
offset_bounds-row-i c = let b = (goal.at.offset_bounds-row-i c).After-alike-i in omega (arith, inside b c.if-i-row.false)

pub bounds-row-i : goal.bounds-row-i
bounds-row-i c = inside (goal.at.bounds-row-i c).After-alike-i c.if-i-row.false

pub offset_bounds-found-i : goal.offset_bounds-found-i
offset_bounds-found-i c = let b = (goal.at.offset_bounds-found-i c).After-alike-i in omega (arith, inside b c.if-i-row.false)

pub bounds-found-i : goal.bounds-found-i
bounds-found-i c =
    let b = (goal.at.bounds-found-i c).After-alike-i in
    simp (length-take, length-drop) (omega (arith, inside b c.if-i-row.false, (start b).requires.0))

pub returns-else-cell-ge-CONSTANTS : goal.returns-else-cell-ge-CONSTANTS
returns-else-cell-ge-CONSTANTS c =
    let b = (goal.at.returns-else-cell-ge-CONSTANTS c).After-alike-i in
    let none = binding_none _ _ c.if-asked-ge-CONSTANTS.false c.if-cell-ge-CONSTANTS.false in
    by_answer_verdict_means (row_told _ _ (sym (decides b c.if-i-row.false none)))

pub returns : goal.returns
returns c =
    let b = (goal.at.returns c).After-alike-i in
    let first : Some c.if-asked-ge-CONSTANTS.first ≡ binding_of (get_or (row b) (i b) 0) (get_or (taken b) (i b) 0) =
    elim c.if-asked-ge-CONSTANTS.branch [
      | then-asked-ge-CONSTANTS w ↦ rw w.first-is (binding_left _ _ w.if-asked-ge-CONSTANTS.true)
      | else-asked-ge-CONSTANTS+then-cell-ge-CONSTANTS w ↦ rw w.first-is (binding_right _ _ w.if-asked-ge-CONSTANTS.false w.if-cell-ge-CONSTANTS.true)
    ]
    in
    let parts = rw (rest_of (row b) (i b + 1), found b, rest_of (cells b) (i b + 1)) at c.unify.ensures in
    by_answer_verdict_means (row_told _ _ (parts ∙ sym (decides b c.if-i-row.false first)))
