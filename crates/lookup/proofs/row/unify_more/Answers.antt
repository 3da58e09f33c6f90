-- `lookup::row::unify_more` meets its contract: the columns from index i decide, under the first `count` bindings. Assumes nothing.
use Prim.Native.Nat.{ℕ, ◌+◌, ◌<◌}
use mathlib.Core.Path.{◌≡◌, sym, ap, ◌∙◌}
use mathlib.Core.Bool.{Bool}
use mathlib.Core.List.{List, [], ◌∷◌}
use native.Mathlib.Omega.{arith}
use lib.ListN.{length, take, drop}
use Rattle.std.specs.Prelude.{Option}
use Rattle.calculus.specs.Unify.{unifies_with}
use Rattle.lookup.specs.declared.row.Binding.{Binding}
use Rattle.lookup.specs.Binding.{through, binding_of}
use Rattle.lookup.specs.Matching.{unified}
use Rattle.lookup.proofs.Matching.{with_binding, column-alike, column_bound, columns-end, unify-more}
use Rattle.lookup.proofs.row.unify_more.Goals as goal
use Rattle.lookup.proofs.row.unify_more.Goals.{After-put_through-y, then-x-y+in-Some, else-x-y}

-- the column at index i, with the bindings applied to its cells
module _ (c : After-put_through-y) where
  abbrev row : List ℕ
  row = c.args.row.now

  abbrev found : List ℕ
  found = c.args.found.now

  abbrev i : ℕ
  i = c.loop-i.i

  abbrev given : ℕ → ℕ
  given = through (take c.loop-i.count c.loop-i.bindings)

  abbrev answer : Bool
  answer = unifies_with (through (c.args.first ∷ c.args.second ∷ [])) row found

  abbrev x : ℕ
  x = c.put_through-x.result

  abbrev y : ℕ
  y = c.put_through-y.result

  inside : i < length row
  inside = omega arith

  inside_too : i < length found
  inside_too = omega (arith, c.requires.0)

  space : c.loop-i.count < length c.loop-i.bindings
  space = omega (arith, c.requires.1, c.loop-i.invariant.0)

  alike : x ≡ y → answer ≡ unifies_with given (drop (i + 1) row) (drop (i + 1) found)
  alike e = c.loop-i.invariant.1 ∙ column-alike given row found i inside inside_too c.put_through-x.ensures c.put_through-y.ensures e

  differ : (x ≡ y → ⊥) → {o : Option Binding} → o ≡ binding_of x y → answer ≡ with_binding given (drop (i + 1) row) (drop (i + 1) found) o
  differ ne e = c.loop-i.invariant.1 ∙ column_bound given row found i inside inside_too c.put_through-x.ensures c.put_through-y.ensures ne e

pub returns-in_default : goal.returns-in_default
returns-in_default c =
    let b = (goal.at.returns-in_default c).After-put_through-y in
    ap unified (sym (differ b c.if-x-y.true (sym c.in_default.is ∙ c.between.ensures)))

pub loop-i-preserved : goal.loop-i-preserved
loop-i-preserved c =
    let b = (goal.at.loop-i-preserved c).After-put_through-y in
    elim c.if-x-y.branch [
      | then-x-y+in-Some w ↦ (
        omega (arith, w.count-is, c.loop-i.invariant.0),
        rw (w.count-is, w.bindings-is)
            (differ b w.if-x-y.true (sym w.in-Some.is ∙ w.between.ensures) ∙
            unify-more (λ c. c) c.loop-i.bindings c.loop-i.count w.in-Some.next (space b) (drop (i b + 1) (row b)) (drop (i b + 1) (found b))),
      )
      | else-x-y w ↦ (omega (arith, w.count-is, c.loop-i.invariant.0), rw (w.count-is, w.bindings-is) (alike b w.if-x-y.false))
    ]

pub returns : goal.returns
returns c =
    let a = c.args in
    ap unified (sym (c.loop-i.invariant.1 ∙ columns-end (through (take c.loop-i.count c.loop-i.bindings)) a.row.now a.found.now c.loop-i.i c.requires.0 (omega arith)))
