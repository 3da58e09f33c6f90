-- `lookup::row::unify` meets its contract: the columns from index i decide, under the binding that is given. Assumes nothing.
use Prim.Native.Nat.{ℕ, ◌+◌, ◌<◌}
use mathlib.Core.Path.{◌≡◌, sym, ap, ◌∙◌}
use mathlib.Core.Bool.{Bool}
use mathlib.Core.List.{List, [], ◌∷◌}
use native.Mathlib.Omega.{arith}
use lib.ListN.{length, drop}
use Rattle.std.specs.Prelude.{Option}
use Rattle.calculus.specs.Unify.{unifies_with}
use Rattle.lookup.specs.declared.row.Binding.{Binding}
use Rattle.lookup.specs.Binding.{through, binding_of}
use Rattle.lookup.specs.Matching.{unified}
use Rattle.lookup.proofs.Columns.{rest_of}
use Rattle.lookup.proofs.Matching.{with_binding, column-alike, column_bound, columns-end}
use Rattle.lookup.proofs.row.unify.Goals as goal
use Rattle.lookup.proofs.row.unify.Goals.{After-apply-y}

-- the column at index i, with the binding applied to its cells
module _ (c : After-apply-y) where
  abbrev row : List ℕ
  row = c.args.row.now

  abbrev found : List ℕ
  found = c.args.found.now

  abbrev i : ℕ
  i = c.loop-i.i

  abbrev given : ℕ → ℕ
  given = through (c.args.first ∷ [])

  abbrev answer : Bool
  answer = unifies_with given row found

  inside : i < length row
  inside = omega arith

  inside_too : i < length found
  inside_too = omega (arith, c.requires.0)

  alike : c.apply-x.result ≡ c.apply-y.result → answer ≡ unifies_with given (drop (i + 1) row) (drop (i + 1) found)
  alike e = c.loop-i.invariant ∙ column-alike given row found i inside inside_too c.apply-x.ensures c.apply-y.ensures e

  differ :
      (c.apply-x.result ≡ c.apply-y.result → ⊥) → {o : Option Binding} → o ≡ binding_of c.apply-x.result c.apply-y.result →
      answer ≡ with_binding given (drop (i + 1) row) (drop (i + 1) found) o
  differ ne e = c.loop-i.invariant ∙ column_bound given row found i inside inside_too c.apply-x.ensures c.apply-y.ensures ne e

pub returns-in_default : goal.returns-in_default
returns-in_default c =
    let b = (goal.at.returns-in_default c).After-apply-y in
    ap unified (sym (differ b c.if-x-y.true (sym c.in_default.is ∙ c.between.ensures)))

pub returns-then-x-y : goal.returns-then-x-y
returns-then-x-y c =
    let b = (goal.at.returns-then-x-y c).After-apply-y in
    rw (rest_of (row b) (i b + 1), rest_of (found b) (i b + 1)) at c.unify_more.ensures ∙
    ap unified (sym (differ b c.if-x-y.true (sym c.in-Some.is ∙ c.between.ensures)))

pub loop-i-preserved : goal.loop-i-preserved
loop-i-preserved c = alike (goal.at.loop-i-preserved c).After-apply-y c.if-x-y.false

pub returns : goal.returns
returns c =
    let a = c.args in
    ap unified (sym (c.loop-i.invariant ∙ columns-end (through (a.first ∷ [])) a.row.now a.found.now c.loop-i.i c.requires.0 (omega arith)))
