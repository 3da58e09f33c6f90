-- `range::pass::pass_cells` meets its contract: the flags of the first i words are set. Assumes nothing.
use Prim.Native.Nat.{ℕ, ◌-◌, ◌<◌}
use mathlib.Core.Path.{◌≡◌, ap, ◌∙◌}
use mathlib.Core.List.{List}
use native.Mathlib.Omega.{arith}
use lib.ListN.{length, get_or}
use Rattle.instance.specs.Header.{arity_of, max_relations}
use Rattle.instance.specs.InstanceWellFormed.{InstanceOf}
use Rattle.instance.proofs.Walk.{relation-few}
use Rattle.known.specs.declared.Known.{Known}
use Rattle.known.specs.Known.{arities_in}
use Rattle.range.proofs.Passing.{Passing, passing-starts, passing-relation, passing-row, passing-cell, passing-ends, passing-cached}
use Rattle.range.proofs.pass.pass_cells.Goals as goal
use Rattle.range.proofs.pass.pass_cells.Goals.{At-loop-i, In-loop-i, Start, else-left-eq0, then-left-eq0}

pub loop-i-init : goal.loop-i-init
loop-i-init c =
    let p = c.requires in
    let ws = c.args.words.now in
    (p.instance_of.0, rw p.instance_of.1 (passing-starts _ _ _ _ p.instance_of.0.well_formed.words p.no_flags))

module _ (c : In-loop-i) where
  abbrev start : Start
  start = c.before.before.before.before

  abbrev ws : List ℕ
  ws = start.args.words.now

  abbrev before : Known
  before = start.args.known.now

  abbrev known : Known
  known = c.loop-i.known

  abbrev i : ℕ
  i = c.loop-i.i

  inside : i < length ws
  inside = omega arith

  abbrev given : InstanceOf (arities_in before) ws
  given = c.loop-i.invariant.0

  abbrev so_far : Passing given.relations (arities_in before) ws before known c.loop-i.heads c.loop-i.left i
  so_far = c.loop-i.invariant.1

  few : c.loop-i.left ≡ 0 → get_or ws i 0 < max_relations
  few e = relation-few given.relations (arities_in before) ws (get_or ws i 0) given.well_formed (passing-relation so_far inside e)

  arity : arity_of (arities_in known) (get_or ws i 0) ≡ arity_of (arities_in before) (get_or ws i 0)
  arity = ap (λ (l : List ℕ). arity_of l (get_or ws i 0)) so_far.kept.arities

pub arity-left-requires : goal.arity-left-requires
arity-left-requires c = few (goal.at.arity-left-requires c).In-loop-i c.if-left-eq0.true

pub pass_again-requires : goal.pass_again-requires
pass_again-requires c =
    let b = (goal.at.pass_again-requires c).In-loop-i in record {
      place_in = (inside b, (given b).well_formed.few, (so_far b).later _ (omega arith));
      cached_before = (so_far b).cached;
    }

pub loop-i-preserved : goal.loop-i-preserved
loop-i-preserved c =
    let b = (goal.at.loop-i-preserved c).In-loop-i in
    let l = inside b in (
      given b,
      (elim c.if-left-eq0.branch [ then-left-eq0 a ↦ rw (a.known-is, a.heads-is, a.left-is ∙ a.arity-left.ensures ∙ arity b) (passing-row (so_far b) l a.if-left-eq0.true _ a.pass.ensures) | else-left-eq0 a ↦ rw (a.known-is, a.heads-is, a.left-is) (passing-cell (so_far b) l (c.loop-i.left - 1) (omega (arith, a.if-left-eq0.false)) _ _ a.pass_again.ensures.flags a.pass_again.ensures.cached) ]),
    )

pub returns : goal.returns
returns c =
    let inv = c.loop-i.invariant.1 in record {
      kept = inv.kept;
      flags = passing-ends inv (omega (arith, c.loop-i-test.false));
      cached = passing-cached inv (omega (arith, c.loop-i-test.false));
    }
