-- `query::node::check_node` meets its contract: the kind word picks the definition's case. Assumes nothing.
use Prim.Native.Nat.{ℕ}
use mathlib.Core.Path.{◌≡◌, refl, sym, ap, ◌∙◌}
use mathlib.Core.List.{List}
use native.Mathlib.Omega.{arith}
use lib.ListN.{get_or}
use Rattle.query.specs.Words.{Kind, row_stands, equals, negates, no_such_kind, joins, ranges, kind_of}
use Rattle.query.specs.declared.scopes.Scopes.{Scopes}
use Rattle.query.specs.Check.{check_by, check_node}
use Rattle.query.proofs.Steps.{node_by, joined, ranged, no_kind}
use Rattle.query.proofs.node.check_node.Goals as goal
use Rattle.query.proofs.node.check_node.Goals.{After-word}

pub returns-then-not-scopes-node : goal.returns-then-not-scopes-node
unfolding check_node
returns-then-not-scopes-node c = rw c.if-not-scopes-node.true refl

-- a named node, and its kind
module _ (c : After-word) where
  abbrev n : ℕ
  n = c.args.header.now.relations

  abbrev ars : List ℕ
  ars = c.args.header.now.arities

  abbrev qs : List ℕ
  qs = c.args.node.now.query.now

  abbrev i : ℕ
  i = c.args.node.now.number

  abbrev s : Scopes
  s = c.args.scopes.now

  by : (k : Kind) → kind_of c.word.result ≡ k → check_node n ars qs i s ≡ check_by n ars qs i (get_or s.masks i 0) s k
  by k e = node_by n ars qs i s k c.if-not-scopes-node.false (ap kind_of (sym c.word.ensures) ∙ e)

pub returns-in-1 : goal.returns-in-1
unfolding kind_of
returns-in-1 c =
    let d = (goal.at.returns-in-1 c).After-word in
    rw (by d row_stands (ap kind_of c.in-1.is)) (c.check_atom.ensures (s d))

pub returns-in-2 : goal.returns-in-2
unfolding kind_of
returns-in-2 c =
    let d = (goal.at.returns-in-2 c).After-word in
    rw (by d equals (ap kind_of c.in-2.is)) (c.check_equality.ensures (n d) (ars d) (s d))

pub returns-in-3 : goal.returns-in-3
unfolding kind_of
returns-in-3 c =
    let d = (goal.at.returns-in-3 c).After-word in
    rw (by d negates (ap kind_of c.in-3.is)) (c.check_negation.ensures (n d) (ars d))

pub returns-in-4 : goal.returns-in-4
returns-in-4 c =
    let d = (goal.at.returns-in-4 c).After-word in
    let k = joined c.word.result (omega arith) (omega arith) in
    rw (by d (joins k.by) k.kind) (c.check_junction.ensures (n d) (ars d) k.by)

pub returns-in-6 : goal.returns-in-6
returns-in-6 c =
    let d = (goal.at.returns-in-6 c).After-word in
    let k = ranged c.word.result (omega arith) (omega arith) in
    rw (by d (ranges k.by) k.kind) (c.check_quantifier.ensures (n d) (ars d) k.by)

pub returns-in_default : goal.returns-in_default
unfolding kind_of
returns-in_default c =
    let d = (goal.at.returns-in_default c).After-word in
    let z : c.word.result ≡ 0 = omega arith in
    rw (by d no_such_kind (ap kind_of z)) refl

pub returns-in_default-2 : goal.returns-in_default-2
returns-in_default-2 c =
    let d = (goal.at.returns-in_default-2 c).After-word in
    rw (by d no_such_kind (no_kind c.word.result (omega arith))) refl
