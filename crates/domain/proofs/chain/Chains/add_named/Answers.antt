-- `domain::chain::Chains::add_named` meets its contract: the inked terms of the nodes before `node` are added. Assumes nothing.
use Prim.Native.Nat.{ℕ, ◌+◌, ◌-◌, ◌<◌}
use mathlib.Core.Path.{◌≡◌}
use mathlib.Core.List.{List, ◌++◌}
use native.Mathlib.Nat.{sub-zero}
use native.Mathlib.Omega.{arith}
use Rattle.query.specs.Words.{node_count}
use Rattle.query.specs.Named.{named_from, named_in, terms_of, constants_among}
use Rattle.query.proofs.KindTerms.{named_rest}
use Rattle.domain.proofs.Listing.{Naming, naming-starts, naming-room, naming-node, naming-all}
use Rattle.domain.proofs.chain.Chains.add_named.Goals as goal
use Rattle.domain.proofs.chain.Chains.add_named.Goals.{After-of}

pub loop-node-init : goal.loop-node-init
loop-node-init c = (c.requires.chained, rw sub-zero (naming-starts _ _ _))

-- the terms of the node
module _ (c : After-of) where
  abbrev qs : List ℕ
  qs = c.args.terms.now.query.now

  abbrev ars : List ℕ
  ars = c.args.terms.now.arities.now

  abbrev node : ℕ
  node = c.loop-node.node

  below : node < node_count qs
  below = omega arith

  abbrev here : List ℕ
  here = constants_among (terms_of ars qs node)

  abbrev rest : List ℕ
  rest = named_from ars qs (node + 1) (node_count qs - (node + 1))

  so_far : Naming (named_in ars qs) c.args.list.now c.args.self.now.count c.loop-node.list c.loop-node.self.count (here ++ rest)
  so_far = rw (named_rest ars qs c.args.terms.now.has_terms node below) at c.loop-node.invariant.1

pub add_constants-requires : goal.add_constants-requires
add_constants-requires c =
    let room = naming-room (here c) (rest c) (so_far c) in
    rw c.of.ensures (
      omega (arith, room, c.requires.query_in_bounds.0),
      omega (arith, room, c.requires.query_in_bounds.1),
      c.loop-node.invariant.0,
    )

pub loop-node-preserved : goal.loop-node-preserved
loop-node-preserved c =
    let b = (goal.at.loop-node-preserved c).After-of in
    let call = c.add_constants in
    let added = rw c.of.ensures at call.ensures.added in
    (call.ensures.chained, naming-node (here b) (rest b) (so_far b) added)

pub returns : goal.returns
unfolding named_from
returns c =
    let qs = c.args.terms.now.query.now in
    let e : node_count qs - c.loop-node.node ≡ 0 = omega arith in record {
      chained = c.loop-node.invariant.0;
      added = naming-all (rw e at c.loop-node.invariant.1);
    }
