-- `query::inked::Terms::count_named` meets its contract: the inked terms of the nodes before `node` are counted. Assumes nothing.
use Prim.Native.Nat.{ℕ, ◌+◌, ◌-◌}
use mathlib.Core.Path.{◌≡◌, refl, ap, ◌∙◌}
use mathlib.Core.List.{List}
use native.Mathlib.Omega.{arith}
use lib.ListN.{length, length-append}
use Rattle.query.specs.Words.{node_count}
use Rattle.query.specs.Named.{named_from, named_in, terms_of, constants_among}
use Rattle.query.proofs.KindTerms.{named_rest}
use Rattle.query.proofs.Named.{named-few}
use Rattle.query.proofs.inked.Terms.count_named.Goals as goal
use Rattle.query.proofs.inked.Terms.count_named.Goals.{After-count_constants-count}

-- the inked terms of the node, and those of the nodes after it
module _ (c : After-count_constants-count) where
  abbrev qs : List ℕ
  qs = c.args.self.now.query.now

  abbrev ars : List ℕ
  ars = c.args.self.now.arities.now

  abbrev node : ℕ
  node = c.loop-node.node

  abbrev rest : List ℕ
  rest = named_from ars qs (node + 1) (node_count qs - (node + 1))

  counted : c.loop-node.count + c.count_constants-count.result + length rest ≡ length (named_in ars qs)
  counted =
      let here = constants_among (terms_of ars qs node) in
      let now : c.count_constants-count.result ≡ length here = c.count_constants-count.ensures ∙ ap (λ (l : List ℕ). length (constants_among l)) c.of.ensures in
      omega (arith, now, c.loop-node.invariant, ap length (named_rest ars qs c.args.self.now.has_terms node (omega arith)), length-append here rest)

pub overflow_add-count : goal.overflow_add-count
overflow_add-count c = omega (arith, counted c, named-few (ars c) (qs c) c.args.self.now.has_terms.narrow, c.args.self.now.has_terms.whole)

pub loop-node-preserved : goal.loop-node-preserved
loop-node-preserved c = counted c

pub returns : goal.returns
unfolding named_from
returns c =
    let ars = c.args.self.now.arities.now in
    let qs = c.args.self.now.query.now in
    let e : node_count qs - c.loop-node.node ≡ 0 = omega arith in
    let n : length (named_from ars qs c.loop-node.node (node_count qs - c.loop-node.node)) ≡ 0 = rw e refl in
    omega (arith, n, c.loop-node.invariant)
