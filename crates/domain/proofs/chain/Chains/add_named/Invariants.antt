use Prim.Native.Nat.{◌-◌}
use Rattle.query.specs.Words.{node_count}
use Rattle.query.specs.Named.{named_from, named_in}
use Rattle.domain.specs.Chains.{Chained}
use Rattle.domain.proofs.Listing.{Naming}
use Rattle.domain.proofs.chain.Chains.add_named.Given as goal

abbrev pub invariant-loop-node : goal.invariant-loop-node
invariant-loop-node l =
    Chained l.self.heads l.list l.self.count
    × Naming (named_in l.terms.arities.now l.terms.query.now) l.initial.list l.initial.self.count l.list l.self.count (named_from l.terms.arities.now l.terms.query.now l.node (node_count l.terms.query.now - l.node))
