use Prim.Native.Nat.{◌+◌, ◌-◌}
use mathlib.Core.Path.{◌≡◌}
use lib.ListN.{length}
use Rattle.query.specs.Words.{node_count}
use Rattle.query.specs.Named.{named_from, named_in}
use Rattle.query.proofs.inked.Terms.count_named.Given as goal

abbrev pub invariant-loop-node : goal.invariant-loop-node
invariant-loop-node l =
    l.count + length (named_from l.self.arities.now l.self.query.now l.node (node_count l.self.query.now - l.node)) ≡ length (named_in l.self.arities.now l.self.query.now)
