use Prim.Native.Nat.{◌-◌}
use mathlib.Core.Path.{◌≡◌}
use Rattle.query.specs.Words.{node_count}
use Rattle.query.specs.Check.{check_nodes}
use Rattle.query.proofs.check.check_nodes.Given as goal

abbrev pub invariant-loop-number : goal.invariant-loop-number
invariant-loop-number l =
    check_nodes l.header.relations l.header.arities l.query 0 (node_count l.query) l.initial.scopes
    ≡ check_nodes l.header.relations l.header.arities l.query l.number (node_count l.query - l.number) l.scopes
