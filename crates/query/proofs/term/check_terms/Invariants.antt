use Prim.Native.Nat.{◌+◌, ◌-◌}
use mathlib.Core.Path.{◌≡◌}
use Rattle.query.specs.declared.scopes.Scopes.{Scopes}
use Rattle.query.specs.Check.{check_terms}
use Rattle.query.proofs.term.check_terms.Given as goal

abbrev pub invariant-loop-w : goal.invariant-loop-w
invariant-loop-w l =
    (s : Scopes) → check_terms l.node.query.now l.mask l.node.number l.from l.count s
    ≡ check_terms l.node.query.now l.mask l.node.number (l.from + l.w-index) (l.count - l.w-index) s
