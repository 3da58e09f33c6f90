use Prim.Native.Nat.{ℕ, ◌-◌, ◌*◌, ◌≤◌}
use mathlib.Core.Path.{◌≡◌}
use mathlib.Core.List.{List, ◌++◌}
use Rattle.query.specs.Words.{node_count, node_words}
use Rattle.query.specs.Named.{named_from, named_in}
use Rattle.range.specs.Flagged.{Passed}
use Rattle.range.proofs.terms.Asked.pass_terms.Given as goal

abbrev pub invariant-loop-node : goal.invariant-loop-node
invariant-loop-node l =
    (seen : List ℕ) × (l.node ≤ node_count l.self.terms.now.query.now) × (seen ++ named_from l.self.terms.now.arities.now l.self.terms.now.query.now l.node (node_count l.self.terms.now.query.now - l.node) ≡ named_in l.self.terms.now.arities.now l.self.terms.now.query.now)
    × Passed l.self.words.now l.self.terms.now.query.now l.initial.known 0 seen l.known (l.node * node_words)
