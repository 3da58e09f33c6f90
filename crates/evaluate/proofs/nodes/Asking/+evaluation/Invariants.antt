-- The mutually recursive functions of evaluation: each call is on the same node or on a child.
use Prim.Native.Nat.{◌+◌, ◌-◌, ◌*◌}
use mathlib.Core.Path.{◌≡◌}
use lib.ListN.{set, drop}
use Rattle.known.specs.Known.{arities_in, places_in, unpassed}
use Rattle.query.specs.Words.{node_count}
use Rattle.evaluate.specs.Ready.{world, walked_words}
use Rattle.evaluate.specs.Junction.{junction_of}
use Rattle.evaluate.proofs.Children.{Walking}
use Rattle.evaluate.proofs.nodes.Asking.+evaluation.Given as goal

abbrev pub decreases-both : goal.decreases-both
decreases-both l = 2 * (node_count l.self.now.query.now - l.node)

abbrev pub decreases-evaluate : goal.decreases-evaluate
decreases-evaluate l = 2 * (node_count l.self.now.query.now - l.node) + 1

abbrev pub decreases-negated : goal.decreases-negated
decreases-negated l = 2 * (node_count l.self.now.query.now - l.node)

abbrev pub decreases-walk : goal.decreases-walk
decreases-walk l = 2 * (node_count l.self.now.query.now - l.node)

abbrev pub invariant-walk-loop-i : goal.invariant-walk-loop-i
invariant-walk-loop-i l =
    Walking (world (arities_in l.self.known.now) l.self.words.now l.self.query.now) (arities_in l.self.known.now) l.self.query.now l.node (junction_of l.junction) l.initial.env l.budget l.truth l.cost
    (unpassed l.self.known.now l.i (drop l.i (walked_words l.self.known.now l.self.values.now l.self.query.now))) ×
    (set l.env l.variable l.old ≡ l.initial.env)

abbrev pub decreases-walk-loop-i : goal.decreases-walk-loop-i
decreases-walk-loop-i l = places_in l.self.known.now - l.i
