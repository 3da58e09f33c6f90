-- `evaluate::nodes::Asking::equality` meets its contract: an equality costs 1. Assumes nothing.
use mathlib.Core.Path.{sym, ap, ◌∙◌, ◌≡◌}
use native.Mathlib.Omega.{arith}
use Prim.Native.Nat.{ℕ, ◌<◌}
use Rattle.calculus.specs.declared.truth.Truth.{Truth}
use Rattle.calculus.specs.Closed.{equality}
use Rattle.query.specs.Words.{equals, node_count, word_at, kind_of}
use Rattle.evaluate.specs.declared.evaluated.Evaluated.TheVariants.{Verdict}
use Rattle.evaluate.proofs.Budget.{spent, verdict}
use Rattle.evaluate.proofs.Children.{equal-right}
use Rattle.calculus.specs.Formula.{value}
use Rattle.query.specs.Tree.{term_of}
use Rattle.evaluate.proofs.nodes.Asking.equality.Goals as goal
use Rattle.evaluate.proofs.nodes.Asking.equality.Goals.{Start}

-- the node is an equality
module _ (s : Start) where
  abbrev known : s.args.node < node_count s.args.self.now.query.now
  known = s.requires.node_bound

  abbrev is : kind_of (word_at s.args.self.now.query.now s.args.node 0) ≡ equals
  is = s.requires.node_value_2

pub returns-then-budget-lt1 : goal.returns-then-budget-lt1
returns-then-budget-lt1 c =
    record {
      right = (let s = (goal.at.returns-then-budget-lt1 c).Start in
          λ S ars same k h. sym (spent _ _ c.if-budget-lt1.true) ∙ equal-right S ars _ _ (known s) (is s) _ _ k h);
    }

pub term-a-requires : goal.term-a-requires
term-a-requires c =
    let s = (goal.at.term-a-requires c).Start in record {
      node_bound = (known s, omega arith);
      j_value = c.requires.node_value.0;
    }

pub term-b-requires : goal.term-b-requires
term-b-requires c =
    let s = (goal.at.term-b-requires c).Start in record {
      node_bound = (known s, omega arith);
      j_value = c.requires.node_value.1;
    }

pub returns : goal.returns
returns c =
    record {
      right = (let s = (goal.at.returns c).Start in
          let a = value c.args.env.now (term_of (word_at c.args.self.now.query.now c.args.node 1)) in
          let b = value c.args.env.now (term_of (word_at c.args.self.now.query.now c.args.node 2)) in
          let says = c.same.ensures ∙ ap (λ (x : ℕ). equality x c.term-b.result) c.term-a.ensures ∙ ap (equality _) c.term-b.ensures in
          λ S ars same k h.
          ap (λ (x : Truth). Verdict x 1) (says ∙ ap (λ (f : ℕ → ℕ → Truth). f a b) (sym same)) ∙
          sym (verdict _ _ c.if-budget-lt1.false) ∙ equal-right S ars _ _ (known s) (is s) _ _ k h);
    }
