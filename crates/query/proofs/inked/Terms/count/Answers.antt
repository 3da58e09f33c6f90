-- `query::inked::Terms::count` meets its contract. Assumes nothing.
use Prim.Native.Nat.{◌<◌}
use mathlib.Core.Path.{◌≡◌, refl, sym, ◌∙◌}
use native.Mathlib.Omega.{arith}
use Rattle.instance.specs.Header.{max_relations}
use Rattle.query.specs.Words.{row_stands, kind_of, word_at}
use Rattle.query.proofs.KindTerms.{kind_one, kind-two, other-kind, first_word}
use Rattle.query.proofs.inked.Terms.count.Goals as goal
use Rattle.query.proofs.inked.Terms.count.Goals.{In-1}

-- a node of kind 1 names one of the eight sheets
module _ (c : In-1) where
  one : kind_of (word_at c.args.self.now.query.now c.args.node 0) ≡ row_stands
  one =
      let a = c.args in
      kind_one _ (first_word a.self.now.query.now a.node ∙ c.in-1.is)

  few : word_at c.args.self.now.query.now c.args.node 1 < max_relations
  few = c.args.self.now.has_terms.relations c.args.node c.requires one

pub bounds-self-self : goal.bounds-self-self
bounds-self-self c = few (goal.at.bounds-self-self c).In-1

pub returns-in-1 : goal.returns-in-1
returns-in-1 c = rw (one (goal.at.returns-in-1 c).In-1) refl

pub returns-in-2 : goal.returns-in-2
returns-in-2 c =
    let a = c.args in
    rw (kind-two _ (first_word a.self.now.query.now a.node ∙ c.in-2.is)) refl

pub returns-in_default : goal.returns-in_default
returns-in_default c =
    let a = c.args in
    let w = first_word a.self.now.query.now a.node in
    sym ((other-kind a.self.now.arities.now a.self.now.query.now a.node _ (λ e. let f = sym w ∙ e in omega arith)).1 (λ e. let f = sym w ∙ e in omega arith))
