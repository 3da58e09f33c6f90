-- `instance::scan::header_well_formed` meets its contract: both parts of the arities are tested by a chain. Assumes nothing.
use Rattle.std.proofs.Common.{◌≡◌, ◌∙◌, sym, rules, Bool, true, false, ◌&&◌, List, ℕ, ◌≤◌, length, take, drop, arith}
use lib.Dec.{eqb, leb}
use borrow.Author.Tests.{tests, leb-true}
use Rattle.std.specs.List.{list_all}
use Rattle.std.proofs.lemmas.Iterator.{YieldsList-from_slice}
use Rattle.std.proofs.lemmas.Iterator.Search.{all_from_yields_List}
use Rattle.calculus.proofs.Bools.{and_parts}
use Rattle.instance.specs.Header.{header_well_formed, is_arity, is_count}
use Rattle.instance.proofs.ScanSteps.{arities_split}
use Rattle.instance.proofs.scan.header_well_formed.Goals as goal
use Rattle.instance.proofs.scan.header_well_formed.Goals.{After-all}

pub returns-then-not-is_count : goal.returns-then-not-is_count
unfolding header_well_formed
returns-then-not-is_count c = let h : is_count c.args.relations ≡ false = cc in rw h

both_parts : (n : ℕ) (ars : List ℕ) (b : Bool) → is_count n ≡ true → 8 ≤ length ars
    → b ≡ (list_all is_arity (take n ars) && list_all (λ a. eqb a 0) (drop n ars)) → b ≡ header_well_formed n ars
unfolding header_well_formed
both_parts n ars b e l f =
    let few : n ≤ 8 = leb-true n 8 (and_parts (leb 1 n) (leb n 8) e).1 in f ∙ sym (arities_split n ars (omega arith)) ∙ rw e

-- what the first chain tells
module _ (c : After-all) where
  first : c.all.result ≡ list_all is_arity (take c.args.relations c.args.arities.now)
  first =
      all_from_yields_List is_arity _ _ _ c.all.ensures.ran
      (YieldsList-from_slice (take c.args.relations c.args.arities.now) cc)
      (λ x b q k. search (rules, tests))

pub returns-then-all : goal.returns-then-all
returns-then-all c =
    let b = (goal.at.returns-then-all c).After-all in
    let counted : is_count c.args.relations ≡ true = cc in
    let second = all_from_yields_List (λ a. eqb a 0) _ _ _ c.all-then-all.ensures.ran
    (YieldsList-from_slice (drop c.args.relations c.args.arities.now) cc) (λ x b q k. search (rules, tests)) in
    both_parts c.args.relations c.args.arities.now _ counted (omega arith)
    (second ∙ rw (sym (first b) ∙ c.if-all.true))

pub returns-else-all : goal.returns-else-all
returns-else-all c =
    let b = (goal.at.returns-else-all c).After-all in
    let counted : is_count c.args.relations ≡ true = cc in
    both_parts c.args.relations c.args.arities.now _ counted (omega arith)
    (c.if-all.false ∙ rw (sym (first b) ∙ c.if-all.false))
