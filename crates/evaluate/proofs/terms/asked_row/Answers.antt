-- `evaluate::terms::asked_row` meets its contract: the row has the values of the terms, padded with 0. Assumes nothing.
use mathlib.Core.Path.{◌≡◌, refl}
use native.Mathlib.Omega.{arith}
use Rattle.query.specs.Tree.{terms_at}
use Rattle.evaluate.proofs.TermLaws.{row_more}
use Rattle.evaluate.proofs.terms.asked_row.Goals as goal
use Rattle.evaluate.proofs.terms.asked_row.Goals.{Start}

pub loop-j-init : goal.loop-j-init
unfolding terms_at
loop-j-init c = refl

pub term-requires : goal.term-requires
term-requires c =
    let p = c.requires in record {
      node_bound = (p.known, omega (arith, p.narrow));
      j_value = p.terms _ c.loop-j-test.true;
    }

pub loop-j-preserved : goal.loop-j-preserved
loop-j-preserved c =
    let start = (goal.at.loop-j-preserved c).Start in
    let at = c.loop-j in
    row_more _ _ _ at.row at.j _ (omega (arith, c.requires.narrow, c.loop-j-test.true)) at.invariant c.term.ensures

pub returns : goal.returns
returns c =
    let last : c.args.arity ≡ c.loop-j.j = omega arith in
    rw last c.loop-j.invariant
