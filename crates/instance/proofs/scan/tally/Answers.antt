-- `instance::scan::tally` meets its contract: std's equality and sum are the definitions'. Assumes nothing.
use Rattle.std.proofs.Common.{◌≡◌, ◌∙◌, sym, arith, true, false}
use Rattle.std.specs.List.{sum}
use Rattle.std.proofs.lemmas.Bool.{not-true, not-false}
use Rattle.std.proofs.lemmas.Iterator.{YieldsList-from_slice}
use Rattle.std.proofs.lemmas.Iterator.Consumers.{sum_from_yields_List, fits_from_yields_list}
use Rattle.calculus.specs.Closed.{identical}
use Rattle.calculus.proofs.Tuples.{identical_pointwise}
use Rattle.instance.proofs.RowCounts.{sum_is}
use Rattle.instance.proofs.scan.tally.Goals as goal

pub returns-then-ne : goal.returns-then-ne
returns-then-ne c =
    let e : identical c.args.counts.now c.args.found.now ≡ false = sym (identical_pointwise _ _) ∙ not-true _ (sym c.ne.ensures ∙ c.if-ne.true) in rw e

pub sum-requires-clause-fits : goal.sum-requires-clause-fits
sum-requires-clause-fits c =
    fits_from_yields_list c.iter.result 4294967296 (YieldsList-from_slice c.args.found.now cc)
    (omega (arith, sum_is c.args.found.now))

pub returns : goal.returns
returns c =
    let e : identical c.args.counts.now c.args.found.now ≡ true = sym (identical_pointwise _ _) ∙ not-false _ (sym c.ne.ensures ∙ c.if-ne.false) in
    let s : c.sum.result ≡ sum c.args.found.now = sum_from_yields_List _ _ c.sum.ensures.ran (YieldsList-from_slice c.args.found.now cc) in
    rw (e, s, sum_is)
