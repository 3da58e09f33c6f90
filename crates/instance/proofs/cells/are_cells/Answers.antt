-- `instance::cells::are_cells` meets its contract: the chain tests each cell. Assumes nothing.
use Rattle.std.proofs.Common.{◌∙◌, rules}
use Rattle.std.proofs.lemmas.Iterator.{YieldsList-from_slice}
use Rattle.std.proofs.lemmas.Iterator.Search.{all_from_yields_List}
use Rattle.calculus.specs.Cell.{is_cell}
use Rattle.calculus.proofs.All.{all_is}
use Rattle.instance.proofs.cells.are_cells.Goals as goal

pub returns : goal.returns
returns c =
    all_from_yields_List is_cell _ _ _ c.all.ensures.ran (YieldsList-from_slice c.args.cells.now cc) (λ x b q k. search rules)
    ∙ all_is is_cell c.args.cells.now
