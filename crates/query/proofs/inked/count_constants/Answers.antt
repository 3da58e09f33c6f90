-- `query::inked::count_constants` meets its contract: the chain counts the words that are constants. Assumes nothing.
use mathlib.Core.Path.{◌≡◌, ◌∙◌}
use borrow.Author.Rules.{rules}
use Rattle.std.specs.List.{count_by}
use Rattle.calculus.specs.Cell.{is_constant}
use Rattle.query.proofs.KindTerms.{among_count}
use Rattle.query.proofs.inked.count_constants.Goals as goal

pub returns : goal.returns
returns c = let counted : c.count.result ≡ count_by is_constant c.args.words.now = search rules in counted ∙ among_count c.args.words.now
