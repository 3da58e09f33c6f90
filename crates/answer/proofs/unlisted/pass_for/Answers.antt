-- `answer::unlisted::pass_for` meets its contract. Assumes nothing.
use mathlib.Core.Path.{sym, ◌∙◌}
use Rattle.known.proofs.Setting.{kept_same}
use Rattle.calculus.proofs.Bools.{false_not_true}
use Rattle.answer.proofs.unlisted.pass_for.Goals as goal

pub ranging-requires : goal.ranging-requires
ranging-requires c = c.args.terms.now.has_terms.whole

pub pass_over-requires : goal.pass_over-requires
pass_over-requires c =
    record { instance_of = c.requires.instance_of; no_flags = c.requires.no_flags }

pub returns-then-ranging : goal.returns-then-ranging
returns-then-ranging c =
    record {
      kept = c.pass_over.ensures.kept;
      walked = λ some. c.pass_over.ensures.walked;
    }

pub returns-else-ranging : goal.returns-else-ranging
returns-else-ranging c =
    record {
      kept = kept_same;
      walked = λ some. false_not_true (sym (sym c.ranging.ensures ∙ c.if-ranging.false) ∙ some);
    }
