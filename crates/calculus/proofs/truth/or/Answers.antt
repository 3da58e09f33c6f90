-- `calculus::truth::or` meets its contract: the whole table is checked against the order. Assumes nothing.
use mathlib.Core.List.{List, [], ◌∷◌}
use Rattle.calculus.specs.declared.truth.Truth.{Truth}
use Rattle.calculus.specs.declared.truth.Truth.TheVariants.{False, Unknown, True}
use Rattle.calculus.specs.Kleene.{disj, join}
use Rattle.calculus.proofs.Truths.{table_is, or_told}
use Rattle.calculus.proofs.truth.or.Goals as goal

abbrev table : List (List Truth)
table = (False ∷ Unknown ∷ True ∷ []) ∷ (Unknown ∷ Unknown ∷ True ∷ []) ∷ (True ∷ True ∷ True ∷ []) ∷ []

pub returns : goal.returns
returns c =
    record {
      answer = (or_told c.args.a c.args.b
          (rw (c.rank.ensures.0, c.rank-2.ensures.0)
          (table_is table (join disj) tt c.args.a c.args.b))).0;
      verdict = (or_told c.args.a c.args.b
          (rw (c.rank.ensures.0, c.rank-2.ensures.0)
          (table_is table (join disj) tt c.args.a c.args.b))).1;
    }
