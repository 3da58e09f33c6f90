-- `calculus::truth::and` meets its contract: the whole table is checked against the order. Assumes nothing.
use mathlib.Core.List.{List, [], ◌∷◌}
use Rattle.calculus.specs.declared.truth.Truth.{Truth}
use Rattle.calculus.specs.declared.truth.Truth.TheVariants.{False, Unknown, True}
use Rattle.calculus.specs.Kleene.{conj, join}
use Rattle.calculus.proofs.Truths.{table_is, and_told}
use Rattle.calculus.proofs.truth.and.Goals as goal

abbrev table : List (List Truth)
table = (False ∷ False ∷ False ∷ []) ∷ (False ∷ Unknown ∷ Unknown ∷ []) ∷ (False ∷ Unknown ∷ True ∷ []) ∷ []

pub returns : goal.returns
returns c =
    record {
      answer = (and_told c.args.a c.args.b
          (rw (c.rank.ensures.0, c.rank-2.ensures.0)
          (table_is table (join conj) tt c.args.a c.args.b))).0;
      verdict = (and_told c.args.a c.args.b
          (rw (c.rank.ensures.0, c.rank-2.ensures.0)
          (table_is table (join conj) tt c.args.a c.args.b))).1;
    }
