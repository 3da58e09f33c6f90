-- The budget. Document 01: 46 is given when "the question's looks exceed the allowance (32 bits)".
use Rattle.std.specs.Prelude.{ℕ, cond, leb}
use Rattle.calculus.specs.Eval.{Outcome}
use Rattle.evaluate.specs.declared.evaluated.Evaluated.{Evaluated}
use Rattle.evaluate.specs.declared.evaluated.Evaluated.TheVariants.{Verdict, Spent}

unfoldable pub within : ℕ → Outcome → Evaluated
within budget o = cond (leb o.cost budget) (Verdict o.truth o.cost) Spent
