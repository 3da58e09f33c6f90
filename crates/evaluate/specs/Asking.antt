-- What evaluation is given, and what it answers, over a question and what it is asked of.
use Rattle.std.specs.Prelude.{ℕ, List}
use Rattle.known.specs.Known.{arities_in}
use Rattle.evaluate.specs.declared.nodes.Asking.{Asking}
use Rattle.evaluate.specs.declared.evaluated.Evaluated.{Evaluated}
use Rattle.evaluate.specs.Ready.{Ready, Evaluable, Right}

abbrev pub ReadyIn : Asking → Type 0
ReadyIn a = Ready (arities_in a.known.now) a.words.now a.query.now a.known.now

abbrev pub EvaluableIn : Asking → ℕ → Type 0
EvaluableIn a i = Evaluable (arities_in a.known.now) a.words.now a.query.now a.known.now a.values.now i

abbrev pub RightFor : Asking → ℕ → List ℕ → ℕ → Evaluated → Type 0
RightFor a i e budget r = Right (arities_in a.known.now) a.words.now a.query.now i e budget r
