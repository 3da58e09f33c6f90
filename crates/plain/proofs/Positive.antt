-- Positive existential formulas: those that plain questions stand for (`PlainWords.antt`).
use mathlib.Core.Bool.{Bool, true, false, ◌&&◌}
use Rattle.calculus.specs.Kleene.{conj, disj}
use Rattle.calculus.specs.Formula.{Formula, atom, equal, negation, junction, quantified}

unfoldable pub positive : Formula → Bool
positive (atom r ts) = true
positive (equal s t) = true
positive (negation f) = false
positive (junction j f g) = positive f && positive g
positive (quantified conj v f) = false
positive (quantified disj v f) = positive f
