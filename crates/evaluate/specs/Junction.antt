-- The two ways to join truth values, as the code names them.
use Rattle.calculus.specs.Kleene.{Junction as Kleene, conj, disj}
use Rattle.evaluate.specs.declared.junction.Junction.{Junction}
use Rattle.evaluate.specs.declared.junction.Junction.TheVariants.{And, Or}

abbrev pub junction_of : Junction → Kleene
junction_of And = conj
junction_of Or = disj
