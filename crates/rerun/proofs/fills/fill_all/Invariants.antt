use Prim.Native.Nat.{◌*◌}
use Rattle.rerun.specs.Fills.{filled_with}
use Rattle.rerun.proofs.FillLaws.{Going}
use Rattle.rerun.proofs.fills.fill_all.Given as goal

abbrev pub invariant-loop-k : goal.invariant-loop-k
invariant-loop-k l =
    Going l.header l.fills (filled_with l.initial.instance l.initial.candidate l.initial.log l.initial.used) l.initial.answers
    (filled_with l.instance l.candidate l.log l.used) l.answers (3 * l.k)
