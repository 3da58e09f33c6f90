-- `substitute::replace` meets its contract: the loop is a pass that fills words. Assumes nothing.
use native.Mathlib.Omega.{arith}
use lib.Seq.{set-get_or}
use Rattle.substitute.proofs.Filling.{filling-starts, filling-null, filling-other, filling_ends}
use Rattle.substitute.proofs.replace.Goals as goal
use Rattle.substitute.proofs.replace.Goals.{then-word-null, else-word-null}

pub loop-word-init : goal.loop-word-init
loop-word-init c = filling-starts _ _ _

pub loop-word-preserved : goal.loop-word-preserved
loop-word-preserved c =
    let f = c.loop-word.invariant in
    elim c.if-word-null.branch [
      | then-word-null w ↦ rw (w.word-items-is, w.count-is) (filling-null _ _ _ (omega arith) f w.if-word-null.true)
      | else-word-null w ↦ rw (w.word-items-is, w.count-is, set-get_or) (filling-other _ _ _ (omega arith) f w.if-word-null.false)
    ]

pub returns : goal.returns
returns c = let e = filling_ends _ _ _ (omega arith) c.loop-word.invariant in record { count = e.0; words = e.1 }
