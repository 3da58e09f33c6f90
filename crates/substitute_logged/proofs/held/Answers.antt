-- `substitute_logged::held` meets its contract: `count` plus the count in the words that are left is the count in all words. Assumes nothing.
use mathlib.Core.Path.{◌≡◌}
use native.Mathlib.Omega.{arith}
use borrow.Author.Tests.{eq-eqb, ne_eqb}
use lib.ListN.{length, drop}
use lib.Seq.{drop-length}
use Rattle.calculus.specs.Cell.{null}
use Rattle.calculus.specs.Fill.{count_of}
use Rattle.calculus.proofs.Counts.{countOf-drop-step}
use Rattle.substitute_logged.proofs.held.Goals as goal
use Rattle.substitute_logged.proofs.held.Goals.{then-word-null, else-word-null}

pub loop-word-init : goal.loop-word-init
loop-word-init c = (omega arith, omega arith)

pub overflow_add-count : goal.overflow_add-count
overflow_add-count c = omega arith

pub loop-word-preserved : goal.loop-word-preserved
loop-word-preserved c =
    let step = countOf-drop-step (null c.args.mark) c.args.words.now c.loop-word.word-index (omega arith) in
    elim c.if-word-null.branch [
      | then-word-null w ↦ (omega (arith, w.count-is), omega (arith, w.count-is, simp (eq-eqb _ _ w.if-word-null.true) at step))
      | else-word-null w ↦ (omega (arith, w.count-is), omega (arith, w.count-is, simp (ne_eqb _ _ w.if-word-null.false) at step))
    ]

pub returns : goal.returns
unfolding count_of
returns c =
    let was = c.args.words.now in
    let e : c.loop-word.word-index ≡ length was = omega arith in
    let z : count_of (null c.args.mark) (drop c.loop-word.word-index was) ≡ 0 = rw (e, drop-length) in
    omega arith
