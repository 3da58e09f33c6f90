-- `rerun::fills::fill_all` meets its contract: the fills that are left lead to the same end. Assumes nothing.
use Prim.Native.Nat.{ℕ, ◌+◌, ◌*◌, ◌≤◌, ◌<◌}
use mathlib.Core.Path.{◌≡◌, ap, ◌∙◌}
use mathlib.Core.List.{List, ◌++◌}
use native.Mathlib.Omega.{arith}
use lib.ListN.{length, take, drop}
use Rattle.calculus.specs.Answer.{Answer}
use Rattle.instance.proofs.Parts.{part_to_end, put_to_end}
use Rattle.rerun.specs.declared.fills.Wanted.{Wanted}
use Rattle.rerun.specs.Fills.{filled_with, fill_told, fill_leaves, answer_words}
use Rattle.rerun.proofs.FillLaws.{wanted_at, step, finish}
use Rattle.rerun.proofs.fills.fill_all.Goals as goal

pub loop-k-preserved : goal.loop-k-preserved
loop-k-preserved c =
    let at = c.loop-k in
    let args = c.args in
    let i = 3 * at.k in
    let out = at.answers in
    let before = filled_with at.instance at.candidate at.log at.used in
    let w = wanted_at args.fills.now i in
    let more : i + 2 < length args.fills.now = omega (arith, c.loop-k-test.true) in
    let fits : i ≤ length out = omega (arith, more, c.loop-k.auto.answers, c.requires.1) in
    let e : 3 * (at.k + 1) ≡ i + 3 = omega arith in
    let left = c.fill-answer.ensures.left ∙ ap (λ (x : Wanted). fill_leaves args.header x before) (grind arith) in
    let told = c.fill-answer.ensures.answer ∙ ap (λ (x : Wanted). fill_told args.header x before) (grind arith) in
    let stored =
    put_to_end out i c.store.new.answers fits
    ∙ ap (λ (l : List ℕ). take i out ++ l) c.store.ensures
    ∙ ap (λ (l : List ℕ). take i out ++ (answer_words c.of-next.result c.fill-answer.result ++ drop 3 l)) (part_to_end out i)
    ∙ ap (λ (a : Answer). take i out ++ (answer_words c.of-next.result a ++ drop 3 (drop i out))) told
    ∙ ap (λ (x : Wanted). take i out ++ (answer_words x (fill_told args.header w before) ++ drop 3 (drop i out))) c.of-next.ensures in
    rw e (step args.header args.fills.now _ args.answers.now before out i at.invariant more fits _ _ left stored)

pub returns-clause-left : goal.returns-clause-left
returns-clause-left c = (finish _ _ _ _ _ _ _ c.loop-k.invariant (omega arith)).0

pub returns-clause-answers : goal.returns-clause-answers
returns-clause-answers c = (finish _ _ _ _ _ _ _ c.loop-k.invariant (omega arith)).1
