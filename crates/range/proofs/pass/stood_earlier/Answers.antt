-- `range::pass::stood_earlier` meets its contract. Assumes nothing.
use Prim.Native.Nat.{ℕ}
use mathlib.Core.Path.{sym, ap, ◌∙◌}
use native.Mathlib.Omega.{arith}
use lib.Seq.{length-take-le}
use Rattle.calculus.specs.Listed.{listed}
use Rattle.range.specs.Flagged.{stood_before}
use Rattle.range.proofs.pass.stood_earlier.Goals as goal
use Rattle.range.proofs.pass.stood_earlier.Goals.{Start}

pub returns-then-words-head : goal.returns-then-words-head
returns-then-words-head c =
    let s = (goal.at.returns-then-words-head c).Start in
    let a = c.args in
    let vs = stood_before a.known.now a.words.now a.place in
    sym (ap (λ (x : ℕ). listed x vs) (sym c.if-words-head.true) ∙ c.requires.head.stood (omega (arith, c.if-head-eq0.false)))

pub stood-requires : goal.stood-requires
stood-requires c =
    let s = (goal.at.stood-requires c).Start in
    let l = s.requires.place_in.0 in
    omega (arith, length-take-le s.args.place s.args.words.now l, l, s.requires.place_in.1)
