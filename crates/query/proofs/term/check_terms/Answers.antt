-- `query::term::check_terms` meets its contract: the terms that are left decide. Assumes nothing.
use Prim.Native.Nat.{ℕ, ◌+◌, ◌-◌, ◌*◌, ◌<◌}
use mathlib.Core.Path.{◌≡◌, refl, sym, ap, ◌∙◌}
use mathlib.Core.List.{List}
use native.Mathlib.Omega.{arith}
use lib.ListN.{length, get_or, drop}
use Rattle.std.proofs.lemmas.List.{length-take-le, length-drop}
use Rattle.calculus.specs.declared.refusal.Refusal.TheVariants.{BadNode, UnboundVariable}
use Rattle.calculus.specs.Demand.{demand}
use Rattle.calculus.specs.Reading.{refused}
use Rattle.query.specs.Words.{word_at}
use Rattle.query.specs.declared.scopes.Scopes.{Scopes}
use Rattle.query.specs.Check.{is_term, is_bound, check_terms}
use Rattle.query.proofs.Steps.{part_word, terms_rest}
use Rattle.query.proofs.term.check_terms.Goals as goal
use Rattle.query.proofs.term.check_terms.Goals.{After-is_term, Then-not-is_bound}

-- the word at index k, and the words after it
module _ (c : After-is_term) where
  abbrev qs : List ℕ
  qs = c.args.node.now.query.now

  abbrev i : ℕ
  i = c.args.node.now.number

  abbrev k : ℕ
  k = c.loop-w.w-index

  abbrev w : ℕ
  w = word_at qs i (c.args.from + k)

  here : (k < c.args.count) × (get_or c.words-w-items.result.now k 0 ≡ w)
  here = part_word qs i c.args.from c.args.count k _ c.words-w-items.ensures (omega (arith, c.args.node.now.whole)) c.loop-w-test.true

  term : is_term w ≡ c.is_term.result
  term = sym (c.is_term.ensures ∙ ap is_term here.1)

  seen : (s : Scopes)
      → check_terms qs c.args.mask i c.args.from c.args.count s
      ≡ demand (is_term w) (refused BadNode)
      (demand (is_bound c.args.mask w) (refused UnboundVariable)
      (check_terms qs c.args.mask i (c.args.from + (k + 1)) (c.args.count - (k + 1)) s))
  seen s = c.loop-w.invariant s ∙ terms_rest qs i c.args.mask c.args.from c.args.count k s here.0

pub returns-then-not-is_term : goal.returns-then-not-is_term
returns-then-not-is_term c =
    let d = (goal.at.returns-then-not-is_term c).After-is_term in
    λ s. rw (seen d s, term d ∙ c.if-not-is_term.true) refl

pub returns-then-not-is_bound : goal.returns-then-not-is_bound
returns-then-not-is_bound c =
    let d = (goal.at.returns-then-not-is_bound c).After-is_term in
    λ s.
    rw (seen d s, term d ∙ c.if-not-is_term.false, sym (c.is_bound.ensures ∙ ap (is_bound c.args.mask) (here d).1) ∙ c.if-not-is_bound.true) refl

pub loop-w-preserved : goal.loop-w-preserved
loop-w-preserved c =
    let d = (goal.at.loop-w-preserved c).After-is_term in
    λ s.
    seen d s
    ∙ rw (term d ∙ c.if-not-is_term.false, sym (c.is_bound.ensures ∙ ap (is_bound c.args.mask) (here d).1) ∙ c.if-not-is_bound.false) refl

pub returns : goal.returns
unfolding check_terms
returns c =
    λ s.
    let node = c.args.node.now in
    let at = node.number * 8 + c.args.from in
    let n = length-take-le c.args.count (drop at node.query.now) (omega (arith, node.whole, length-drop at node.query.now)) in
    let e : c.args.count - c.loop-w.w-index ≡ 0 = omega (arith, n, ap length c.words-w-items.ensures) in
    rw (c.loop-w.invariant s, e) (refl, refl)
