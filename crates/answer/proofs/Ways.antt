-- The two ways of asking agree, and 45 occurs neither on the unlisted one nor with a list that no question exceeds. Assumes nothing.
use Prim.Native.Nat.{ℕ, ◌≤◌}
use mathlib.Core.Path.{◌≡◌, refl, sym, ap, ◌∙◌}
use mathlib.Core.Bool.{Bool, true, false}
use mathlib.Core.List.{List}
use lib.ListN.{length}
use native.Mathlib.Omega.{arith}
use borrow.Author.Tests.{le-leb}
use Rattle.calculus.specs.Answer.{Answer}
use Rattle.std.specs.Prelude.{Ok, Err}
use Rattle.calculus.specs.Demand.{demand}
use Rattle.calculus.specs.Listed.{listed}
use Rattle.calculus.specs.Closed.{closed_over}
use Rattle.calculus.specs.Eval.{Outcome, eval}
use Rattle.calculus.specs.Formula.{Query, assignment}
use Rattle.calculus.specs.Model.{Model, outcome_of}
use Rattle.calculus.specs.Reading.{refused, read, refused_in}
use Rattle.calculus.specs.declared.refusal.Refusal.TheVariants.{Unsound, BufferTooShort, BadQueryLength}
use Rattle.calculus.proofs.Bools.{false_not_true}
use Rattle.instance.specs.declared.header.Header.{Header}
use Rattle.instance.specs.Run.{model_of}
use Rattle.instance.specs.Sound.{sound, rows}
use Rattle.range.proofs.Walked.{walked_range_lem}
use Rattle.query.specs.Check.{Checked, check_query, check_numbers}
use Rattle.query.specs.Named.{query_of}
use Rattle.query.specs.Words.{right_length}
use Rattle.query.proofs.Passed.{query-numbered}
use Rattle.evaluate.specs.declared.evaluated.Evaluated.{Evaluated}
use Rattle.evaluate.specs.declared.evaluated.Evaluated.TheVariants as evaluated
use Rattle.evaluate.specs.Within.{within}
use Rattle.answer.specs.Ask.{if_passed, evaluated_as, answered_by, admitted, Lent, list, none, has_place, needed, most_needed, outcome_by, if_done, askable, ask}
use Rattle.answer.specs.Numbers.{asked_number}
use Rattle.answer.specs.Ways.{WaysAgree, NeverShort}
use Rattle.answer.proofs.Admitted.{admitted_done}
use Rattle.answer.proofs.Need.{need_few}

-- what is walked is the range, so by either way the outcome is that of the rules
pub outcome_by_lem : (lent : Lent) (b : Model) (q : Query) → outcome_by lent b q ≡ outcome_of b q
outcome_by_lem (list buffer) b q = refl
outcome_by_lem none b q = ap (λ (range : List ℕ). eval (closed_over range b.rows) q.formula (assignment b.candidate)) (walked_range_lem q.named b.rows)

-- of the refusals they differ in one: the list's
pub ways_agree : WaysAgree
unfolding ask askable
ways_agree h ws qs cs buffer budget not_IsShort =
    go (admitted h ws qs cs) (has_place (list buffer) (length (needed h ws qs)))
    (ap (within budget) (outcome_by_lem none (model_of h ws cs) (query_of h.arities qs))) not_IsShort
  where
    go :
        (a : Answer) (b : Bool) {e e' : Evaluated} → e ≡ e' →
        (answered_by (if_done a (demand b (Err BufferTooShort) (Ok 0))) e' ≡ Err BufferTooShort → ⊥) →
        answered_by (if_done a (Ok 0)) e ≡ answered_by (if_done a (demand b (Err BufferTooShort) (Ok 0))) e'
    go (Ok n) true same no-45 = ap evaluated_as same
    go (Ok n) false same no-45 = absurd (no-45 refl)
    go (Err r) b same no-45 = refl

-- 45 is none of the numbers that are left
unlisted-never :
    (h : Header) (ws qs cs : List ℕ) (budget : ℕ) → ask h ws qs cs none budget ≡ Err BufferTooShort → ⊥
unfolding ask askable admitted listed
unlisted-never h ws qs cs budget short =
    go (sound h ws) (right_length qs) (check_query h.relations h.arities qs cs) (query-numbered h.relations h.arities qs cs)
    (within budget (outcome_by none (model_of h ws cs) (query_of h.arities qs))) (ap asked_number short)
  where
    go :
        (a l : Bool) (c : Checked) → refused_in check_numbers c ≡ true → (e : Evaluated) →
        asked_number
        (answered_by
        (if_done (demand a (Err Unsound) (demand l (Err BadQueryLength) (if_passed c (Ok (length (rows h ws)))))) (Ok 0))
        e) ≡ 45 → ⊥
    go false l c p e n = omega (arith, n)
    go true false c p e n = omega (arith, n)
    go true true (read done s) p (evaluated.Verdict t k) n = omega (arith, n)
    go true true (read done s) p evaluated.Spent n = omega (arith, n)
    go true true (refused r) p e n = false_not_true (sym (ap (λ (r : ℕ). listed r check_numbers) n) ∙ p)

-- a list that no question exceeds makes no difference
ample-same :
    (h : Header) (ws qs cs buffer : List ℕ) (budget : ℕ) → most_needed ≤ length buffer → ask h ws qs cs none budget ≡ ask h ws qs cs (list buffer) budget
unfolding ask askable
ample-same h ws qs cs buffer budget long =
    ap (λ (o : Outcome). answered_by (askable h ws qs cs none) (within budget o)) (outcome_by_lem none (model_of h ws cs) (query_of h.arities qs)) ∙
    go (admitted h ws qs cs) refl
  where
    go :
        (a : Answer) → admitted h ws qs cs ≡ a →
        answered_by (if_done a (Ok 0)) (within budget (outcome_of (model_of h ws cs) (query_of h.arities qs))) ≡
        answered_by (if_done a (demand (has_place (list buffer) (length (needed h ws qs))) (Err BufferTooShort) (Ok 0)))
        (within budget (outcome_of (model_of h ws cs) (query_of h.arities qs)))
    go (Err r) e = refl
    go (Ok k) e =
        let few = need_few h ws qs cs k (admitted_done h ws qs cs k e) in
        rw (le-leb (length (needed h ws qs)) (length buffer) (omega arith)) refl

pub never_short : NeverShort
never_short h ws qs cs none ample budget short = unlisted-never h ws qs cs budget short
never_short h ws qs cs (list buffer) ample budget short = unlisted-never h ws qs cs budget (ample-same h ws qs cs buffer budget ample ∙ short)
