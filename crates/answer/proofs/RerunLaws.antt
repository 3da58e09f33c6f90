-- Demand 3: the answer of run B. Assumes nothing.
use Prim.Native.Nat.{ℕ, ◌≤◌}
use mathlib.Core.Path.{◌≡◌, refl, sym, ap, ◌∙◌, subst}
use mathlib.Core.Bool.{true}
use mathlib.Core.List.{List}
use native.Mathlib.Omega.{arith}
use lib.ListN.{length, length-map, length-append}
use borrow.Author.Tests.{le-leb, leb-true}
use Rattle.calculus.specs.Answer.{Answer}
use Rattle.std.specs.Prelude.{Ok, Err}
use Rattle.calculus.specs.declared.truth.Truth.{Truth}
use Rattle.calculus.specs.Demand.{demand}
use Rattle.calculus.specs.declared.refusal.Refusal.TheVariants.{BufferTooShort}
use Rattle.calculus.specs.Row.{Row, cells_of}
use Rattle.calculus.specs.Eval.{Outcome}
use Rattle.calculus.specs.Order.{◌⊑◌}
use Rattle.calculus.specs.Model.{Model, run, outcome_of}
use Rattle.calculus.proofs.Answers.{demand_done}
use Rattle.calculus.proofs.Rows.{cells-map}
use Rattle.calculus.proofs.Fills.{mapped_run}
use Rattle.calculus.proofs.Certain.{runs_share}
use Rattle.instance.specs.declared.header.Header.{Header}
use Rattle.instance.specs.Sound.{sound, rows}
use Rattle.instance.specs.Run.{filled_words, model_of}
use Rattle.instance.proofs.Run.{fills_follow_model, candidate-cells}
use Rattle.query.specs.Words.{right_length}
use Rattle.query.specs.Named.{named_in, query_of}
use Rattle.query.proofs.Named.{named-constant}
use Rattle.calculus.specs.Cell.{is_constant}
use Rattle.calculus.specs.Formula.{inked_query}
use Rattle.query.specs.declared.scopes.Scopes.{Scopes}
use Rattle.query.specs.Check.{passed, check_query}
use Rattle.query.proofs.Passed.{passed-constants, are_cells_lem, same-candidate}
use Rattle.answer.specs.declared.asked.Verdict.{Verdict}
use Rattle.answer.specs.Asked.{verdict}
use Rattle.calculus.specs.declared.refusal.Refusal.{Refusal}
use Rattle.evaluate.specs.declared.evaluated.Evaluated.{Evaluated}
use Rattle.evaluate.specs.declared.evaluated.Evaluated.TheVariants as evaluated
use Rattle.evaluate.specs.Within.{within}
use Rattle.answer.specs.Ask.{evaluated_as, answered_by, admitted, Lent, list, none, has_place, needed, outcome_by, if_done, askable, ask}
use Rattle.answer.specs.Ways.{NoShorter}
use Rattle.answer.proofs.Admitted.{none-refused, admitted_done}
use Rattle.answer.proofs.Ways.{outcome_by_lem}
use Rattle.answer.specs.Rerun.{DemandThree}
use Rattle.evaluate.proofs.Budget.{verdict as within_budget, was_verdict}
use Rattle.calculus.proofs.Bools.{and_intro, zero_not_one}

-- what follows from a verdict: nothing before it was refused
pub record Asks (h : Header) (ws qs candidate : List ℕ) (lent : Lent) : Type 0 where
  pub is_sound : sound h ws ≡ true
  pub right : right_length qs ≡ true
  pub scopes : Scopes
  pub passes : check_query h.relations h.arities qs candidate ≡ passed scopes
  pub room : has_place lent (length (needed h ws qs)) ≡ true

-- fewer cells have place in a list that is no shorter
pub place_kept : (lent lent' : Lent) (n m : ℕ) → NoShorter lent lent' → m ≤ n → has_place lent n ≡ true → has_place lent' m ≡ true
place_kept (list buffer) (list buffer') n m longer fewer room = le-leb m (length buffer') (omega (arith, longer, fewer, leb-true n (length buffer) room))
place_kept none none n m longer fewer room = refl
place_kept (list buffer) none n m longer fewer room = absurd longer
place_kept none (list buffer) n m longer fewer room = absurd longer

pub same_lent : (lent : Lent) → NoShorter lent lent
same_lent (list buffer) = omega arith
same_lent none = tt

pub asks_done : (h : Header) (ws qs candidate : List ℕ) (lent : Lent) (k : ℕ) → askable h ws qs candidate lent ≡ Ok k → Asks h ws qs candidate lent
unfolding askable
asks_done h ws qs candidate lent k e = go (admitted h ws qs candidate) refl e
  where
    go :
        (a : Answer) → admitted h ws qs candidate ≡ a →
        if_done a (demand (has_place lent (length (needed h ws qs))) (Err BufferTooShort) (Ok 0)) ≡ Ok k →
        Asks h ws qs candidate lent
    go (Ok m) p d =
        let a = admitted_done h ws qs candidate m p in
        let r = demand_done (has_place lent (length (needed h ws qs))) BufferTooShort (Ok 0) k d in
        record { is_sound = a.is_sound; right = a.right; scopes = a.scopes; passes = a.passes; room = r.0 }
    go (Err r) p d = let z : ◌≡◌ {A = ℕ} 0 1 = cc in absurd (zero_not_one z)

pub askable_done : (h : Header) (ws qs candidate : List ℕ) (lent : Lent) → Asks h ws qs candidate lent → askable h ws qs candidate lent ≡ Ok 0
unfolding askable
askable_done h ws qs candidate lent a =
    rw (← none-refused h ws qs candidate a.is_sound a.right a.scopes a.passes, a.room) refl

-- a verdict: nothing is refused, and the outcome is within the budget
pub verdict-asked :
    (h : Header) (ws qs candidate : List ℕ) (lent : Lent) (budget : ℕ) (t : Truth) (n : ℕ) → ask h ws qs candidate lent budget ≡ verdict t n →
    Asks h ws qs candidate lent × (within budget (outcome_of (model_of h ws candidate) (query_of h.arities qs)) ≡ evaluated.Verdict t n)
unfolding ask
verdict-asked h ws qs candidate lent budget t n =
    go (askable h ws qs candidate lent) refl (within budget (outcome_by lent (model_of h ws candidate) (query_of h.arities qs)))
    (ap (within budget) (sym (outcome_by_lem lent (model_of h ws candidate) (query_of h.arities qs))))
  where
    go :
        (a : Answer) → askable h ws qs candidate lent ≡ a →
        (e : Evaluated) → within budget (outcome_of (model_of h ws candidate) (query_of h.arities qs)) ≡ e →
        answered_by a e ≡ verdict t n →
        Asks h ws qs candidate lent × (within budget (outcome_of (model_of h ws candidate) (query_of h.arities qs)) ≡ evaluated.Verdict t n)
    go (Ok k) p (evaluated.Verdict u m) q r =
        let same : ◌≡◌ {A = Verdict} (record { truth = u; cost = m }) (record { truth = t; cost = n }) = cc in
        let truths : u ≡ t = ap (λ (v : Verdict). v.truth) same in
        let costs : m ≡ n = ap (λ (v : Verdict). v.cost) same in
        (asks_done h ws qs candidate lent k p, q ∙ ap (λ (x : Truth). evaluated.Verdict x m) truths ∙ ap (evaluated.Verdict t) costs)
    go (Ok k) p evaluated.Spent q r = let z : ◌≡◌ {A = ℕ} 0 1 = cc in absurd (zero_not_one z)
    go (Err k) p e q r = let z : ◌≡◌ {A = ℕ} 0 1 = cc in absurd (zero_not_one z)

-- conversely, if nothing is refused and the cost is within the budget, the question gets its verdict
pub asked-verdict :
    (h : Header) (ws qs candidate : List ℕ) (lent : Lent) (budget : ℕ) → Asks h ws qs candidate lent →
    (outcome_of (model_of h ws candidate) (query_of h.arities qs)).cost ≤ budget →
    ask h ws qs candidate lent budget ≡
    verdict (outcome_of (model_of h ws candidate) (query_of h.arities qs)).truth (outcome_of (model_of h ws candidate) (query_of h.arities qs)).cost
unfolding ask
asked-verdict h ws qs candidate lent budget a fits =
    let o = outcome_of (model_of h ws candidate) (query_of h.arities qs) in
    ap (λ (x : Answer). answered_by x (within budget (outcome_by lent (model_of h ws candidate) (query_of h.arities qs)))) (askable_done h ws qs candidate lent a) ∙
    ap (λ (o : Outcome). evaluated_as (within budget o)) (outcome_by_lem lent (model_of h ws candidate) (query_of h.arities qs)) ∙ ap evaluated_as (within_budget budget o fits)

-- a refusal is not a verdict
pub not_refused : {t : Truth} {n : ℕ} {r : Refusal} → Err r ≡ verdict t n → ⊥
not_refused e = let z : ◌≡◌ {A = ℕ} 0 1 = cc in omega arith

-- every constant of the question is an inked value
pub asks-inked : (h : Header) (ws qs candidate : List ℕ) (lent : Lent) → Asks h ws qs candidate lent → inked_query (query_of h.arities qs) ≡ true
asks-inked h ws qs candidate lent a =
    and_intro
    (passed-constants h.relations h.arities qs candidate a.right a.scopes a.passes is_constant
    (named-constant h.arities qs))
    (named-constant h.arities qs)

-- run B passes the checks of run A: of the candidate they use only the length and that its words are cells, and fills keep both
pub demand_three : DemandThree
demand_three h ws qs candidate lent budget fs lent' budget' longer larger t n e =
    let a = verdict-asked h ws qs candidate lent budget t n e in
    let b = model_of h ws candidate in
    let was = was_verdict budget (outcome_of b (query_of h.arities qs)) t n a.1 in
    let r = fills_follow_model h fs ws candidate a.0.is_sound in
    let m = mapped_run fs b in
    let shared = runs_share fs b (query_of h.arities qs) (asks-inked h ws qs candidate lent a.0) in
    let after = run fs b in
    let ws' = filled_words h fs ws in
    let cells = are_cells_lem h.relations h.arities qs candidate a.0.right a.0.scopes a.0.passes in
    let long : length after.candidate ≡ length candidate = ap length m.candidate ∙ length-map candidate m.by in
    let passes = same-candidate h.relations h.arities qs after.candidate candidate long (candidate-cells fs b cells ∙ sym cells) ∙ a.0.passes in
    let same-cells : length (cells_of (rows h ws')) ≡ length (cells_of (rows h ws)) =
    ap (λ (rs : List Row). length (cells_of rs)) (r.holds ∙ m.rows) ∙ ap length (cells-map m.by (rows h ws)) ∙ length-map (cells_of (rows h ws)) m.by
    in
    let room = place_kept lent lent' (length (needed h ws qs)) (length (needed h ws' qs)) longer
    (omega (arith, same-cells, length-append (cells_of (rows h ws)) (named_in h.arities qs), length-append (cells_of (rows h ws')) (named_in h.arities qs))) a.0.room in
    let o = outcome_of after (query_of h.arities qs) in
    let same-model : model_of h ws' after.candidate ≡ after = ap (λ (rs : List Row). record { rows = rs; candidate = after.candidate }) r.holds in
    let same_outcome : outcome_of (model_of h ws' after.candidate) (query_of h.arities qs) ≡ o = ap (λ (x : Model). outcome_of x (query_of h.arities qs)) same-model in
    let fits : (outcome_of (model_of h ws' after.candidate) (query_of h.arities qs)).cost ≤ budget' =
    omega (arith, ap (λ (x : Outcome). x.cost) same_outcome, shared.kept.cost, was.cost, was.fits)
    in
    record {
      ran = r;
      truth = o.truth;
      cost = o.cost;
      answers =
          asked-verdict h ws' qs after.candidate lent' budget' (record { is_sound = r.is_sound; right = a.0.right; scopes = a.0.scopes; passes = passes; room = room }) fits ∙
          ap (λ (x : Outcome). verdict x.truth x.cost) same_outcome;
      kept = subst (λ (x : Truth). x ⊑ o.truth) was.truth shared.kept.truth;
      no_more = omega (arith, shared.kept.cost, was.cost);
      two_valued = shared.two_valued;
    }
