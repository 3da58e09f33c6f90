-- A row that equals an earlier row of its relation may be left out or put back: no verdict changes. Assumes nothing.
use Prim.Native.Nat.{ℕ, ◌≤◌}
use mathlib.Core.Path.{◌≡◌, refl, sym, ap, ap₂, ◌∙◌}
use mathlib.Core.Bool.{Bool, true, false}
use mathlib.Core.List.{List}
use native.Mathlib.Omega.{arith}
use lib.ListN.{length, length-append}
use lib.Dec.{leb}
use borrow.Author.Tests.{leb-true, leb-false}
use Rattle.calculus.specs.declared.truth.Truth.{Truth}
use Rattle.calculus.specs.Row.{cells_of}
use Rattle.calculus.specs.Formula.{assignment}
use Rattle.calculus.specs.Eval.{Outcome}
use Rattle.calculus.specs.Model.{outcome_of}
use Rattle.calculus.proofs.Repeats.{Cheaper, repeat-kept, repeat_cells}
use Rattle.instance.specs.declared.header.Header.{Header}
use Rattle.instance.specs.Sound.{rows}
use Rattle.instance.specs.Run.{model_of}
use Rattle.query.specs.Named.{named_in, query_of}
use Rattle.query.specs.Tree.{formula_of}
use Rattle.query.specs.Check.{check_query, passed}
use Rattle.answer.specs.Asked.{verdict}
use Rattle.answer.specs.Ask.{Lent, has_place, needed, ask, evaluated_as}
use Rattle.answer.specs.Repeats.{SameVerdict, SameOrSpent, same, spent, Repeat, RepeatMeansOne}
use Rattle.evaluate.proofs.Budget.{was_verdict}
use Rattle.evaluate.proofs.Budget as budgets
use Rattle.answer.proofs.RerunLaws.{Asks, place_kept, same_lent, verdict-asked, asked-verdict}
use Rattle.answer.proofs.AskLaws.{evaluated-asked}

module _ (h h' : Header) (ws ws' qs candidate : List ℕ) (lent : Lent) (budget : ℕ) (r : Repeat h h' ws ws') where
  abbrev twice : Outcome
  twice = outcome_of (model_of h ws candidate) (query_of h.arities qs)

  abbrev once : Outcome
  once = outcome_of (model_of h' ws' candidate) (query_of h'.arities qs)

  kept : Cheaper twice once
  kept = rw (r.twice, r.once, r.arities) (repeat-kept r.before r.row r.between r.behind (named_in h.arities qs) (formula_of h.arities qs) (assignment candidate))

  cells : length (cells_of (rows h' ws')) ≤ length (cells_of (rows h ws))
  cells = rw (r.twice, r.once) (repeat_cells r.before r.row r.between r.behind)

  fewer : length (needed h' ws' qs) ≤ length (needed h ws qs)
  fewer =
      omega (
        arith,
        cells,
        length-append (cells_of (rows h ws)) (named_in h.arities qs),
        length-append (cells_of (rows h' ws')) (named_in h'.arities qs),
        ap (λ (ars : List ℕ). length (named_in ars qs)) r.arities,
      )

  -- the second instance gives the first one's verdict
  second-asks : (t : Truth) (n : ℕ) → ask h ws qs candidate lent budget ≡ verdict t n → SameVerdict (ask h' ws' qs candidate lent budget) t n
  second-asks t n e =
      let a = verdict-asked h ws qs candidate lent budget t n e in
      let was = was_verdict budget twice t n a.1 in
      let passes : check_query h'.relations h'.arities qs candidate ≡ passed a.0.scopes = rw (r.relations, r.arities) a.0.passes in
      let asks : Asks h' ws' qs candidate lent = record { is_sound = r.second_sound; right = a.0.right; scopes = a.0.scopes; passes = passes; room = place_kept lent lent _ _ (same_lent lent) fewer a.0.room } in
      record {
        cost = once.cost;
        no_more = omega (arith, kept.cost, was.cost);
        is =
            asked-verdict h' ws' qs candidate lent budget asks (omega (arith, kept.cost, was.cost, was.fits)) ∙
            ap (λ (x : Truth). verdict x once.cost) (sym kept.same ∙ was.truth);
      }

  -- the first instance gives the second one's verdict, if the buffer is long enough and the budget suffices
  to-first :
      (t : Truth) (n : ℕ) → ask h' ws' qs candidate lent budget ≡ verdict t n → has_place lent (length (needed h ws qs)) ≡ true →
      SameOrSpent (ask h ws qs candidate lent budget) t n
  to-first t n e room =
      let a = verdict-asked h' ws' qs candidate lent budget t n e in
      let was = was_verdict budget once t n a.1 in
      let passes : check_query h.relations h.arities qs candidate ≡ passed a.0.scopes =
      sym (ap₂ (λ (k : ℕ) (ars : List ℕ). check_query k ars qs candidate) r.relations r.arities) ∙ a.0.passes in
      let asks : Asks h ws qs candidate lent = record { is_sound = r.first_sound; right = a.0.right; scopes = a.0.scopes; passes = passes; room = room } in
      go (leb twice.cost budget) refl asks was.truth was.cost
    where
      go :
          (b : Bool) → leb twice.cost budget ≡ b → Asks h ws qs candidate lent → once.truth ≡ t → once.cost ≡ n →
          SameOrSpent (ask h ws qs candidate lent budget) t n
      go true fits asks truth cost =
          same twice.cost (omega (arith, kept.cost, cost))
          (asked-verdict h ws qs candidate lent budget asks (leb-true twice.cost budget fits) ∙ ap (λ (x : Truth). verdict x twice.cost) (kept.same ∙ truth))
      go false dear asks truth cost =
          spent (sym (evaluated-asked h ws qs candidate lent budget asks) ∙ ap evaluated_as (budgets.spent budget twice (leb-false twice.cost budget dear)))

pub repeat_means_one : RepeatMeansOne
repeat_means_one h h' ws ws' qs candidate lent budget t n r = record {
  to_second = second-asks h h' ws ws' qs candidate lent budget r t n;
  to-first = to-first h h' ws ws' qs candidate lent budget r t n;
}
