-- Nothing is missed of plain questions, and every true or false verdict is right. Assumes nothing.
use Prim.Native.Nat.{ℕ}
use mathlib.Core.Path.{◌≡◌, refl, sym, ◌∙◌}
use mathlib.Core.Bool.{true}
use mathlib.Core.List.{List, ◌++◌}
use native.Mathlib.Omega.{arith}
use lib.ListN.{length, length-append}
use Rattle.calculus.specs.Row.{cells_of}
use Rattle.calculus.specs.Order.{of_bool}
use Rattle.calculus.specs.Model.{outcome_of}
use Rattle.calculus.proofs.Certain.{certain}
use Rattle.instance.specs.declared.header.Header.{Header}
use Rattle.instance.specs.Sound.{rows}
use Rattle.instance.specs.Run.{model_of}
use Rattle.instance.proofs.Rows.{cells-well_formed}
use Rattle.instance.proofs.Sound.{sound_gives}
use Rattle.query.specs.Named.{named_in, query_of}
use Rattle.query.proofs.Passed.{count-within, node-well_formed, are_cells_lem, few-cells, passed-constants}
use Rattle.evaluate.proofs.Budget.{was_verdict}
use Rattle.answer.specs.Ask.{Lent}
use Rattle.answer.specs.Admitted.{Admitted}
use Rattle.answer.proofs.RerunLaws.{Asks, verdict-asked, asks-inked}
use Rattle.answer.proofs.Need.{need_few}
use Rattle.plain.specs.Plain.{plain_words}
use Rattle.plain.specs.Missed.{NothingMissed, FalseSomehow, VerdictsRight}
use Rattle.plain.proofs.Complete.{Plain, exact, freshly, otherwise}
use Rattle.plain.proofs.PlainWords.{plain_positive}

module _ (h : Header) (ws qs candidate : List ℕ) (lent : Lent) (a : Asks h ws qs candidate lent)
    (plain : plain_words qs ≡ true) where
  admitted : Admitted h ws qs candidate (length (rows h ws))
  admitted =
      record { is_sound = a.is_sound; right = a.right; scopes = a.scopes; passes = a.passes; counted = refl }

  -- 3,810 cells and inked terms, 6 cells of the candidate and the 0 are fewer than 5,000
  plainly : Plain (model_of h ws candidate) (query_of h.arities qs)
  plainly = record {
    is-inked = asks-inked h ws qs candidate lent a;
    is_positive =
        plain_positive h.relations h.arities qs
        (node-well_formed h.relations h.arities qs candidate a.right a.scopes a.passes) plain
        (count-within qs a.right).0;
    names = passed-constants h.relations h.arities qs candidate a.right a.scopes a.passes;
    row-cells =
        cells-well_formed h.relations h.arities (rows h ws) (sound_gives h ws a.is_sound).rows_well_formed_lem;
    candidate-cells = are_cells_lem h.relations h.arities qs candidate a.right a.scopes a.passes;
    few =
        omega (
          arith,
          need_few h ws qs candidate (length (rows h ws)) admitted,
          few-cells h.relations h.arities qs candidate a.right a.scopes a.passes,
          length-append (cells_of (rows h ws)) (named_in h.arities qs),
          length-append (cells_of (rows h ws)) (candidate ++ named_in h.arities qs),
          length-append candidate (named_in h.arities qs),
        );
  }

pub nothing_missed : NothingMissed
nothing_missed h ws qs candidate lent budget t n plain e =
    let a = verdict-asked h ws qs candidate lent budget t n e in
    let b = model_of h ws candidate in
    let was = was_verdict budget (outcome_of b (query_of h.arities qs)) t n a.1 in
    let both = exact b (query_of h.arities qs) (plainly h ws qs candidate lent a.0 plain) in
    ((λ k. both.0 (was.truth ∙ k)), (λ all. sym was.truth ∙ both.1 all))

pub false_somehow : FalseSomehow
false_somehow h ws qs candidate lent budget t n plain e not-true =
    let a = verdict-asked h ws qs candidate lent budget t n e in
    let b = model_of h ws candidate in
    let was = was_verdict budget (outcome_of b (query_of h.arities qs)) t n a.1 in
    let q = query_of h.arities qs in
    let p = plainly h ws qs candidate lent a.0 plain in
    (freshly b q p, otherwise b q p (λ k. not-true (sym was.truth ∙ k)))

pub verdicts_right : VerdictsRight
verdicts_right h ws qs candidate lent budget n t e v =
    let a = verdict-asked h ws qs candidate lent budget (of_bool t) n e in
    let b = model_of h ws candidate in
    let was = was_verdict budget (outcome_of b (query_of h.arities qs)) (of_bool t) n a.1 in
    certain v b (query_of h.arities qs) t (asks-inked h ws qs candidate lent a.0) was.truth
