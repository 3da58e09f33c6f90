-- What verdicts say of the completed plot, as C sees them. Assumes nothing.
use Prim.Native.Nat.{ℕ}
use mathlib.Core.Path.{◌≡◌, sym, ap, ◌∙◌}
use mathlib.Core.List.{List}
use Rattle.calculus.specs.declared.truth.Truth.{Truth}
use Rattle.calculus.specs.declared.truth.Truth.TheVariants.{True}
use Rattle.calculus.specs.Kleene.{rank}
use Rattle.calculus.specs.Order.{of_bool}
use Rattle.calculus.proofs.Truths.{rank_is}
use Rattle.answer.specs.Asked.{Asked}
use Rattle.answer.specs.Asked.{verdict}
use Rattle.answer.specs.Ask.{Lent}
use Rattle.answer.specs.Numbers.{verdict_of}
use Rattle.plain.proofs.Missed.{nothing_missed, false_somehow, verdicts_right}
use Rattle.exports.specs.Words.{header_of}
use Rattle.exports.specs.Calls.{ask_answer}
use Rattle.exports.specs.Missed.{ExportedNothingMissed, ExportedFalseSomehow, ExportedVerdictsRight}
use Rattle.exports.proofs.Stored.{Stored, stored}

module _ (hs ws qs candidate : List ℕ) (lent : Lent) (budget truth : ℕ)
    (s : Stored hs ws qs candidate lent budget) where
  stores : verdict_of (ask_answer hs ws qs candidate lent budget) truth ≡ rank s.truth
  stores = ap (λ (a : Asked). verdict_of a truth) s.answers

  -- if the stored number is a verdict's, that is the verdict
  stored_is : (t : Truth) → verdict_of (ask_answer hs ws qs candidate lent budget) truth ≡ rank t → s.truth ≡ t
  stored_is t e = rank_is s.truth t (sym stores ∙ e)

  is-stored : (t : Truth) → s.truth ≡ t → verdict_of (ask_answer hs ws qs candidate lent budget) truth ≡ rank t
  is-stored t e = stores ∙ ap rank e

pub exported_nothing_missed : ExportedNothingMissed
exported_nothing_missed hs ws qs candidate lent budget truth plain zero =
    let s = stored hs ws qs candidate lent budget zero in
    let both = nothing_missed (header_of hs) ws qs candidate lent budget s.truth s.cost plain s.asks in (
      (λ k. both.0 (stored_is hs ws qs candidate lent budget truth s True k)),
      (λ all. is-stored hs ws qs candidate lent budget truth s True (both.1 all)),
    )

pub exported_false_somehow : ExportedFalseSomehow
exported_false_somehow hs ws qs candidate lent budget truth plain zero not-true =
    let s = stored hs ws qs candidate lent budget zero in
    false_somehow (header_of hs) ws qs candidate lent budget s.truth s.cost plain s.asks
    (λ k. not-true (is-stored hs ws qs candidate lent budget truth s True k))

pub exported_verdicts_right : ExportedVerdictsRight
exported_verdicts_right hs ws qs candidate lent budget truth t zero is =
    let s = stored hs ws qs candidate lent budget zero in
    let same = stored_is hs ws qs candidate lent budget truth s (of_bool t) is in
    verdicts_right (header_of hs) ws qs candidate lent budget s.cost t
    (s.asks ∙ ap (λ (x : Truth). verdict x s.cost) same)
