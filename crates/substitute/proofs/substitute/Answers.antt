-- `substitute::substitute` meets its contract: counting and filling act on the words in use as on the cells of the rows. Assumes nothing.
use Prim.Native.Nat.{ℕ}
use mathlib.Core.Path.{◌≡◌, refl, sym, ap, ◌∙◌}
use mathlib.Core.List.{List, ◌++◌}
use native.Mathlib.Omega.{arith}
use lib.ListN.{drop, take-append-drop}
use Rattle.std.specs.Prelude.{Result, Ok}
use Rattle.std.proofs.lemmas.Result.{err_from_is_err_and}
use Rattle.calculus.specs.declared.refusal.Refusal.{Refusal}
use Rattle.calculus.specs.Fill.{unlogged, held}
use Rattle.instance.specs.declared.header.Header.{Header}
use Rattle.instance.specs.Substitute.{fillable}
use Rattle.instance.specs.Sound.{rows}
use Rattle.instance.proofs.Sound.{sound_gives}
use Rattle.instance.proofs.Fills.{held-words, filled_words_lem, absent-same}
use Rattle.instance.proofs.Fillable.{Fillable, fillable_met, early_refused, none-held, all_held, words_done, words-refused}
use Rattle.instance.proofs.Told.{fill-told}
use Rattle.substitute.proofs.substitute.Goals as goal

by_answer_words_told : {A B C : Type 0} → A × (B × C) → record { answer : A; words : B; told : C }
by_answer_words_told p = record { answer = p.0; words = p.1.0; told = p.1.1 }

pub returns-in_err-test_fill : goal.returns-in_err-test_fill
returns-in_err-test_fill c =
    let p = err_from_is_err_and c.from_residual.result c.from_residual.ensures.1 in
    let e = early_refused _ _ _ _ unlogged _ (sym c.test_fill.ensures ∙ c.in_err-test_fill.was) in
    rw (p.1, p.2) (by_answer_words_told (fill-told _ _ _ _ _ (sym e, sym (words-refused _ _ _ _ _ _ e))))

-- what the test says
tested : (h : Header) (ws : List ℕ) (m cell : ℕ) (a : Result Unit Refusal) → a ≡ fillable h ws m cell → a ≡ Ok tt
    → Fillable h ws m cell
tested h ws m cell a e f = fillable_met h ws m cell (sym e ∙ f)

pub slice_bounds-replace-end : goal.slice_bounds-replace-end
slice_bounds-replace-end c = (sound_gives _ _ (tested _ _ _ _ _ c.test_fill.ensures c.in_ok-test_fill.was).is_sound).within

pub slice_bounds-replace-end-2 : goal.slice_bounds-replace-end-2
slice_bounds-replace-end-2 c = sym (sound_gives _ _ (tested _ _ _ _ _ c.test_fill.ensures c.in_ok-test_fill.was).is_sound).in_use

pub replace-count-requires : goal.replace-count-requires
replace-count-requires c =
    let f = tested _ _ _ _ _ c.test_fill.ensures c.in_ok-test_fill.was in
    (f.high, (sound_gives _ _ f.is_sound).well_formed.few)

pub returns-then-count-eq0 : goal.returns-then-count-eq0
returns-then-count-eq0 c =
    let h = c.args.header in
    let ws = c.args.instance.now in
    let m = c.args.mark in
    let cell = c.args.cell in
    let f = tested _ _ _ _ _ c.test_fill.ensures c.in_ok-test_fill.was in
    let count_is : c.replace-count.result ≡ held m (rows h ws) = c.replace-count.ensures.count ∙ sym (held-words h ws f.is_sound m) in
    let refused = none-held _ _ _ _ f unlogged (sym count_is ∙ c.if-count-eq0.true) in by_answer_words_told (fill-told _ _ _ _ _ (
      sym refused,
      ap (λ (l : List ℕ). l ++ drop h.used ws)
          (c.replace-count.ensures.words ∙ absent-same m cell _ (sym c.replace-count.ensures.count ∙ c.if-count-eq0.true))
          ∙ take-append-drop h.used ws ∙ sym (words-refused _ _ _ _ _ _ refused),
    ))

pub returns : goal.returns
returns c =
    let h = c.args.header in
    let ws = c.args.instance.now in
    let m = c.args.mark in
    let cell = c.args.cell in
    let f = tested _ _ _ _ _ c.test_fill.ensures c.in_ok-test_fill.was in
    let count_is : c.replace-count.result ≡ held m (rows h ws) = c.replace-count.ensures.count ∙ sym (held-words h ws f.is_sound m) in
    let done = all_held _ _ _ _ f unlogged (omega arith) refl in by_answer_words_told (fill-told _ _ _ _ _ (
      ap Ok count_is ∙ sym done,
      ap (λ (l : List ℕ). l ++ drop h.used ws) (c.replace-count.ensures.words ∙ sym (filled_words_lem _ _ f.is_sound m cell))
          ∙ sym (words_done _ _ _ _ _ _ done),
    ))
