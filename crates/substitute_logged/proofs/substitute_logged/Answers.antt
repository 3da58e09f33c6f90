-- `substitute_logged::substitute_logged` meets its contract: counting, filling and noting act on the words in use as on the cells of the rows.
-- Assumes nothing.
use Prim.Native.Nat.{ℕ, ◌+◌, ◌<◌}
use mathlib.Core.Path.{◌≡◌, refl, sym, ap, ◌∙◌}
use mathlib.Core.List.{List, ◌++◌}
use native.Mathlib.Omega.{arith}
use borrow.Author.Tests.{le-leb, lt-leb}
use lib.ListN.{length, take, drop, length-drop}
use Rattle.calculus.specs.Answer.{Answer}
use Rattle.std.specs.Prelude.{Ok, Err}
use Rattle.std.proofs.lemmas.Result.{err_from_is_err_and}
use Rattle.calculus.specs.declared.refusal.Refusal.{Refusal}
use Rattle.calculus.specs.Answer.{Tells}
use Rattle.calculus.specs.Fill.{into_log, held, substitute, entry_length}
use Rattle.calculus.specs.Overwrite.{overwrite}
use Rattle.calculus.specs.declared.refusal.Refusal.TheVariants.{LogTooShort}
use Rattle.instance.specs.declared.header.Header.{Header}
use Rattle.instance.specs.Rows.{words_of}
use Rattle.instance.specs.Sound.{rows}
use Rattle.instance.proofs.Sound.{sound_gives}
use Rattle.instance.proofs.Fills.{held-words, filled_words_lem}
use Rattle.instance.proofs.Fillable.{Fillable, fillable_met, early_refused, none-held, no_room-held, all_held, words_done, words-refused}
use Rattle.instance.proofs.Parts.{part_to_end, put_to_end}
use Rattle.instance.proofs.Told.{fill-told}
use Rattle.undo_log.specs.Log.{logged, logged_words, logged_log, logged_used, entry_of}
use Rattle.undo_log.proofs.Joins.{entry-words}
use Rattle.substitute_logged.proofs.substitute_logged.Goals as goal

by_answer_words_log_used_told : {A B C D E : Type 0} → A × (B × (C × (D × E))) → record { answer : A; words : B; log : C; used : D; told : E }
by_answer_words_log_used_told p = record { answer = p.0; words = p.1.0; log = p.1.1.0; used = p.1.1.1.0; told = p.1.1.1.1 }

module _ (h : Header) (ws log : List ℕ) (used m c : ℕ) where
  -- the promise, of an answer, the words and the log that are left, and the log's words in use
  abbrev Promised : Answer → List ℕ → List ℕ → ℕ → Type 0
  Promised a words left next =
      (a ≡ logged h ws log used m c) × ((words ≡ logged_words h ws log used m c) × ((left ≡ logged_log h ws log used m c) × ((next ≡ logged_used h ws log used m c)
      × Tells a (logged h ws log used m c) (held m (rows h ws)))))

  refused : {a : Answer} (r : Refusal) → a ≡ Err r → logged h ws log used m c ≡ Err r → Promised a ws log used
  unfolding logged_log logged_used
  refused r q e =
      let t = fill-told h ws (into_log (length log) used) m c (q ∙ sym e, sym (words-refused _ _ _ _ _ _ e)) in
      (t.0, (t.1.0, (rw e refl, (rw e refl, t.1.1))))

  accepted : {words left : List ℕ} {n : ℕ} → n ≡ held m (rows h ws) → logged h ws log used m c ≡ Ok (held m (rows h ws))
      → words ≡ words_of (substitute m c (rows h ws)) ++ drop h.used ws → left ≡ take used log ++ overwrite (entry_of m (rows h ws)) (drop used log)
      → Promised (Ok n) words left (used + entry_length n)
  unfolding logged_log logged_used
  accepted count e filled noted =
      let t = fill-told h ws (into_log (length log) used) m c (ap Ok count ∙ sym e, filled ∙ sym (words_done _ _ _ _ _ _ e)) in
      (t.0, (t.1.0, (rw e noted, (rw e (ap (λ (k : ℕ). used + entry_length k) count), t.1.1))))

pub returns-in_err-test_fill : goal.returns-in_err-test_fill
returns-in_err-test_fill c =
    let p = err_from_is_err_and c.from_residual.result c.from_residual.ensures.1 in
    rw (p.1, p.2) (by_answer_words_log_used_told (refused _ _ c.args.log.now c.args.used.now _ _ _ refl
    (early_refused _ _ _ _ _ _ (sym c.test_fill.ensures ∙ c.in_err-test_fill.was))))

pub slice_bounds-held-end : goal.slice_bounds-held-end
slice_bounds-held-end c =
    let f = fillable_met _ _ _ _ (sym c.test_fill.ensures ∙ c.in_ok-test_fill.was) in
    (sound_gives _ _ f.is_sound).within

pub slice_bounds-held-end-2 : goal.slice_bounds-held-end-2
slice_bounds-held-end-2 c =
    let f = fillable_met _ _ _ _ (sym c.test_fill.ensures ∙ c.in_ok-test_fill.was) in
    sym (sound_gives _ _ f.is_sound).in_use

pub held-count-requires : goal.held-count-requires
held-count-requires c =
    let f = fillable_met _ _ _ _ (sym c.test_fill.ensures ∙ c.in_ok-test_fill.was) in
    (f.high, (sound_gives _ _ f.is_sound).well_formed.few)

pub returns-then-count-eq0 : goal.returns-then-count-eq0
returns-then-count-eq0 c =
    let h = c.args.header in
    let ws = c.args.instance.now in
    let m = c.args.mark in
    let f = fillable_met _ _ _ _ (sym c.test_fill.ensures ∙ c.in_ok-test_fill.was) in
    let count_is : c.held-count.result ≡ held m (rows h ws) = c.held-count.ensures ∙ sym (held-words h ws f.is_sound m) in
    by_answer_words_log_used_told (refused _ _ c.args.log.now c.args.used.now _ _ _ refl (none-held _ _ _ _ f (into_log (length c.args.log.now) c.args.used.now) (sym count_is ∙ c.if-count-eq0.true)))

-- some cell holds the null, and the log lacks words for the entry
NoRoom : (h : Header) (ws log : List ℕ) (used m c : ℕ) → Fillable h ws m c → 0 < held m (rows h ws) → length log < used + entry_length (held m (rows h ws)) →
    Promised h ws log used m c (Err LogTooShort) ws log used
NoRoom h ws log used m c f some l =
    refused _ _ _ _ _ _ _ refl
    (no_room-held _ _ _ _ f (into_log (length log) used) some (lt-leb (used + entry_length (held m (rows h ws))) (length log) l))

pub returns-then-log-used : goal.returns-then-log-used
returns-then-log-used c =
    let h = c.args.header in
    let ws = c.args.instance.now in
    let m = c.args.mark in
    let f = fillable_met _ _ _ _ (sym c.test_fill.ensures ∙ c.in_ok-test_fill.was) in
    let count_is : c.held-count.result ≡ held m (rows h ws) = c.held-count.ensures ∙ sym (held-words h ws f.is_sound m) in
    by_answer_words_log_used_told (NoRoom h ws c.args.log.now c.args.used.now m c.args.cell f (omega arith) (omega arith))

pub returns-then-log-used-2 : goal.returns-then-log-used-2
returns-then-log-used-2 c =
    let h = c.args.header in
    let ws = c.args.instance.now in
    let m = c.args.mark in
    let f = fillable_met _ _ _ _ (sym c.test_fill.ensures ∙ c.in_ok-test_fill.was) in
    let count_is : c.held-count.result ≡ held m (rows h ws) = c.held-count.ensures ∙ sym (held-words h ws f.is_sound m) in
    by_answer_words_log_used_told (NoRoom h ws c.args.log.now c.args.used.now m c.args.cell f (omega arith) (omega arith))

pub slice_bounds-note-end : goal.slice_bounds-note-end
slice_bounds-note-end c =
    let f = fillable_met _ _ _ _ (sym c.test_fill.ensures ∙ c.in_ok-test_fill.was) in
    (sound_gives _ _ f.is_sound).within

pub slice_bounds-note-end-2 : goal.slice_bounds-note-end-2
slice_bounds-note-end-2 c =
    let f = fillable_met _ _ _ _ (sym c.test_fill.ensures ∙ c.in_ok-test_fill.was) in
    sym (sound_gives _ _ f.is_sound).in_use

pub note-requires : goal.note-requires
note-requires c =
    let f = fillable_met _ _ _ _ (sym c.test_fill.ensures ∙ c.in_ok-test_fill.was) in (
      f.high,
      (sound_gives _ _ f.is_sound).well_formed.few,
      rw part_to_end (simp length-drop (omega (arith, c.held-count.ensures))),
    )

pub returns : goal.returns
returns c =
    let h = c.args.header in
    let ws = c.args.instance.now in
    let m = c.args.mark in
    let f = fillable_met _ _ _ _ (sym c.test_fill.ensures ∙ c.in_ok-test_fill.was) in
    let count_is : c.held-count.result ≡ held m (rows h ws) = c.held-count.ensures ∙ sym (held-words h ws f.is_sound m) in
    let log = c.args.log.now in
    let used = c.args.used.now in
    by_answer_words_log_used_told (accepted h ws log used m c.args.cell count_is
    (all_held _ _ _ _ f (into_log (length log) used) (omega arith) (le-leb (used + entry_length (held m (rows h ws))) (length log) (omega arith)))
    (ap (λ (l : List ℕ). l ++ drop h.used ws) (c.note.ensures.words ∙ sym (filled_words_lem _ _ f.is_sound m c.args.cell)))
    (put_to_end log used _ (omega arith)
    ∙ ap (λ (l : List ℕ). take used log ++ l) (c.note.ensures.part ∙ rw (part_to_end, entry-words _ _ f.is_sound m))))
