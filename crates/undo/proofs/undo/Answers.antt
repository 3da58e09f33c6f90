-- `undo::undo` meets its contract: what test_undo accepts, put_all puts back. Assumes nothing.
use Prim.Native.Nat.{ℕ, ◌-◌, ◌<◌}
use mathlib.Core.Path.{◌≡◌, sym, ap, ◌∙◌}
use mathlib.Core.List.{List}
use native.Mathlib.Omega.{arith}
use lib.ListN.{length, get_or, take, drop}
use Rattle.std.specs.Prelude.{Ok}
use Rattle.std.proofs.lemmas.Result.{err_from_is_err_and}
use Rattle.calculus.specs.Cell.{null}
use Rattle.instance.specs.declared.header.Header.{Header}
use Rattle.instance.specs.Sound.{rows}
use Rattle.instance.proofs.Sound.{sound_gives}
use Rattle.undo_log.specs.Places.{put_at}
use Rattle.undo_log.specs.Log.{last_mark, last_places, undone, undone_words, undone_used}
use Rattle.undo.proofs.Places.{places_below}
use Rattle.undo_log.proofs.Accepted.{Undone, undo_accepted}
use Rattle.undo.proofs.Entries.{undo-told, places-lent}
use Rattle.undo.proofs.undo.Goals as goal

by_answer_words_used_told : {A B C D : Type 0} → A × (B × (C × D)) → record { answer : A; words : B; used : C; told : D }
by_answer_words_used_told p = record { answer = p.0; words = p.1.0; used = p.1.1.0; told = p.1.1.1 }

pub returns-in_err-count : goal.returns-in_err-count
unfolding undone_words undone_used
returns-in_err-count c =
    let p = err_from_is_err_and c.from_residual.result c.from_residual.ensures.1 in
    let e = sym c.test_undo.ensures ∙ c.in_err-count.was in
    rw (p.1, p.2) (by_answer_words_used_told (undo-told _ _ _ _ (sym e, (simp e, simp e))))

-- what an accepted answer of test_undo says
module _ (h : Header) (ws log : List ℕ) (used count : ℕ) (u : Undone h ws log used count) where
  below : (ps : List ℕ) → ps ≡ last_places log used → (k : ℕ) → k < length ps → get_or ps k 0 < length ws
  below ps e k l =
      let s = sound_gives h ws u.is_sound in
      omega (arith, places_below (rows h ws) ps (rw e u.entry.places) k l, ap length s.words, s.in_use, s.within)

  lent : (k i : ℕ) → k ≡ count → i ≡ used - 2 - count → take k (drop i log) ≡ last_places log used
  lent k i e f = places-lent log used k i (omega (arith, e, u.count)) (omega (arith, f, u.count))

pub overflow_sub-end : goal.overflow_sub-end
overflow_sub-end c =
    let u = undo_accepted _ _ _ _ _ (sym c.test_undo.ensures ∙ c.in_ok-count.was) in
    omega (arith, u.entry.whole)

pub overflow_sub-start : goal.overflow_sub-start
overflow_sub-start c =
    let u = undo_accepted _ _ _ _ _ (sym c.test_undo.ensures ∙ c.in_ok-count.was) in
    omega (arith, u.count, u.entry.whole)

pub offset_bounds-log-end : goal.offset_bounds-log-end
offset_bounds-log-end c =
    let u = undo_accepted _ _ _ _ _ (sym c.test_undo.ensures ∙ c.in_ok-count.was) in
    omega (arith, u.entry.within, u.entry.whole)

pub bounds-log-end : goal.bounds-log-end
bounds-log-end c =
    let u = undo_accepted _ _ _ _ _ (sym c.test_undo.ensures ∙ c.in_ok-count.was) in
    omega (arith, u.entry.within, u.entry.whole)

pub offset_bounds-log-start : goal.offset_bounds-log-start
offset_bounds-log-start c =
    let u = undo_accepted _ _ _ _ _ (sym c.test_undo.ensures ∙ c.in_ok-count.was) in
    omega (arith, u.entry.within, u.entry.whole)

pub slice_bounds-put_all-end : goal.slice_bounds-put_all-end
slice_bounds-put_all-end c =
    let u = undo_accepted _ _ _ _ _ (sym c.test_undo.ensures ∙ c.in_ok-count.was) in
    omega (arith, u.entry.within)

pub overflow_add-mark : goal.overflow_add-mark
overflow_add-mark c =
    let u = undo_accepted _ _ _ _ _ (sym c.test_undo.ensures ∙ c.in_ok-count.was) in
    omega (arith, u.entry.high)

pub put_all-requires : goal.put_all-requires
put_all-requires c =
    let u = undo_accepted _ _ _ _ _ (sym c.test_undo.ensures ∙ c.in_ok-count.was) in
    below _ _ _ _ _ u _ (lent _ _ _ _ _ u _ _ (omega (arith, u.count, u.entry.whole)) (omega arith))

pub returns : goal.returns
unfolding undone_words undone_used
returns c =
    let h = c.args.header in
    let ws = c.args.instance.now in
    let log = c.args.log.now in
    let used = c.args.used.now in
    let done : undone h ws log used ≡ Ok _ = sym c.test_undo.ensures ∙ c.in_ok-count.was in
    let u = undo_accepted _ _ _ _ _ done in by_answer_words_used_told (undo-told h ws log used (
      sym done,
      (
        simp done (c.put_all.ensures ∙ ap (λ (ps : List ℕ). put_at ps (null (last_mark log used)) ws) (lent _ _ _ _ _ u _ _ (omega (arith, u.count, u.entry.whole)) (omega arith))),
        simp done (omega (arith, u.count, u.entry.whole)),
      ),
    ))
