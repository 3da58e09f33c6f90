-- `insert::insert` meets its contract: what check_insert accepts, write_row writes after the words in use. Assumes nothing.
use Prim.Native.Nat.{ℕ, ◌<◌}
use mathlib.Core.Path.{◌≡◌, sym, ◌∙◌}
use mathlib.Core.List.{List}
use native.Mathlib.Omega.{arith}
use lib.ListN.{length-take, length-drop}
use Rattle.calculus.specs.Answer.{Answer}
use Rattle.std.specs.Prelude.{Ok}
use Rattle.std.proofs.lemmas.Result.{err_from_is_err_and}
use Rattle.instance.specs.declared.header.Header.{Header}
use Rattle.instance.specs.Insert.{inserted, inserted_header, inserted_words}
use Rattle.instance.proofs.Passes.{row_put}
use Rattle.instance.proofs.Accepted.{Inserted, insert_accepted}
use Rattle.instance.proofs.Kept.{entered_header}
use Rattle.instance.proofs.Sound.{sound_gives, count_low}
use Rattle.instance.proofs.Told.{insert-told}
use Rattle.instance.specs.Header.{max_relations}
use Rattle.insert.proofs.insert.Goals as goal

by_answer_header_words_told : {A B C D : Type 0} → A × (B × (C × D)) → record { answer : A; header : B; words : C; told : D }
by_answer_header_words_told p = record { answer = p.0; header = p.1.0; words = p.1.1.0; told = p.1.1.1 }

pub returns-in_err-used : goal.returns-in_err-used
unfolding inserted_header inserted_words
returns-in_err-used c =
    let p = err_from_is_err_and c.from_residual.result c.from_residual.ensures.1 in
    let f = sym c.check_insert.ensures ∙ c.in_err-used.was in
    rw (p.1, p.2) (by_answer_header_words_told (insert-told _ _ _ _ (sym f, (simp f, simp f))))

-- what an accepted answer of check_insert says
accepted : (h : Header) (ws : List ℕ) (r : ℕ) (cs : List ℕ) (k : ℕ) (a : Answer) → a ≡ inserted h ws r cs → a ≡ Ok k → Inserted h ws r cs k
accepted h ws r cs k a e f = insert_accepted h ws r cs k (sym e ∙ f)

-- the row's relation is one of eight
low : (h : Header) (ws : List ℕ) (r : ℕ) (cs : List ℕ) (k : ℕ) → Inserted h ws r cs k → r < max_relations
low h ws r cs k t = omega (arith, t.relation, (sound_gives h ws t.is_sound).headed.few)

pub slice_bounds-write_row-count : goal.slice_bounds-write_row-count
slice_bounds-write_row-count c = omega (arith, (accepted _ _ _ _ _ _ c.check_insert.ensures c.in_ok-used.was).within)

pub slice_bounds-write_row-start : goal.slice_bounds-write_row-start
slice_bounds-write_row-start c = omega (arith, (accepted _ _ _ _ _ _ c.check_insert.ensures c.in_ok-used.was).within)

pub write_row-requires : goal.write_row-requires
write_row-requires c = simp (length-take, length-drop) (omega (arith, (accepted _ _ _ _ _ _ c.check_insert.ensures c.in_ok-used.was).within))

pub bounds-header-relation : goal.bounds-header-relation
bounds-header-relation c = low _ _ _ _ _ (accepted _ _ _ _ _ _ c.check_insert.ensures c.in_ok-used.was)

pub overflow_add-header : goal.overflow_add-header
overflow_add-header c = let t = accepted _ _ _ _ _ _ c.check_insert.ensures c.in_ok-used.was in
    omega (arith, count_low _ _ t.is_sound c.args.relation (low _ _ _ _ _ t))

pub bounds-header-relation-2 : goal.bounds-header-relation-2
bounds-header-relation-2 c = low _ _ _ _ _ (accepted _ _ _ _ _ _ c.check_insert.ensures c.in_ok-used.was)

pub returns : goal.returns
unfolding inserted_header inserted_words
returns c =
    let h = c.args.header.now in
    let ws = c.args.instance.now in
    let r = c.args.relation in
    let cs = c.args.cells.now in
    let done : inserted h ws r cs ≡ Ok _ = sym c.check_insert.ensures ∙ c.in_ok-used.was in
    by_answer_header_words_told (insert-told h ws r cs (
      sym done,
      (
        simp done (entered_header h ws r cs _ (insert_accepted h ws r cs _ done)),
        simp done (row_put _ r cs ws _ c.write_row.ensures),
      ),
    ))
