-- `null_counts::null_counts` meets its contract: the counts of the words in use are those of the rows' cells, and the loop copies
-- them in. Assumes nothing.
use Prim.Native.Nat.{◌+◌}
use mathlib.Core.Path.{◌≡◌, sym, ap, ◌∙◌}
use mathlib.Core.Bool.{true}
use Rattle.instance.proofs.Told.{counts-told}
use borrow.Author.Tests.{le-leb, lt-leb}
use lib.ListN.{length}
use lib.Seq.{length-take-le}
use Rattle.calculus.specs.Cell.{nulls}
use Rattle.instance.specs.Sound.{sound, rows, scanned}
use Rattle.calculus.proofs.Answers.{after_refused}
use Rattle.std.specs.Prelude.{Err}
use Rattle.std.proofs.lemmas.Result.{err_from_is_err_and}
use Rattle.instance.specs.NullCounts.{null_counts, counted, counted_words}
use Rattle.instance.proofs.Sound.{scanned-sound, scan_refused, sound_gives}
use Rattle.instance.proofs.Fills.{held-words}
use Rattle.calculus.proofs.Table.{table_same}
use Rattle.instance.proofs.Counts.{nulls-size}
use Rattle.calculus.specs.Row.{cells_of}
use Rattle.null_counts.proofs.null_counts.Goals as goal
use Rattle.null_counts.proofs.null_counts.Goals.{After-count_words-found, In_ok-scan}

by_answer_words_told : {A B C : Type 0} → A × (B × C) → record { answer : A; words : B; told : C }
by_answer_words_told p = record { answer = p.0; words = p.1.0; told = p.1.1 }

-- what the scan's result says
is_sound : (c : In_ok-scan) → sound c.args.header c.args.instance.now ≡ true
is_sound c = scanned-sound _ _ _ (sym c.scan.ensures.answer ∙ c.in_ok-scan.was)

pub returns-in_err-scan : goal.returns-in_err-scan
unfolding counted counted_words
returns-in_err-scan c =
    let p = err_from_is_err_and c.from_residual.result c.from_residual.ensures.1 in
    let f : scanned c.args.header c.args.instance.now ≡ Err _ = sym c.scan.ensures.answer ∙ c.in_err-scan.was in
    let e : counted c.args.header c.args.instance.now c.args.counts.now ≡ Err _ = scan_refused _ _ _ _ f in
    rw (p.1, p.2) (by_answer_words_told (counts-told _ _ c.args.counts.now (sym e, sym (after_refused _ _ e))))

pub returns-then-counts-lt200 : goal.returns-then-counts-lt200
unfolding counted counted_words
returns-then-counts-lt200 c =
    let e = is_sound (goal.at.returns-then-counts-lt200 c).In_ok-scan in
    let n = lt-leb _ _ c.if-counts-lt200.true in
    by_answer_words_told (counts-told _ _ c.args.counts.now (simp (e, n), simp (e, n)))

pub slice_bounds-count_words-end : goal.slice_bounds-count_words-end
slice_bounds-count_words-end c = sym (sound_gives _ _ (is_sound (goal.at.slice_bounds-count_words-end c).In_ok-scan)).in_use

pub count_words-found-requires : goal.count_words-found-requires
count_words-found-requires c =
    (sound_gives _ _ (is_sound (goal.at.count_words-found-requires c).In_ok-scan)).well_formed.few

-- the counts of the words in use
module _ (c : After-count_words-found) where
  told : sound c.args.header c.args.instance.now ≡ true
  told = scanned-sound _ _ _ (sym c.scan.ensures.answer ∙ c.in_ok-scan.was)

  found_is : c.count_words-found.result ≡ null_counts (rows c.args.header c.args.instance.now)
  found_is =
      c.count_words-found.ensures
      ∙ table_same _ _ (λ k. sym (held-words c.args.header c.args.instance.now told (1 + k))) nulls

pub copy_from_slice-requires : goal.copy_from_slice-requires
copy_from_slice-requires c =
    length-take-le 200 c.args.counts.now c.if-counts-lt200.false
    ∙ sym (ap length c.count_words-found.ensures ∙ nulls-size _)

pub returns : goal.returns
unfolding counted counted_words
returns c =
    let b = (goal.at.returns c).After-count_words-found in
    let s = told b in
    let n = le-leb _ _ c.if-counts-lt200.false in
    by_answer_words_told (counts-told _ _ c.args.counts.now (
      simp (s, n),
      simp (s, n) (rw (c.copy_from_slice.ensures.after, found_is b, nulls-size (cells_of (rows c.args.header c.args.instance.now)))),
    ))
