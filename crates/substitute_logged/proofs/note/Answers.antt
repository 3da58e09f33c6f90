-- `substitute_logged::note` meets its contract: the loop is a pass that fills words, and what is still to be written of the entry is the places from
-- index i on, the mark and the number of places. Assumes nothing.
use Prim.Native.Nat.{ℕ, ◌+◌}
use mathlib.Core.Path.{◌≡◌, refl, sym, ap, ◌∙◌}
use mathlib.Core.List.{List, [], ◌∷◌, map}
use native.Mathlib.Omega.{arith}
use borrow.Author.Tests.{eq-eqb, ne_eqb}
use lib.ListN.{length, drop, get_or, set, length-append, length-set}
use lib.Seq.{drop-length, set-get_or}
use Rattle.calculus.specs.Cell.{null, put}
use Rattle.calculus.specs.Fill.{count_of}
use Rattle.calculus.proofs.Stores.{written_begin, written_store, written_finish}
use Rattle.undo_log.specs.Places.{places_in}
use Rattle.undo_log.proofs.Joins.{in-drop-step}
use Rattle.undo_log.proofs.Places.{in_count}
use Rattle.substitute.proofs.Filling.{filling-starts, filling-here, filling-null, filling-other, filling_ends}
use Rattle.substitute_logged.proofs.note.Invariants.{then_end, Noting}
use Rattle.substitute_logged.proofs.note.Goals as goal
use Rattle.substitute_logged.proofs.note.Goals.{After-loop-i, In-loop-i, then-word-null, else-word-null}

by_words_part : {A B : Type 0} → A × B → record { words : A; part : B }
by_words_part p = record { words = p.0; part = p.1 }

pub loop-i-init : goal.loop-i-init
loop-i-init c = (filling-starts _ _ _, written_begin _ _ (simp length-append (omega (arith, in_count (null c.args.mark) 0 c.args.words.now))))

-- the word at index i
module _ (c : In-loop-i) where
  abbrev m : ℕ
  m = c.args.mark

  abbrev was : List ℕ
  was = c.args.words.now

  abbrev i : ℕ
  i = c.loop-i.i

  abbrev word : ℕ
  word = get_or c.loop-i.words i 0

  here : get_or was i 0 ≡ word
  here = sym (filling-here _ _ _ (omega arith) c.loop-i.invariant.0)

  -- the rest of the entry from the next index on
  abbrev next : List ℕ
  next = then_end (places_in (null m) (i + 1) (drop (i + 1) was)) m was

  abbrev Rest : List ℕ → Type 0
  Rest rest = Noting m was rest c.args.part.now c.loop-i.part c.loop-i.count

  at_null : word ≡ null m → Rest (i ∷ next)
  at_null e = rw (in-drop-step (null m) was i (omega arith), eq-eqb _ _ (here ∙ e)) at c.loop-i.invariant.1

  at_other : (word ≡ null m → ⊥) → Rest next
  at_other ne = rw (in-drop-step (null m) was i (omega arith), ne_eqb _ _ (λ e. ne (sym here ∙ e))) at c.loop-i.invariant.1

pub bounds-part-count : goal.bounds-part-count
bounds-part-count c = let w = at_null (goal.at.bounds-part-count c).In-loop-i c.if-word-null.true in omega arith

pub loop-i-preserved : goal.loop-i-preserved
loop-i-preserved c =
    let b = (goal.at.loop-i-preserved c).In-loop-i in
    elim c.if-word-null.branch [
      | then-word-null w ↦ rw (w.words-is, w.part-is, w.count-is) (
        filling-null _ _ _ (omega arith) c.loop-i.invariant.0 w.if-word-null.true,
        written_store _ refl (at_null b w.if-word-null.true),
      )
      | else-word-null w ↦ rw (w.words-is, w.part-is, w.count-is, set-get_or) (
        filling-other _ _ _ (omega arith) c.loop-i.invariant.0 w.if-word-null.false,
        at_other b w.if-word-null.false,
      )
    ]

-- past the last word, the mark and the number of places are still to be written
module _ (c : After-loop-i) where
  abbrev mark : ℕ
  mark = c.args.mark

  abbrev words : List ℕ
  words = c.args.words.now

  abbrev count : ℕ
  count = c.loop-i.count

  filled : (count ≡ count_of (null mark) words) × (c.loop-i.words ≡ map (put mark c.args.cell) words)
  filled = filling_ends _ _ _ (omega arith) c.loop-i.invariant.0

  places-noted : Noting mark words (then_end [] mark words) c.args.part.now c.loop-i.part count
  unfolding places_in
  places-noted = let e : c.loop-i.i ≡ length words = omega arith in rw (e, drop-length) at c.loop-i.invariant.1

  mark-noted : Noting mark words (count_of (null mark) words ∷ []) c.args.part.now (set c.loop-i.part count mark) (count + 1)
  mark-noted = written_store _ refl places-noted

pub bounds-part-count-2 : goal.bounds-part-count-2
bounds-part-count-2 c = let w = places-noted (goal.at.bounds-part-count-2 c).After-loop-i in omega arith

pub bounds-part-count-3 : goal.bounds-part-count-3
bounds-part-count-3 c = let w = places-noted (goal.at.bounds-part-count-3 c).After-loop-i in simp length-set (omega arith)

pub shape_of-words : goal.shape_of-words
shape_of-words c = c.loop-i.invariant.0.long

pub shape_of-part : goal.shape_of-part
shape_of-part c = simp length-set c.loop-i.invariant.1.same

pub returns : goal.returns
returns c =
    let e = (goal.at.returns c).After-loop-i in
    by_words_part ((
      (filled e).1,
      ap (set (set c.loop-i.part (count e) (mark e)) (count e + 1)) (filled e).0 ∙ written_finish (written_store _ refl (mark-noted e)),
    )
    )
