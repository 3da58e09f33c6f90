-- Undo keeps an instance sound, whatever the log holds: a null in the place of a cell leaves every row its relation and its length. Assumes nothing.
use Prim.Native.Nat.{ℕ, zero, suc, ◌-◌, ◌≤◌}
use mathlib.Core.Path.{◌≡◌, refl, sym, ap, ◌∙◌, subst}
use mathlib.Core.Bool.{Bool, true, false, ◌||◌, false≢true}
use mathlib.Core.List.{List, [], ◌∷◌, ◌++◌, append_assoc}
use native.Mathlib.Omega.{arith}
use borrow.Author.Tests.{ltb-true, ltb-false}
use lib.ListN.{length, set, drop, length-set, take-append-drop}
use lib.Seq.{set-append_left}
use lib.Dec.{ltb}
use Rattle.std.specs.Prelude.{Ok}
use Rattle.calculus.specs.All.{all}
use Rattle.calculus.specs.Cell.{is_cell, null}
use Rattle.calculus.specs.Row.{Row}
use Rattle.calculus.proofs.All.{all_parts, all_set}
use Rattle.calculus.proofs.Bools.{and_parts, and_intro}
use Rattle.instance.specs.declared.header.Header.{Header}
use Rattle.instance.specs.Rows.{row_well_formed, rows_well_formed, words_of}
use Rattle.instance.specs.Sound.{sound, rows}
use Rattle.instance.proofs.Blanks.{null-cell}
use Rattle.instance.proofs.Headers.{rows-sound, Alike, header-alike, alike_refl, alike_trans}
use Rattle.instance.proofs.Rows.{row_parts, row_well_formed_lem}
use Rattle.instance.proofs.Sound.{sound_gives}
use Rattle.undo_log.specs.Log.{last_mark, last_places, undone, undone_words}
use Rattle.undo_log.specs.Places.{is_place, are_places, put_at}
use Rattle.undo_log.proofs.Accepted.{undo_accepted}

set_past : (xs ys : List ℕ) (i x : ℕ) → length xs ≤ i → set (xs ++ ys) i x ≡ xs ++ set ys (i - length xs) x
set_past [] ys i x l = ap (λ (k : ℕ). set ys k x) (omega arith)
set_past (y ∷ xs) ys zero x l = absurd (omega arith)
set_past (y ∷ xs) ys (suc i) x l = ap (λ (l : List ℕ). y ∷ l) (set_past xs ys i x (omega arith)) ∙ ap (λ (k : ℕ). y ∷ (xs ++ set ys k x)) (omega arith)

-- rows of the same relations and lengths have the same places
place-alike : (rs ss : List Row) → Alike rs ss → (p : ℕ) → is_place rs p ≡ is_place ss p
unfolding Alike is_place
place-alike [] [] a p = refl
place-alike [] (s ∷ ss) a p = absurd a
place-alike (r ∷ rs) [] a p = absurd a
place-alike (r ∷ rs) (s ∷ ss) a zero = refl
place-alike (r ∷ rs) (s ∷ ss) a (suc p) = rw a.1 (ap (λ (b : Bool). ltb p (length s.cells) || b) (place-alike rs ss a.2 (p - length s.cells)))

-- these words are those of well-formed rows like rs, and others after them
record Left (n : ℕ) (ars post : List ℕ) (rs : List Row) (ws : List ℕ) : Type 0 where
  left : List Row
  words : ws ≡ words_of left ++ post
  alike : Alike left rs
  well_formed : rows_well_formed n ars left ≡ true

module _ (n : ℕ) (ars : List ℕ) (x : ℕ) (cell : is_cell x ≡ true) (post : List ℕ) where
  one_left : (rs : List Row) (p : ℕ) → rows_well_formed n ars rs ≡ true → is_place rs p ≡ true → Left n ars post rs (set (words_of rs ++ post) p x)
  unfolding is_place Alike words_of all
  one_left [] p e i = absurd (false≢true i)
  one_left (r ∷ rs) zero e i = absurd (false≢true i)
  one_left (r ∷ rs) (suc p) e i = go (ltb p (length r.cells)) refl i (one_left rs (p - length r.cells) (all_parts (row_well_formed n ars) r rs e).1)
    where
      apart : (cs : List ℕ) (ss : List Row) → r.relation ∷ (cs ++ (words_of ss ++ post)) ≡ words_of (record { relation = r.relation; cells = cs } ∷ ss) ++ post
      apart cs ss = ap (λ (l : List ℕ). r.relation ∷ l) (sym (append_assoc cs (words_of ss) post))

      begin : set (words_of (r ∷ rs) ++ post) (suc p) x ≡ r.relation ∷ set (r.cells ++ (words_of rs ++ post)) p x
      begin = ap (λ (l : List ℕ). r.relation ∷ set l p x) (append_assoc r.cells (words_of rs) post)

      go :
          (b : Bool) → ltb p (length r.cells) ≡ b → b || is_place rs (p - length r.cells) ≡ true →
          (is_place rs (p - length r.cells) ≡ true → Left n ars post rs (set (words_of rs ++ post) (p - length r.cells) x)) →
          Left n ars post (r ∷ rs) (set (words_of (r ∷ rs) ++ post) (suc p) x)
      go true q j rest =
          let parts = row_parts n ars r rs e in
          let cs = set r.cells p x in
          let row : Row = record { relation = r.relation; cells = cs } in
          record {
            left = row ∷ rs;
            words = begin ∙ ap (λ (l : List ℕ). r.relation ∷ l) (set-append_left r.cells (words_of rs ++ post) p x (ltb-true _ _ q)) ∙ apart cs rs;
            alike = (refl, length-set r.cells p x, alike_refl rs);
            well_formed =
                and_intro
                (row_well_formed_lem n ars row (ltb-true _ _ parts.0) (length-set r.cells p x ∙ parts.1) (all_set is_cell r.cells p x parts.2 cell))
                parts.3;
          }
      go false q j rest =
          let more = rest j in
          record {
            left = r ∷ more.left;
            words =
                begin ∙
                ap (λ (l : List ℕ). r.relation ∷ l)
                (set_past r.cells (words_of rs ++ post) p x (ltb-false _ _ q) ∙ ap (λ (l : List ℕ). r.cells ++ l) more.words) ∙
                apart r.cells more.left;
            alike = (refl, refl, more.alike);
            well_formed = and_intro (all_parts (row_well_formed n ars) r rs e).0 more.well_formed;
          }

  all_left : (ps : List ℕ) (rs : List Row) (ws : List ℕ) → Left n ars post rs ws → are_places rs ps ≡ true → Left n ars post rs (put_at ps x ws)
  unfolding put_at all
  all_left [] rs ws l i = l
  all_left (p ∷ ps) rs ws l i =
      let q = and_parts _ _ i in
      let one = one_left l.left p l.well_formed (place-alike l.left rs l.alike p ∙ q.0) in
      all_left ps rs (set ws p x) (
      record {
        left = one.left;
        words = ap (λ (k : List ℕ). set k p x) l.words ∙ one.words;
        alike = alike_trans one.left l.left rs one.alike l.alike;
        well_formed = one.well_formed;
      }
      ) q.1

-- an accepted undo leaves a sound instance
pub undo_kept : (h : Header) (ws log : List ℕ) (used k : ℕ) → undone h ws log used ≡ Ok k → sound h (undone_words h ws log used) ≡ true
unfolding undone_words
undo_kept h ws log used k e =
    let a = undo_accepted h ws log used k e in
    let g = sound_gives h ws a.is_sound in
    let post = drop h.used ws in
    let begin : ws ≡ words_of (rows h ws) ++ post = sym (ap (λ (l : List ℕ). l ++ post) g.words ∙ take-append-drop h.used ws) in
    let l =
    all_left h.relations h.arities (null (last_mark log used)) (null-cell (last_mark log used) a.entry.low a.entry.high) post (last_places log used) (rows h ws) ws
    (record { left = rows h ws; words = begin; alike = alike_refl (rows h ws); well_formed = g.rows_well_formed_lem }) a.entry.places
    in
    let same = header-alike h.relations h.arities l.left (rows h ws) l.alike ∙ g.header in
    rw (e, l.words)
    (subst (λ (x : Header). sound x (words_of l.left ++ post) ≡ true) same
    (rows-sound h.relations h.arities l.left post g.well_formed.header (omega (arith, ap (λ (x : Header). x.used) same, g.few)) l.well_formed).is_sound)
