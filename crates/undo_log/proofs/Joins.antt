-- Places among words: those from an index on, and that the places of an instance's cells are the places among its words in use,
-- since a relation's number is below every null. Assumes nothing.
use Prim.Native.Nat.{ℕ, zero, suc, ◌+◌, ◌≤◌, ◌<◌}
use mathlib.Core.Path.{◌≡◌, refl, ap, ap₂}
use mathlib.Core.Bool.{Bool, true, false, cond, false≢true}
use mathlib.Core.List.{List, [], ◌∷◌, ◌++◌}
use native.Mathlib.Numerals.{add-one}
use native.Mathlib.Omega.{arith}
use borrow.Author.Tests.{ltb-true, ne_eqb}
use lib.ListN.{length, get_or, take, drop}
use lib.Dec.{eqb}
use Rattle.calculus.specs.Cell.{null}
use Rattle.calculus.specs.Fill.{count_of}
use Rattle.calculus.proofs.Lists.{drop_step}
use Rattle.instance.specs.declared.header.Header.{Header}
use Rattle.instance.specs.Header.{arity_of}
use Rattle.instance.specs.Rows.{words_well_formed, rows_from}
use Rattle.instance.specs.Sound.{sound, rows}
use Rattle.instance.proofs.Fills.{held-words}
use Rattle.instance.proofs.Rows.{at_row, at_cell, cells-first}
use Rattle.instance.proofs.Sound.{sound_gives}
use Rattle.undo_log.specs.Places.{places_in, places_of}
use Rattle.undo_log.specs.Log.{entry_of}

module _ (x : ℕ) where
  -- the places from index i on, by the element there
  pub in-drop-step :
      (xs : List ℕ) (i : ℕ) → i < length xs →
      places_in x i (drop i xs) ≡ cond (eqb (get_or xs i 0) x) (i ∷ places_in x (i + 1) (drop (i + 1) xs)) (places_in x (i + 1) (drop (i + 1) xs))
  unfolding places_in
  in-drop-step xs i l = rw (drop_step xs i l, add-one) refl

  -- the places among words are those among the cells still to come and those of the rows' cells
  in_cells : (n : ℕ) (ars : List ℕ) → n ≤ x → (p left : ℕ) (ws : List ℕ) → words_well_formed n ars left ws ≡ true
      → places_in x p (take left ws) ++ places_of x (p + left) (rows_from ars left ws) ≡ places_in x p ws
  unfolding words_well_formed rows_from places_in places_of
  in_cells n ars l p zero [] e = refl
  in_cells n ars l p (suc left) [] e = absurd (false≢true e)
  in_cells n ars l p zero (w ∷ ws) e =
      let a = arity_of ars w in
      let t = at_row n ars w ws e in
      let lt = ltb-true w n t.0 in
      let ne : eqb w x ≡ false = ne_eqb w x (λ q. omega arith) in
      let at : suc (p + 0) + length (take a ws) ≡ suc p + a = omega (arith, (cells-first n ars a ws t.1).0) in
      let first : suc (p + 0) ≡ suc p = omega arith in
      rw (ne, at, first) (in_cells n ars l (suc p) a ws t.1)
  in_cells n ars l p (suc left) (w ∷ ws) e =
      let at : p + suc left ≡ suc p + left = omega arith in
      rw at (go (eqb w x) (in_cells n ars l (suc p) left ws (at_cell n ars left w ws e).1))
    where
      go :
          (b : Bool) → places_in x (suc p) (take left ws) ++ places_of x (suc p + left) (rows_from ars left ws) ≡ places_in x (suc p) ws →
          cond b (p ∷ places_in x (suc p) (take left ws)) (places_in x (suc p) (take left ws)) ++ places_of x (suc p + left) (rows_from ars left ws) ≡
          cond b (p ∷ places_in x (suc p) ws) (places_in x (suc p) ws)
      go true q = ap (λ (ps : List ℕ). p ∷ ps) q
      go false q = q

module _ (h : Header) (ws : List ℕ) (e : sound h ws ≡ true) (m : ℕ) where
  pub places-words : places_of (null m) 0 (rows h ws) ≡ places_in (null m) 0 (take h.used ws)
  unfolding rows places_in
  places-words =
      let s = sound_gives h ws e in
      in_cells (null m) h.relations h.arities (omega (arith, s.headed.few)) 0 0 (take h.used ws) s.well_formed.words

  -- the entry of a fill, from the words in use
  pub entry-words : entry_of m (rows h ws) ≡ places_in (null m) 0 (take h.used ws) ++ m ∷ count_of (null m) (take h.used ws) ∷ []
  unfolding entry_of
  entry-words = ap₂ (λ (ps : List ℕ) (n : ℕ). ps ++ m ∷ n ∷ []) places-words (held-words h ws e m)
