-- The refusals of a fill before its cells are counted, and after. Assumes nothing.
use Prim.Native.Nat.{ℕ, ◌<◌, ◌≤◌}
use mathlib.Core.Path.{◌≡◌}
use mathlib.Core.Bool.{Bool, true, false}
use mathlib.Core.List.{List, ◌++◌}
use borrow.Author.Tests.{lt-ltb, le-ltb, leb-true}
use native.Mathlib.Omega.{arith}
use lib.ListN.{drop}
use lib.Dec.{leb}
use Rattle.calculus.specs.declared.refusal.Refusal.{Refusal}
use Rattle.calculus.specs.Answer.{Answer}
use Rattle.std.specs.Prelude.{Result, Ok, Err}
use Rattle.calculus.specs.Cell.{nulls, is_cell, is_mark}
use Rattle.calculus.specs.Demand.{demand}
use Rattle.calculus.specs.Fill.{Logging, has_room_for, held, substitute}
use Rattle.calculus.specs.declared.refusal.Refusal.TheVariants.{Unsound, NoSuchNull, NotACell, NullAbsent, LogTooShort}
use Rattle.calculus.proofs.Answers.{demand_done}
use Rattle.calculus.proofs.Bools.{and_parts}
use Rattle.instance.specs.declared.header.Header.{Header}
use Rattle.instance.specs.Rows.{words_of}
use Rattle.instance.specs.Sound.{sound, rows}
use Rattle.instance.specs.Substitute.{fillable, substituted, substituted_words}

module _ (h : Header) (ws : List ℕ) (m c : ℕ) where
  pub record Fillable : Type 0 where
    pub is_sound : sound h ws ≡ true
    pub mark : is_mark m ≡ true
    pub high : m ≤ nulls
    pub cell : is_cell c ≡ true

  pub fillable_met : fillable h ws m c ≡ Ok tt → Fillable
  unfolding fillable
  fillable_met e =
      let a = demand_done (sound h ws) _ _ tt e in
      let b = demand_done (is_mark m) _ _ tt a.1 in
      let d = demand_done (is_cell c) NotACell (Ok tt) tt b.1 in
      record { is_sound = a.0; mark = b.0; high = leb-true m nulls (and_parts (leb 1 m) (leb m nulls) b.0).1; cell = d.0 }

  -- refused before the count: the fill is refused with the same number
  pub early_refused : (l : Logging) (r : Refusal) → fillable h ws m c ≡ Err r → substituted h ws l m c ≡ Err r
  unfolding fillable substituted
  early_refused l r e = go (sound h ws) (is_mark m) (is_cell c) e _
    where
      go :
          (x y z : Bool) → demand {A = Result Unit Refusal} x (Err Unsound) (demand y (Err NoSuchNull) (demand z (Err NotACell) (Ok tt))) ≡ Err r →
          (a : Answer) → demand x (Err Unsound) (demand y (Err NoSuchNull) (demand z (Err NotACell) a)) ≡ Err r
      go false y z q a = cc
      go true false z q a = cc
      go true true false q a = cc
      go true true true q a = cc

  module _ (f : Fillable) (l : Logging) where
    pub none-held : held m (rows h ws) ≡ 0 → substituted h ws l m c ≡ Err NullAbsent
    unfolding substituted
    none-held e = simp (f.is_sound, f.mark, f.cell, le-ltb 0 (held m (rows h ws)) (omega arith))

    pub no_room-held : 0 < held m (rows h ws) → has_room_for l (held m (rows h ws)) ≡ false → substituted h ws l m c ≡ Err LogTooShort
    unfolding substituted
    no_room-held some room = simp (f.is_sound, f.mark, f.cell, lt-ltb 0 (held m (rows h ws)) some, room)

    pub all_held : 0 < held m (rows h ws) → has_room_for l (held m (rows h ws)) ≡ true → substituted h ws l m c ≡ Ok (held m (rows h ws))
    unfolding substituted
    all_held some room = simp (f.is_sound, f.mark, f.cell, lt-ltb 0 (held m (rows h ws)) some, room)

-- the words after an accepted fill, and after a refused one
module _ (h : Header) (ws : List ℕ) (l : Logging) (m c : ℕ) where
  pub words_done : (k : ℕ) → substituted h ws l m c ≡ Ok k → substituted_words h ws l m c ≡ words_of (substitute m c (rows h ws)) ++ drop h.used ws
  unfolding substituted_words
  words_done k e = rw e

  pub words-refused : (r : Refusal) → substituted h ws l m c ≡ Err r → substituted_words h ws l m c ≡ ws
  unfolding substituted_words
  words-refused r e = rw e
