-- `insert::check_insert` meets its contract: each test is one demand of the definition, in its order. Assumes nothing.
use Prim.Native.Nat.{ℕ, ◌+◌}
use mathlib.Core.Path.{◌≡◌, sym, ◌∙◌}
use mathlib.Core.Bool.{Bool, true, false}
use mathlib.Core.List.{List}
use native.Mathlib.Omega.{arith}
use borrow.Author.Tests.{lt-ltb, le-ltb, eq-eqb, ne_eqb, leb-true}
use lib.ListN.{length}
use Rattle.std.specs.Prelude.{Ok, Err}
use Rattle.std.proofs.lemmas.Result.{err_from_is_err_and}
use Rattle.calculus.specs.Answer.{Answer}
use Rattle.calculus.specs.Demand.{demand}
use Rattle.calculus.specs.declared.refusal.Refusal.TheVariants.{NotACell, NoRoom}
use Rattle.instance.specs.declared.header.Header.{Header}
use Rattle.instance.specs.Rows.{are_cells}
use Rattle.instance.specs.Sound.{sound, scanned}
use Rattle.instance.specs.Insert.{inserted, enterable}
use Rattle.instance.specs.Room.{has_room}
use Rattle.instance.proofs.Sound.{scanned-sound, scan_refused, sound_gives}
use Rattle.calculus.proofs.Bools.{and_parts}
use lib.Dec.{leb}
use Rattle.instance.specs.Header.{max_words}
use Rattle.insert.proofs.check_insert.Goals as goal
use Rattle.insert.proofs.check_insert.Goals.{After-are_cells}

-- what a result of the scan says
counted_sound : (h : Header) (ws : List ℕ) (n : ℕ) (a : Answer) → a ≡ scanned h ws → a ≡ Ok n → sound h ws ≡ true
counted_sound h ws n a e f = scanned-sound h ws n (sym e ∙ f)

pub returns-in_err-scan : goal.returns-in_err-scan
unfolding inserted
returns-in_err-scan c =
    let p = err_from_is_err_and c.from_residual.result c.from_residual.ensures.1 in
    rw (p.1, p.2) (sym (scan_refused _ _ _ _ (sym c.scan.ensures.answer ∙ c.in_err-scan.was)))

pub returns-then-header-relation : goal.returns-then-header-relation
unfolding inserted enterable
returns-then-header-relation c =
    simp (counted_sound _ _ _ _ c.scan.ensures.answer c.in_ok-scan.was, le-ltb _ _ c.if-header-relation.true)

pub bounds-arities-relation : goal.bounds-arities-relation
bounds-arities-relation c =
    omega (arith, (sound_gives _ _ (counted_sound _ _ _ _ c.scan.ensures.answer c.in_ok-scan.was)).headed.few)

pub returns-then-cells-arities : goal.returns-then-cells-arities
unfolding inserted enterable
returns-then-cells-arities c =
    simp (counted_sound _ _ _ _ c.scan.ensures.answer c.in_ok-scan.was, lt-ltb _ _ c.if-header-relation.false, ne_eqb _ _ c.if-cells-arities.true)

-- what is left to demand once the relation and the length are right
module _ (c : After-are_cells) where
  abbrev cells : List ℕ
  cells = c.args.cells.now

  abbrev needed : ℕ
  needed = c.args.header.used + (1 + length cells)

  so_far : (b : Bool) → c.are_cells.result ≡ b
      → inserted c.args.header c.args.instance.now c.args.relation cells ≡ demand b (Err NotACell) (demand (has_room needed (length c.args.instance.now)) (Err NoRoom) (Ok needed))
  unfolding inserted enterable
  so_far b e =
      let f : are_cells cells ≡ b = sym c.are_cells.ensures ∙ e in
      simp (counted_sound _ _ _ _ c.scan.ensures.answer c.in_ok-scan.was, lt-ltb _ _ c.if-header-relation.false, eq-eqb _ _ c.if-cells-arities.false, f)

pub returns-then-not-are_cells : goal.returns-then-not-are_cells
returns-then-not-are_cells c = sym (so_far (goal.at.returns-then-not-are_cells c).After-are_cells false c.if-not-are_cells.true)

pub returns-then-not-has_room : goal.returns-then-not-has_room
returns-then-not-has_room c =
    rw (so_far (goal.at.returns-then-not-has_room c).After-are_cells true c.if-not-are_cells.false)
    (simp (sym c.has_room.ensures ∙ c.if-not-has_room.true))

pub overflow_cast-result : goal.overflow_cast-result
overflow_cast-result c =
    let a = (goal.at.overflow_cast-result c).After-are_cells in
    let room : has_room (needed a) (length c.args.instance.now) ≡ true = sym c.has_room.ensures ∙ c.if-not-has_room.false in
    omega (arith, leb-true (needed a) max_words (and_parts (leb (needed a) max_words) (leb (needed a) (length c.args.instance.now)) room).0)

pub returns : goal.returns
returns c =
    rw (so_far (goal.at.returns c).After-are_cells true c.if-not-are_cells.false)
    (simp (sym c.has_room.ensures ∙ c.if-not-has_room.false))
