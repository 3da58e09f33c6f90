-- What an accepted undo says of the instance and of the latest entry of the log. Assumes nothing.
use Prim.Native.Nat.{ℕ, ◌≤◌}
use mathlib.Core.Path.{◌≡◌}
use mathlib.Core.Bool.{true}
use mathlib.Core.List.{List}
use borrow.Author.Tests.{leb-true}
use lib.ListN.{length}
use lib.Dec.{leb, ltb}
use Rattle.std.specs.Prelude.{Ok}
use Rattle.calculus.specs.Cell.{is_mark, nulls}
use Rattle.calculus.specs.Fill.{entry_length}
use Rattle.calculus.specs.declared.refusal.Refusal.TheVariants.{BadLog}
use Rattle.calculus.proofs.Answers.{demand_done}
use Rattle.calculus.proofs.Bools.{and_parts}
use Rattle.instance.specs.declared.header.Header.{Header}
use Rattle.instance.specs.Sound.{sound, rows}
use Rattle.undo_log.specs.Places.{are_places}
use Rattle.undo_log.specs.Log.{last_count, last_mark, last_places, entry_well_formed, undone}

module _ (h : Header) (ws log : List ℕ) (used : ℕ) where
  -- what a well-formed entry says
  pub record Entry : Type 0 where
    pub within : used ≤ length log
    pub whole : entry_length (last_count log used) ≤ used
    pub mark : is_mark (last_mark log used) ≡ true
    pub low : 1 ≤ last_mark log used
    pub high : last_mark log used ≤ nulls
    pub places : are_places (rows h ws) (last_places log used) ≡ true

  pub entry_met : entry_well_formed h ws log used ≡ true → Entry
  unfolding entry_well_formed
  entry_met e =
      let p = and_parts _ _ e in
      let q = and_parts _ _ p.0 in
      let r = and_parts _ _ q.0 in
      let m = and_parts (leb 1 (last_mark log used)) (leb (last_mark log used) nulls) q.1 in
      record { within = leb-true _ _ r.0; whole = leb-true _ _ r.1; mark = q.1; low = leb-true _ _ m.0; high = leb-true _ _ m.1; places = p.1 }

  module _ (k : ℕ) where
    pub record Undone : Type 0 where
      pub is_sound : sound h ws ≡ true
      pub entry : Entry
      pub count : k ≡ last_count log used

    pub undo_accepted : undone h ws log used ≡ Ok k → Undone
    unfolding undone
    undo_accepted e =
        let a = demand_done (sound h ws) _ _ k e in
        let b = demand_done (ltb 0 used) _ _ k a.1 in
        let c = demand_done (entry_well_formed h ws log used) BadLog (Ok (last_count log used)) k b.1 in
        record { is_sound = a.0; entry = entry_met c.0; count = cc c.1 }
