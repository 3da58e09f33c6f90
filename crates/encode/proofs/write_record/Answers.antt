-- `encode::write_record` meets its contract: the fields of the cells from index i are left to write. Assumes nothing.
use Prim.Native.Nat.{ℕ, ◌+◌, ◌-◌, ◌*◌, ◌≤◌, ◌<◌}
use mathlib.Core.Path.{◌≡◌, refl, ◌∙◌, ap}
use mathlib.Core.List.{List, ◌∷◌, ◌++◌, []}
use native.Mathlib.Omega.{arith}
use borrow.Rule.Slice.PartMut.{put_mid}
use lib.ListN.{length, drop, get_or, set}
use lib.Seq.{drop-length, drop-set-lt}
use Rattle.calculus.specs.Overwrite.{overwrite}
use Rattle.calculus.proofs.Stores.{Written, written_begin, written_store, written_part, written_finish, written_anew}
use Rattle.card.specs.Encode.{field_bytes, fields_bytes}
use Rattle.encode.proofs.RecordSteps.{fields-size, fields_rest, full_maps}
use Rattle.encode.proofs.write_record.Goals as goal
use Rattle.encode.proofs.write_record.Invariants.{whole}
use Rattle.instance.specs.Header.{max_columns}

module _ (relation : ℕ) (cs out : List ℕ) where
  abbrev map_byte : ℕ
  map_byte = get_or (0 ∷ 1 ∷ 3 ∷ 7 ∷ 15 ∷ 31 ∷ 63 ∷ []) (length cs) 0

  -- the first two bytes
  abbrev started : List ℕ
  started = set (set out 0 relation) 1 map_byte

  starts : length cs ≤ max_columns → 2 + 3 * length cs ≤ length out → Written (whole relation cs) (fields_bytes cs) out started 2
  starts narrow room =
      rw (full_maps (length cs) narrow)
      (written_store 2 refl (written_store 1 refl (written_begin (whole relation cs) out (omega (arith, fields-size cs)))))

  -- the cell at index i
  next : (lent part : List ℕ) (i : ℕ) → i < length cs → part ≡ field_bytes (get_or cs i 0) → Written (whole relation cs) (fields_bytes (drop i cs)) started lent (2 + 3 * i)
      → Written (whole relation cs) (fields_bytes (drop (i + 1) cs)) started (put_mid (2 + 3 * i) (2 + 3 * i + 3 - (2 + 3 * i)) lent part) (2 + 3 * (i + 1))
  next lent part i l is w =
      let at : 2 + 3 * (i + 1) ≡ 2 + 3 * i + 3 = omega arith in
      let three : 2 + 3 * i + 3 - (2 + 3 * i) ≡ 3 = omega arith in
      rw (at, three, is) (written_part (field_bytes (get_or cs i 0)) (rw (fields_rest cs i l) at w))

  ends : (lent : List ℕ) (i : ℕ) → i ≡ length cs → Written (whole relation cs) (fields_bytes (drop i cs)) started lent (2 + 3 * i) → lent ≡ overwrite (whole relation cs) out
  unfolding fields_bytes
  ends lent i e w =
      let all = whole relation cs in
      let kept : drop (length all) started ≡ drop (length all) out =
      drop-set-lt (length all) (set out 0 relation) 1 map_byte (omega arith) ∙ drop-set-lt (length all) out 0 relation (omega arith)
      in
      written_finish (rw (e, drop-length) at w) ∙ ap (λ (l : List ℕ). all ++ l) kept

pub loop-i-init : goal.loop-i-init
loop-i-init c = written_anew (starts c.args.relation c.args.cells.now c.args.out.now c.requires.1 c.requires.2)

pub loop-i-preserved : goal.loop-i-preserved
loop-i-preserved c =
    next c.args.relation c.args.cells.now c.args.out.now c.loop-i.out c.copy_from_slice.new.self c.loop-i.i c.loop-i-test.true
    (rw c.to_be_bytes.ensures at c.copy_from_slice.ensures.after) c.loop-i.invariant

pub returns : goal.returns
returns c = ends c.args.relation c.args.cells.now c.args.out.now c.loop-i.out c.loop-i.i (omega arith) c.loop-i.invariant
