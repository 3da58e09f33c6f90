-- Writing a list into another, from the front: laws for loops that fill a slice, one element or one part at a time. Assumes nothing.
use Prim.Native.Nat.{ℕ, suc, ◌+◌, ◌≤◌, ◌<◌}
use mathlib.Core.Path.{◌≡◌, refl, sym, ap, ◌∙◌}
use mathlib.Core.List.{List, [], ◌∷◌, ◌++◌, append_assoc, append-nil}
use native.Mathlib.Numerals.{add-one}
use native.Mathlib.Omega.{arith}
use lib.ListN.{length, take, drop, set, length-set, length-append, length-drop, take-append-drop}
use lib.Seq.{append_snoc, take-suc-set, drop-set-lt, drop-drop, drop-cons, length-take-le, length_front, set-append_seam, take_at, drop_at}
use Rattle.calculus.specs.Overwrite.{overwrite}

-- ---- what one write leaves

pub overwrite-length : (xs old : List ℕ) → length xs ≤ length old → length (overwrite xs old) ≡ length old
overwrite-length xs old l = length_front old xs (length xs) (sym (length-take-le (length xs) old l))

-- one more element
pub overwrite-next : (xs old : List ℕ) (v : ℕ) → length xs < length old → set (overwrite xs old) (length xs) v ≡ overwrite (xs ++ v ∷ []) old
overwrite-next xs old v l = rw (length-append, add-one, append_snoc, drop-cons old (length xs) 0 l, set-append_seam)

-- ---- a loop

-- `out`, which was `out₀`, holds the elements of `whole` before index `at`, and `rest` is still to be written
pub record Written (whole rest out₀ out : List ℕ) (at : ℕ) : Type 0 where
  pub front : take at out ++ rest ≡ whole
  pub back : drop at out ≡ drop at out₀
  pub same : length out ≡ length out₀
  pub room : at + length rest ≤ length out₀

pub written_begin : (whole out₀ : List ℕ) → length whole ≤ length out₀ → Written whole whole out₀ out₀ 0
written_begin whole out₀ l = record { front = refl; back = refl; same = refl; room = omega arith }

module _ {whole out₀ out : List ℕ} {at : ℕ} where
  pub written_store : {v : ℕ} {rest : List ℕ} (next : ℕ) → next ≡ at + 1 → Written whole (v ∷ rest) out₀ out at → Written whole rest out₀ (set out at v) next
  written_store {v} {rest} next e w =
      let l : at < length out = omega arith in
      rw (e, add-one) record {
        front = rw take-suc-set (append_snoc (take at out) v rest ∙ w.front);
        back = rw (drop-set-lt (suc at) out at v (omega arith), ← add-one at, ← drop-drop 1 at out, ← drop-drop 1 at out₀) (ap (drop 1) w.back);
        same = length-set out at v ∙ w.same;
        room = omega arith;
      }

  -- a list, written into the part from `at` to the end
  pub written_part : (xs : List ℕ) {rest : List ℕ} → Written whole (xs ++ rest) out₀ out at
      → Written whole rest out₀ (take at out ++ overwrite xs (drop at out)) (at + length xs)
  written_part xs {rest} w =
      let room = rw length-append at w.room in
      let so_far : length (take at out) ≡ at = length-take-le at out (omega (arith, w.same)) in
      let long : length (take at out ++ xs) ≡ at + length xs = rw (length-append, so_far) in
      let whole : take at out ++ overwrite xs (drop at out) ≡ (take at out ++ xs) ++ drop (at + length xs) out = rw (drop-drop, append_assoc) in
      rw whole record {
        front = rw (take_at (take at out ++ xs) _ (at + length xs) long, append_assoc) w.front;
        back = rw (drop_at (take at out ++ xs) _ (at + length xs) long, ← drop-drop (length xs) at out, w.back, drop-drop);
        same = rw (length-append, long, length-drop) (omega (arith, w.same));
        room = omega arith;
      }

  -- the same with the current content as the old one
  pub written_anew : {rest : List ℕ} → Written whole rest out₀ out at → Written whole rest out out at
  written_anew w = record { front = w.front; back = refl; same = refl; room = omega arith }

  pub written_finish : Written whole [] out₀ out at → out ≡ overwrite whole out₀
  written_finish w =
      let front : take at out ≡ whole = sym (append-nil (take at out)) ∙ w.front in
      let long : length whole ≡ at = ap length (sym front) ∙ length-take-le at out (omega arith) in
      rw (long, ← w.back, ← front) (sym (take-append-drop at out))
