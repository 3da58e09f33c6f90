-- Filling a list with the numbers that are read from index `at`. Assumes nothing.
use Prim.Native.Nat.{ℕ, suc, ◌+◌, ◌-◌, ◌≤◌, ◌<◌}
use mathlib.Core.Path.{◌≡◌, refl}
use mathlib.Core.Bool.{true}
use mathlib.Core.List.{List, ◌++◌, append-nil}
use native.Mathlib.Nat.{sub-zero}
use native.Mathlib.Omega.{arith}
use lib.ListN.{length, take, drop, set, length-take, length-drop, drop_of_length-le}
use Rattle.calculus.specs.Overwrite.{overwrite}
use Rattle.calculus.specs.Reading.{read}
use Rattle.calculus.proofs.Stores.{Written, written_begin, written_store, written_finish}
use Rattle.parse.specs.Parse.{read_each, is_read}
use Rattle.parse.specs.Number.{read_number, read_numbers, numbers_of}
use Rattle.parse.proofs.Each.{each_length}
use Rattle.parse.proofs.Numbers.{numbers-room, numbers_more}

-- the first i numbers are in `out`, which was `out₀` before, and the next number is read at index `next`
pub record Filling (width count at : ℕ) (bytes out₀ out : List ℕ) (next i : ℕ) : Type 0 where
  pub few : i ≤ count
  pub within : next ≤ length bytes
  pub reads : is_read (read_numbers width (count - i) (drop next bytes)) ≡ true
  pub written : Written (numbers_of width count (drop at bytes)) (numbers_of width (count - i) (drop next bytes)) out₀ out i

pub fill_start : (width count at : ℕ) (bytes out : List ℕ) → at ≤ length bytes → is_read (read_numbers width count (drop at bytes)) ≡ true → count ≤ length out
    → Filling width count at bytes out out at 0
fill_start width count at bytes out within reads room =
    let long : length (numbers_of width count (drop at bytes)) ≡ count = each_length (read_number width) count (drop at bytes) reads in
    record {
      few = omega arith;
      within = within;
      reads = rw (sub-zero count) reads;
      written = rw (sub-zero count) (written_begin (numbers_of width count (drop at bytes)) out (omega arith));
    }

module _ {width count at : ℕ} {bytes out₀ out : List ℕ} {next i : ℕ} (f : Filling width count at bytes out₀ out next i) where
  left : i < count → count - i ≡ suc (count - (i + 1))
  left l = omega arith

  pub fill-room : i < count → next + width ≤ length bytes
  fill-room l =
      let one : width ≤ length (drop next bytes) = numbers-room width (count - (i + 1)) (drop next bytes) (rw (left l) at f.reads) in
      omega (arith, length-drop next bytes)

  pub numbers-filled_more : {x : ℕ} → i < count → read_number width (drop next bytes) ≡ read x (drop (next + width) bytes)
      → Filling width count at bytes out₀ (set out i x) (next + width) (i + 1)
  numbers-filled_more {x} l number =
      let m = numbers_more width (count - (i + 1)) x (drop next bytes) (drop (next + width) bytes) number (rw (left l) at f.reads) in
      record {
        few = omega arith;
        within = fill-room l;
        reads = m.0;
        written = written_store (i + 1) refl (rw (left l, m.1) at f.written);
      }

  pub fill_end : count ≤ i → out ≡ overwrite (numbers_of width count (drop at bytes)) out₀
  unfolding read_each
  fill_end l =
      let none : count - i ≡ 0 = omega arith in
      written_finish (rw none at f.written)

-- all numbers are in the part that was lent, the first `count` elements of a list
pub fill_part : {width count at : ℕ} {bytes part : List ℕ} {next i : ℕ} (list : List ℕ) → Filling width count at bytes (take count list) part next i → count ≤ i
    → is_read (read_numbers width count (drop at bytes)) ≡ true → part ++ drop count list ≡ overwrite (numbers_of width count (drop at bytes)) list
fill_part {width} {count} {at} {bytes} list f l reads =
    let long : length (numbers_of width count (drop at bytes)) ≡ count = each_length (read_number width) count (drop at bytes) reads in
    rw (fill_end f l, long, drop_of_length-le (take count list) {i = count} (omega (arith, length-take count list)), append-nil)
