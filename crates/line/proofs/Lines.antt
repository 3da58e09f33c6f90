-- A line: its word, the digits of its number and the line feed, written one after the other. Assumes nothing.
use Prim.Native.Nat.{ℕ, ◌+◌, ◌-◌, ◌^◌, ◌≤◌, ◌<◌}
use mathlib.Core.Path.{◌≡◌, ap, ◌∙◌}
use mathlib.Core.List.{List, ◌++◌, append_assoc}
use native.Mathlib.Omega.{arith}
use borrow.Rule.Slice.PartMut.{put_mid}
use lib.ListN.{length, take, drop, set, length-append, length-drop}
use lib.Seq.{drop-drop, drop-append_seam, take-append_seam}
use Rattle.instance.proofs.Parts.{part_to_end, put_to_end}
use Rattle.calculus.specs.Overwrite.{overwrite}
use Rattle.calculus.proofs.Stores.{overwrite-length, overwrite-next}
use Rattle.decimal.specs.Decimal.{digits, max_digits}
use Rattle.decimal.proofs.Digits.{digits-few}
use Rattle.line.specs.Text.{line_with, line_feed}

-- a list with a word at the front, if the part after the word was lent and returned
pub with_word : (word ds out front part : List ℕ) → length word ≤ length out → front ≡ overwrite word out
    → part ≡ overwrite ds (take (length front - length word) (drop (length word) front))
    → put_mid (length word) (length front - length word) front part ≡ overwrite (word ++ ds) out
with_word word ds out front part fits copied came =
    put_to_end front (length word) part (omega (arith, ap length copied, overwrite-length word out fits))
    ∙ rw (came, part_to_end, copied, take-append_seam, drop-append_seam, drop-drop, length-append word ds, append_assoc)

-- the word is copied to the front of `out`
module _ (word out copied : List ℕ) (n : ℕ) (small : n < 2 ^ 32) (room : length word + (max_digits + 1) ≤ length out) (copy : copied ≡ word) where
  abbrev front : List ℕ
  front = copied ++ drop (length word) out

  front-is : front ≡ overwrite word out
  front-is = ap (λ (l : List ℕ). l ++ drop (length word) out) copy

  pub room_for_digits : length (digits n) ≤ length (take (length front - length word) (drop (length word) front))
  room_for_digits =
      rw (part_to_end, length-drop) (omega (arith, ap length front-is, overwrite-length word out (omega arith), digits-few n small))

  -- and the digits after it
  module _ (part : List ℕ) (count : ℕ) (counted : count ≡ length (digits n)) (came : part ≡ overwrite (digits n) (take (length front - length word) (drop (length word) front))) where
    placed : put_mid (length word) (length front - length word) front part ≡ overwrite (word ++ digits n) out
    placed = with_word word (digits n) out front part (omega arith) front-is came

    long : length word + count ≡ length (word ++ digits n)
    long = rw (counted, length-append)

    pub end_inside : length word + count < length (put_mid (length word) (length front - length word) front part)
    end_inside = rw placed (omega (arith, counted, digits-few n small, overwrite-length (word ++ digits n) out (rw length-append (omega (arith, digits-few n small)))))

    pub line_long : length word + count + 1 ≡ length (line_with word n)
    unfolding line_with
    line_long = rw (length-append, length-append, counted)

    pub line_bytes : set (put_mid (length word) (length front - length word) front part) (length word + count) line_feed ≡ overwrite (line_with word n) out
    unfolding line_with
    line_bytes = rw (placed, long) (overwrite-next (word ++ digits n) out line_feed (omega (arith, long, counted, digits-few n small)))
