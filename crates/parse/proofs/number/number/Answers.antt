-- `parse::number::number` meets its contract. The loop's invariant: the bytes that are left, read after the number so far, give the whole number.
-- Assumes nothing.
use Prim.Native.Nat.{ℕ, suc, ◌+◌, ◌*◌, ◌-◌, ◌^◌, ◌<◌, ◌≤◌}
use mathlib.Core.Path.{◌≡◌, ap, ◌∙◌}
use mathlib.Core.List.{List}
use native.Mathlib.Nat.{add-zero, sub-zero, pow-suc, pow-le-pow_right, lt_of_lt_of_le}
use native.Mathlib.Numerals.{add-one}
use native.Mathlib.Omega.{arith}
use lib.Dec.{lit<}
use lib.ListN.{length, get_or, drop}
use Rattle.parse.specs.Number.{read_digits, read_number}
use Rattle.parse.proofs.Numbers.{digit_more}
use Rattle.parse.proofs.number.number.Goals as goal

-- the number so far has at most three bytes
high : (number width index : ℕ) → width ≤ 4 → index < width → number < 256 ^ index → number < 256 ^ 3
high number width index narrow l n = lt_of_lt_of_le n (pow-le-pow_right {n = 256} (lit< tt) {j = 3} (omega arith))

module _ (bytes : List ℕ) (at width : ℕ) (within : at + width ≤ length bytes) where
  one_more : (number i x : ℕ) → i < width → x ≡ get_or bytes (at + i) 0 → x < 256 → number < 256 ^ i
      → read_number width (drop at bytes) ≡ read_digits number (width - i) (drop (at + i) bytes)
      → (number * 256 + x < 256 ^ (i + 1))
      × (read_number width (drop at bytes) ≡ read_digits (number * 256 + x) (width - (i + 1)) (drop (at + (i + 1)) bytes))
  one_more number i x l is byte n e =
      let power : 256 ^ suc i ≡ 256 ^ i * 256 = pow-suc 256 i in
      let next : at + (i + 1) ≡ at + i + 1 = omega arith in
      (rw add-one (omega arith), e ∙ rw (next, is) (digit_more number (width - (i + 1)) bytes (at + i) (omega arith) (omega arith)))

pub overflow_mul-number : goal.overflow_mul-number
overflow_mul-number c = omega (arith, high c.loop-i.number c.args.width c.loop-i.i c.requires.narrow c.loop-i-test.true c.loop-i.invariant.0)

pub overflow_add-number : goal.overflow_add-number
overflow_add-number c = omega (arith, high c.loop-i.number c.args.width c.loop-i.i c.requires.narrow c.loop-i-test.true c.loop-i.invariant.0)

pub loop-i-init : goal.loop-i-init
loop-i-init c = (omega arith, rw (sub-zero, add-zero))

pub loop-i-preserved : goal.loop-i-preserved
loop-i-preserved c =
    let bytes = c.args.bytes.now in
    let here : c.byte.result ≡ get_or bytes (c.args.at + c.loop-i.i) 0 = c.byte.ensures.0 ∙ ap (λ (place : ℕ). get_or bytes place 0) (omega arith) in
    one_more bytes c.args.at c.args.width c.requires.within c.loop-i.number c.loop-i.i c.byte.result c.loop-i-test.true
    here c.byte.ensures.1 c.loop-i.invariant.0 c.loop-i.invariant.1

pub returns : goal.returns
unfolding read_digits
returns c =
    let l = c.loop-i in
    let all : l.i ≡ c.args.width = omega arith in
    let none : c.args.width - l.i ≡ 0 = omega arith in
    record {
      read = l.invariant.1 ∙ rw (none, all);
      small = rw all at l.invariant.0;
    }
