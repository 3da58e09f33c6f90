-- Decimal digits: the digits of a number from those of its tenth, and how many there are. Assumes nothing.
use Prim.Native.Nat.{ℕ, zero, suc, ◌+◌, ◌*◌, ◌/◌, ◌%◌, ◌^◌, ◌≤◌, ◌<◌}
use mathlib.Core.Path.{◌≡◌, refl, ap, ◌∙◌}
use mathlib.Core.Bool.{Bool, true, false}
use mathlib.Core.List.{List, [], ◌∷◌, ◌++◌}
use native.Mathlib.Nat.{pow-suc}
use native.Mathlib.Omega.{arith}
use borrow.Author.Tests.{lt-ltb, le-ltb, ltb-true, ltb-false}
use lib.ListN.{length, drop, set, length-append}
use lib.Dec.{ltb}
use Rattle.calculus.specs.Overwrite.{overwrite}
use Rattle.calculus.proofs.Stores.{overwrite-next}
use Rattle.decimal.specs.Decimal.{digit, digits_in, digits, max_digits}

-- any number of steps that is at least n gives the same digits
same_digits : (f g n : ℕ) → n ≤ f → n ≤ g → digits_in f n ≡ digits_in g n
unfolding digits_in
same_digits zero zero n l m = refl
same_digits zero (suc g) n l m = rw (lt-ltb n 10 (omega arith))
same_digits (suc f) zero n l m = rw (lt-ltb n 10 (omega arith))
same_digits (suc f) (suc g) n l m = rw (same_digits f g (n / 10) (omega arith) (omega arith))

pub digits_one : (n : ℕ) → n < 10 → digits n ≡ digit n ∷ []
unfolding digits_in
digits_one zero l = refl
digits_one (suc n) l = rw (lt-ltb (suc n) 10 l)

pub digits_more : (n : ℕ) → 10 ≤ n → digits n ≡ digits (n / 10) ++ digit (n % 10) ∷ []
unfolding digits_in
digits_more zero l = absurd (omega arith)
digits_more (suc n) l = rw (le-ltb (suc n) 10 l, same_digits n (suc n / 10) (suc n / 10) (omega arith) (omega arith))

pub digits-within : (k n : ℕ) → n < 10 ^ suc k → length (digits n) ≤ suc k
digits-within zero n l = rw (digits_one n (omega arith)) (omega arith)
digits-within (suc k) n l = go (ltb n 10) refl (digits-within k (n / 10))
  where
    go : (b : Bool) → ltb n 10 ≡ b → (n / 10 < 10 ^ suc k → length (digits (n / 10)) ≤ suc k) → length (digits n) ≤ suc (suc k)
    go true t tenth = rw (digits_one n (ltb-true n 10 t)) (omega arith)
    go false t tenth =
        let power : 10 ^ suc (suc k) ≡ 10 ^ suc k * 10 = pow-suc 10 (suc k) in
        let few : length (digits (n / 10)) ≤ suc k = tenth (omega arith) in
        rw (digits_more n (ltb-false n 10 t), length-append) (omega arith)

pub digits-few : (n : ℕ) → n < 2 ^ 32 → length (digits n) ≤ max_digits
digits-few n l = digits-within 9 n (omega arith)

-- the digits are written at the front of a list, the last one last
pub write_one : (n : ℕ) (out : List ℕ) → n < 10 → length (digits n) ≤ length out → set out 0 (digit n) ≡ overwrite (digits n) out
write_one n out l room = go out (rw (digits_one n l) at room) ∙ rw (digits_one n l)
  where
    go : (out : List ℕ) → 1 ≤ length out → set out 0 (digit n) ≡ digit n ∷ drop 1 out
    go [] r = absurd (omega arith)
    go (v ∷ out) r = refl

pub length_more : (n : ℕ) → 10 ≤ n → length (digits n) ≡ length (digits (n / 10)) + 1
length_more n l = ap length (digits_more n l) ∙ length-append (digits (n / 10)) (digit (n % 10) ∷ [])

pub write_more : (n : ℕ) (out : List ℕ) → 10 ≤ n → length (digits n) ≤ length out
    → set (overwrite (digits (n / 10)) out) (length (digits (n / 10))) (digit (n % 10)) ≡ overwrite (digits n) out
write_more n out l room = overwrite-next (digits (n / 10)) out (digit (n % 10)) (omega (arith, length_more n l)) ∙ rw (digits_more n l)
