-- Reading step by step: bytes from the front of a slice, or the nodes of a question in order. A step gives what it read and the state after it,
-- or the refusal that it met; "First met wins".
use Rattle.std.specs.Prelude.{ℕ, Bool, true, List}
use Rattle.calculus.specs.declared.refusal.Refusal.{Refusal}
use Rattle.calculus.specs.Refusal.{refusal_number}
use Rattle.calculus.specs.Listed.{listed}

pub data Reading (S A : Type 0) : Type 0 where
  read : A → S → Reading S A
  refused : Refusal → Reading S A

-- continues after what was read
abbrev pub and_then : {S A B : Type 0} → Reading S A → (A → S → Reading S B) → Reading S B
and_then (read a s) next = next a s
and_then (refused r) next = refused r

-- the number of a reading: 0 if something was read
abbrev pub reading_number : {S A : Type 0} → Reading S A → ℕ
reading_number (read a s) = 0
reading_number (refused r) = refusal_number r

-- if the reading is refused, its number is one of these
abbrev pub refused_in : {S A : Type 0} → List ℕ → Reading S A → Bool
refused_in ns (read a s) = true
refused_in ns (refused r) = listed (refusal_number r) ns
