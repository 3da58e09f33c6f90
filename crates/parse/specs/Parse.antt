-- Reading bytes from the front. Document 01: "byte by byte (11 where a byte is missing, then that byte's or field's rule)".
use Rattle.std.specs.Prelude.{ℕ, zero, suc, Bool, true, false, List, [], ◌∷◌}
use Rattle.calculus.specs.Demand.{demand}
use Rattle.calculus.specs.Reading.{Reading, read, refused, and_then}
use Rattle.calculus.specs.declared.refusal.Refusal.{Refusal}
use Rattle.calculus.specs.declared.refusal.Refusal.TheVariants.{CutShort}

-- what was read and the bytes after it, or the refusal
abbrev pub Parsed : Type 0 → Type 0
Parsed A = Reading (List ℕ) A

-- one byte under its rule
unfoldable pub read_byte : (ℕ → Bool) → Refusal → List ℕ → Parsed ℕ
read_byte rule why [] = refused CutShort
read_byte rule why (b ∷ bs) = demand (rule b) (refused why) (read b bs)

-- n items, one after the other
unfoldable pub read_each : {A : Type 0} → (List ℕ → Parsed A) → ℕ → List ℕ → Parsed (List A)
read_each item zero bs = read [] bs
read_each item (suc n) bs = and_then (item bs) (λ x bs. and_then (read_each item n bs) (λ xs bs. read (x ∷ xs) bs))

abbrev pub is_read : {A : Type 0} → Parsed A → Bool
is_read (read a bs) = true
is_read (refused r) = false

-- what was read, or the given value if nothing was
abbrev pub got : {A : Type 0} → A → Parsed A → A
got none (read a bs) = a
got none (refused r) = none
