-- The number of a refusal says which it is, and no refusal has the number 0. Assumes nothing.
use Prim.Native.Nat.{ℕ, ◌-◌}
use mathlib.Core.Path.{◌≡◌, refl, sym, ap, ◌∙◌}
use mathlib.Core.Bool.{true}
use mathlib.Core.List.{List, [], ◌∷◌, ◌++◌}
use native.Mathlib.Omega.{arith}
use borrow.Author.Tests.{leb-true}
use lib.Dec.{leb}
use Rattle.std.specs.Prelude.{Result, Ok, Err, get_or, replicate}
use Rattle.calculus.specs.Answer.{number_of}
use Rattle.calculus.specs.Refusal.{refusal_number}
use Rattle.calculus.specs.declared.refusal.Refusal.{Refusal}
use Rattle.calculus.specs.declared.refusal.Refusal.TheVariants.{InputTooLong, CutShort, BadRelationCount, BadArity, NoSuchRelation, BitBeyondArity, NotACell, NullsExhausted, BytesLeftOver, BadQueryLength, BadNode, BadChild, UnboundVariable, NoSuchQueryRelation, BadCandidate, WrongRowLength, NoSuchNull, Unsound, NoRoom, NullAbsent, OutputTooShort, BufferTooShort, BudgetSpent, LogTooShort, LogEmpty, BadLog}

-- the refusals by number, from 10 on; `Unsound` where a number is no refusal's
by_number : List Refusal
by_number =
    InputTooLong ∷ CutShort ∷ BadRelationCount ∷ BadArity ∷ NoSuchRelation ∷ BitBeyondArity ∷ NotACell ∷ NullsExhausted ∷ BytesLeftOver
    ∷ Unsound ∷ Unsound ∷ BadQueryLength ∷ BadNode ∷ BadChild ∷ UnboundVariable ∷ NoSuchQueryRelation ∷ BadCandidate ∷ WrongRowLength
    ∷ Unsound ∷ NoSuchNull ∷ replicate 11 Unsound
    ++ Unsound ∷ NoRoom ∷ NullAbsent ∷ OutputTooShort ∷ BufferTooShort ∷ BudgetSpent ∷ LogTooShort ∷ LogEmpty ∷ BadLog ∷ []

numbered : (r : Refusal) → get_or by_number (refusal_number r - 10) Unsound ≡ r
unfolding by_number
numbered InputTooLong = refl
numbered CutShort = refl
numbered BadRelationCount = refl
numbered BadArity = refl
numbered NoSuchRelation = refl
numbered BitBeyondArity = refl
numbered NotACell = refl
numbered NullsExhausted = refl
numbered BytesLeftOver = refl
numbered BadQueryLength = refl
numbered BadNode = refl
numbered BadChild = refl
numbered UnboundVariable = refl
numbered NoSuchQueryRelation = refl
numbered BadCandidate = refl
numbered WrongRowLength = refl
numbered NoSuchNull = refl
numbered Unsound = refl
numbered NoRoom = refl
numbered NullAbsent = refl
numbered OutputTooShort = refl
numbered BufferTooShort = refl
numbered BudgetSpent = refl
numbered LogTooShort = refl
numbered LogEmpty = refl
numbered BadLog = refl

pub same_refusal : (q r : Refusal) → refusal_number q ≡ refusal_number r → q ≡ r
same_refusal q r e = sym (numbered q) ∙ ap (λ (n : ℕ). get_or by_number (n - 10) Unsound) e ∙ numbered r

at_least_10 : (r : Refusal) → leb 10 (refusal_number r) ≡ true
at_least_10 InputTooLong = refl
at_least_10 CutShort = refl
at_least_10 BadRelationCount = refl
at_least_10 BadArity = refl
at_least_10 NoSuchRelation = refl
at_least_10 BitBeyondArity = refl
at_least_10 NotACell = refl
at_least_10 NullsExhausted = refl
at_least_10 BytesLeftOver = refl
at_least_10 BadQueryLength = refl
at_least_10 BadNode = refl
at_least_10 BadChild = refl
at_least_10 UnboundVariable = refl
at_least_10 NoSuchQueryRelation = refl
at_least_10 BadCandidate = refl
at_least_10 WrongRowLength = refl
at_least_10 NoSuchNull = refl
at_least_10 Unsound = refl
at_least_10 NoRoom = refl
at_least_10 NullAbsent = refl
at_least_10 OutputTooShort = refl
at_least_10 BufferTooShort = refl
at_least_10 BudgetSpent = refl
at_least_10 LogTooShort = refl
at_least_10 LogEmpty = refl
at_least_10 BadLog = refl

pub not_zero : (r : Refusal) → refusal_number r ≡ 0 → ⊥
not_zero r z = omega (arith, leb-true 10 (refusal_number r) (at_least_10 r), z)

-- the answer that has a refusal's number
pub refused_by : {A : Type 0} (a : Result A Refusal) (r : Refusal) → number_of a ≡ refusal_number r → a ≡ Err r
refused_by (Ok n) r e = absurd (not_zero r (sym e))
refused_by (Err q) r e = ap Err (same_refusal q r e)
