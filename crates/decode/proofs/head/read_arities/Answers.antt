-- `decode::head::read_arities` meets its contract. The loop's invariant: the array has the arities that were read and then zeros, and the others are
-- still to be read. Assumes nothing.
use Prim.Native.Nat.{ℕ, ◌+◌, ◌≤◌, ◌<◌}
use mathlib.Core.Path.{◌≡◌, refl, sym, ap, ◌∙◌}
use mathlib.Core.List.{List}
use native.Mathlib.Omega.{arith}
use lib.ListN.{length, get_or}
use Rattle.std.specs.Prelude.{Result, Ok, Err, MatchResult}
use Rattle.std.specs.Result.{result_or}
use Rattle.std.proofs.lemmas.Result.{err_from_is_err_and}
use Rattle.calculus.specs.declared.refusal.Refusal.{Refusal}
use Rattle.calculus.specs.declared.refusal.Refusal.TheVariants.{CutShort}
use Rattle.decode.proofs.Opening.{arities-start, opening_cut, opening_bad, opening_more, opening_end}
use Rattle.decode.proofs.head.read_arities.Goals as goal
use Rattle.decode.proofs.head.read_arities.Goals.{In_ok-arity}

-- the byte at an index, or why there is none; also where that result was passed on
abbrev ByteIfAny : List ℕ → ℕ → Result ℕ Refusal → Type 0
ByteIfAny card at r =
    MatchResult r (λ byte. (at < length card) × (byte ≡ get_or card at 0) × (byte < 256)) (λ why. (length card ≤ at) × (why ≡ CutShort))

cut_as : (card : List ℕ) (at : ℕ) (r : Result ℕ Refusal) → ByteIfAny card at r → r ≡ result_or r (Err CutShort)
cut_as card at (Ok byte) h = refl
cut_as card at (Err why) h = ap Err h.1

was_cut : (card : List ℕ) (at : ℕ) (r : Result ℕ Refusal) (why : Refusal) → ByteIfAny card at r → result_or r (Err CutShort) ≡ Err why
    → (length card ≤ at) × (why ≡ CutShort)
was_cut card at (Ok byte) why h e = cc
was_cut card at (Err cut) why h e = (h.0, cc)

was_read : (card : List ℕ) (at : ℕ) (r : Result ℕ Refusal) (a : ℕ) → ByteIfAny card at r → result_or r (Err CutShort) ≡ Ok a
    → (at < length card) × (a ≡ get_or card at 0)
was_read card at (Ok byte) a h e = let same : byte ≡ a = cc in (h.0, sym same ∙ h.1)
was_read card at (Err cut) a h e = cc

pub loop-i-init : goal.loop-i-init
loop-i-init c = arities-start _ _

pub returns-in_err-arity : goal.returns-in_err-arity
returns-in_err-arity c =
    let p = err_from_is_err_and c.from_residual.result c.from_residual.ensures.1 in
    let byte = c.byte_if_any in
    let same = cut_as c.args.card.now (c.loop-i.i + 1) byte.result byte.ensures in
    let short = was_cut c.args.card.now (c.loop-i.i + 1) byte.result c.in_err-arity.field-0.0 byte.ensures (cc (same, c.in_err-arity.was)) in
    rw (p.1, p.2, short.1) (sym (opening_cut _ _ c.requires.few _ _ c.loop-i.invariant c.loop-i-test.true (omega (arith, short))))

-- the arity that was read
module _ (c : In_ok-arity) where
  read : (c.loop-i.i + 1 < length c.args.card.now) × (c.in_ok-arity.arity ≡ get_or c.args.card.now (c.loop-i.i + 1) 0)
  read =
      let byte = c.byte_if_any in
      let same = cut_as c.args.card.now (c.loop-i.i + 1) byte.result byte.ensures in
      was_read c.args.card.now (c.loop-i.i + 1) byte.result c.in_ok-arity.arity byte.ensures (cc (same, c.in_ok-arity.was))

pub returns-then-not-is_arity : goal.returns-then-not-is_arity
returns-then-not-is_arity c =
    let read = read (goal.at.returns-then-not-is_arity c).In_ok-arity in
    sym (opening_bad _ _ c.requires.few _ _ c.loop-i.invariant c.loop-i-test.true read.0 _ read.1 (sym c.is_arity.ensures ∙ c.if-not-is_arity.true))

pub loop-i-preserved : goal.loop-i-preserved
loop-i-preserved c =
    let read = read (goal.at.loop-i-preserved c).In_ok-arity in
    opening_more _ _ c.requires.few _ _ c.loop-i.invariant c.loop-i-test.true read.0 _ read.1 (sym c.is_arity.ensures ∙ c.if-not-is_arity.false)

pub returns : goal.returns
returns c = opening_end _ _ _ _ c.loop-i.invariant c.loop-i-test.false
