-- The two calls for a question agree as C sees them. Assumes nothing.
use mathlib.Core.Path.{◌≡◌, refl, sym, ap}
use mathlib.Core.Bool.{Bool, true, false, cond}
use native.Mathlib.Omega.{arith}
use lib.ListN.{length}
use lib.Dec.{eqb}
use Rattle.calculus.specs.declared.refusal.Refusal.TheVariants.{Unsound, BufferTooShort}
use Rattle.calculus.specs.Refusal.{buffer_too_short}
use Rattle.answer.specs.Asked.{Asked}
use Rattle.std.specs.Prelude.{Ok, Err}
use Rattle.answer.specs.Ask.{list, none, ask}
use Rattle.answer.specs.Numbers.{asked_number, verdict_of, cost_of}
use Rattle.answer.proofs.Ways.{ways_agree, never_short}
use Rattle.exports.specs.Words.{header_length, header_of}
use Rattle.exports.specs.Calls.{ask_answer}
use Rattle.calculus.proofs.Refusals.{not_zero, same_refusal}
use Rattle.exports.specs.Ways.{ExportedWaysAgree, ExportedNeverShort}

-- the answer of a call that returned 45
short_by : (a : Asked) → asked_number a ≡ buffer_too_short → a ≡ Err BufferTooShort
short_by (Ok v) e = absurd (not_zero BufferTooShort (sym e))
short_by (Err r) e = ap Err (same_refusal r BufferTooShort e)

pub exported_ways_agree : ExportedWaysAgree
unfolding ask_answer
exported_ways_agree hs ws qs candidate buffer budget truth cost not_IsShort =
    let same = go (eqb (length hs) header_length) not_IsShort in
    record { number = ap asked_number same; verdict = ap (λ (a : Asked). verdict_of a truth) same; cost = ap (λ (a : Asked). cost_of a cost) same }
  where
    go :
        (b : Bool) → (asked_number (cond b (ask (header_of hs) ws qs candidate (list buffer) budget) (Err Unsound)) ≡ buffer_too_short → ⊥) →
        cond b (ask (header_of hs) ws qs candidate none budget) (Err Unsound) ≡ cond b (ask (header_of hs) ws qs candidate (list buffer) budget) (Err Unsound)
    go true no-45 = ways_agree (header_of hs) ws qs candidate buffer budget (λ e. no-45 (ap asked_number e))
    go false no-45 = refl

pub exported_never_short : ExportedNeverShort
unfolding ask_answer
exported_never_short hs ws qs candidate lent ample budget short = go (eqb (length hs) header_length) short
  where
    go : (b : Bool) → asked_number (cond b (ask (header_of hs) ws qs candidate lent budget) (Err Unsound)) ≡ buffer_too_short → ⊥
    go true e = never_short (header_of hs) ws qs candidate lent ample budget (short_by (ask (header_of hs) ws qs candidate lent budget) e)
    go false e = omega (arith, e)
