-- Two ways of asking, with a working list and without one. Document 02, request 4: "Show it equal to the listed way in verdict, looks and every refusal, for
-- every input that the listed way does not refuse with 45. Turned away: 45 never occurs on this way."
use Rattle.std.specs.Prelude.{ℕ, ◌≤◌, ◌≡◌, List, length}
use Rattle.calculus.specs.declared.refusal.Refusal.TheVariants.{BufferTooShort}
use Rattle.instance.specs.declared.header.Header.{Header}
use Rattle.std.specs.Prelude.{Err}
use Rattle.answer.specs.declared.way.Way.{Way}
use Rattle.answer.specs.declared.way.Way.TheVariants.{Listed, Unlisted}
use Rattle.answer.specs.Ask.{Lent, list, none, most_needed, ask, asked_buffer}

abbrev pub WaysAgree : Type 0
WaysAgree =
    (h : Header) (ws qs candidate buffer : List ℕ) (budget : ℕ) →
    (ask h ws qs candidate (list buffer) budget ≡ Err BufferTooShort → ⊥) →
    ask h ws qs candidate none budget ≡ ask h ws qs candidate (list buffer) budget

-- what is always long enough: no list, and a list that no question exceeds
abbrev pub Ample : Lent → Type 0
Ample (list buffer) = most_needed ≤ length buffer
Ample none = Unit

abbrev pub NeverShort : Type 0
NeverShort =
    (h : Header) (ws qs candidate : List ℕ) (lent : Lent) → Ample lent → (budget : ℕ) →
    ask h ws qs candidate lent budget ≡ Err BufferTooShort → ⊥

-- the same way again, with no shorter list
abbrev pub NoShorter : Lent → Lent → Type 0
NoShorter (list buffer) (list buffer') = length buffer ≤ length buffer'
NoShorter none none = Unit
NoShorter (list buffer) none = ⊥
NoShorter none (list buffer) = ⊥

-- a way of asking, beside a buffer that only the listed one uses: what it is lent, and what it leaves of the buffer
abbrev pub lent_by : Way → List ℕ → Lent
lent_by Listed buffer = list buffer
lent_by Unlisted buffer = none

abbrev pub left_by : Way → Header → (ws qs candidate buffer : List ℕ) → List ℕ
left_by Listed h ws qs candidate buffer = asked_buffer h ws qs candidate buffer
left_by Unlisted h ws qs candidate buffer = buffer
