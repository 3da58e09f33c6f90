-- What a call for a question stored if it returned 0: the definition's verdict. Assumes nothing.
use Prim.Native.Nat.{ℕ}
use mathlib.Core.Path.{◌≡◌, refl, sym, ap, ◌∙◌}
use mathlib.Core.Bool.{Bool, true, false}
use mathlib.Core.List.{List}
use lib.ListN.{length}
use lib.Dec.{eqb}
use borrow.Author.Tests.{eqb-true}
use Rattle.calculus.specs.declared.truth.Truth.{Truth}
use Rattle.calculus.specs.declared.refusal.Refusal.TheVariants.{Unsound}
use Rattle.answer.specs.Asked.{Asked}
use Rattle.answer.specs.Asked.{verdict}
use Rattle.std.specs.Prelude.{Ok, Err}
use Rattle.answer.specs.Ask.{Lent, ask}
use Rattle.answer.specs.Numbers.{asked_number}
use Rattle.answer.proofs.RerunLaws.{not_refused}
use Rattle.exports.specs.Words.{header_length, header_of}
use Rattle.exports.specs.Calls.{ask_answer}
use Rattle.calculus.proofs.Refusals.{not_zero}
use Rattle.exports.proofs.Headed.{kept_yes}

module _ (hs ws qs candidate : List ℕ) (lent : Lent) (budget : ℕ) where
  pub ask-is :
      length hs ≡ header_length →
      ask_answer hs ws qs candidate lent budget ≡ ask (header_of hs) ws qs candidate lent budget
  unfolding ask_answer
  ask-is long = kept_yes hs long (ask (header_of hs) ws qs candidate lent budget) (Err Unsound)

  -- a question that gets a verdict has a header slice of the right length
  has-length :
      (t : Truth) (n : ℕ) → ask_answer hs ws qs candidate lent budget ≡ verdict t n → length hs ≡ header_length
  unfolding ask_answer
  has-length t n e = go (eqb (length hs) header_length) refl
    where
      go : (b : Bool) → eqb (length hs) header_length ≡ b → length hs ≡ header_length
      go true is = eqb-true (length hs) header_length is
      go false is = absurd (not_refused (rw is at e))

  pub record Stored : Type 0 where
    pub long : length hs ≡ header_length
    pub truth : Truth
    pub cost : ℕ
    pub answers : ask_answer hs ws qs candidate lent budget ≡ verdict truth cost
    pub asks : ask (header_of hs) ws qs candidate lent budget ≡ verdict truth cost

  pub stored : asked_number (ask_answer hs ws qs candidate lent budget) ≡ 0 → Stored
  stored zero = go (ask_answer hs ws qs candidate lent budget) refl
    where
      go : (a : Asked) → ask_answer hs ws qs candidate lent budget ≡ a → Stored
      go (Ok v) e =
          let long = has-length v.truth v.cost e in
          record { long = long; truth = v.truth; cost = v.cost; answers = e; asks = sym (ask-is long) ∙ e }
      go (Err r) e = absurd (not_zero r (sym (ap asked_number e) ∙ zero))
