-- What a call answers and leaves if the header slice is as long as a header, and if it is not. Assumes nothing.
use Prim.Native.Nat.{ℕ}
use mathlib.Core.Path.{◌≡◌, sym, ap, ◌∙◌}
use mathlib.Core.List.{List}
use lib.ListN.{length}
use borrow.Author.Tests.{eq-eqb, ne_eqb}
use Rattle.calculus.specs.Answer.{Answer}
use Rattle.std.specs.Prelude.{Err}
use Rattle.calculus.specs.declared.refusal.Refusal.TheVariants.{Unsound}
use Rattle.instance.specs.declared.header.Header.{Header}
use Rattle.exports.specs.Words.{header_length, header_of, headed, if_headed}
use Rattle.calculus.specs.Answer.{number_of, value_of}
use Rattle.calculus.specs.Refusal.{unsound}

module _ (hs : List ℕ) where
  pub headed_no : (length hs ≡ header_length → ⊥) → (a : Answer) → headed hs a ≡ Err Unsound
  headed_no h a = rw (ne_eqb (length hs) header_length h)

  pub kept_no : {A : Type 0} → (length hs ≡ header_length → ⊥) → (new old : A) → if_headed hs new old ≡ old
  kept_no h new old = rw (ne_eqb (length hs) header_length h)

  module _ (long : length hs ≡ header_length) where
    pub headed_yes : (a : Answer) → headed hs a ≡ a
    headed_yes a = rw (eq-eqb (length hs) header_length long)

    pub kept_yes : {A : Type 0} → (new old : A) → if_headed hs new old ≡ new
    kept_yes new old = rw (eq-eqb (length hs) header_length long)

    -- a call that was given the header in the slice
    module _ {h : Header} (is : h ≡ header_of hs) where
      pub answered : (call : Header → Answer) {a : Answer} → a ≡ call h → a ≡ headed hs (call (header_of hs))
      answered call e = e ∙ ap call is ∙ sym (headed_yes (call (header_of hs)))

      pub left : {A : Type 0} (call : Header → A) (old : A) {x : A} → x ≡ call h → x ≡ if_headed hs (call (header_of hs)) old
      left call old e = e ∙ ap call is ∙ sym (kept_yes (call (header_of hs)) old)

-- a call that returns a number, leaves a slice of type A and stores a count: if the header slice is not as long as a header, and if it is
module _ (hs : List ℕ) {A : Type 0} (call : Header → Answer) (leaves : Header → A) (old : A) (count : ℕ) where
  abbrev pub Counted : ℕ → A → ℕ → Type 0
  Counted r x n = (r ≡ number_of (headed hs (call (header_of hs)))) × ((x ≡ if_headed hs (leaves (header_of hs)) old) × (n ≡ value_of (headed hs (call (header_of hs))) count))

  pub counted_no : {r : ℕ} → r ≡ unsound → (length hs ≡ header_length → ⊥) → Counted r old count
  counted_no is ne =
      let a = headed_no hs ne (call (header_of hs)) in
      (is ∙ sym (ap number_of a), (sym (kept_no hs ne (leaves (header_of hs)) old), sym (ap (λ (x : Answer). value_of x count) a)))

  pub counted-yes :
      length hs ≡ header_length → {h : Header} → h ≡ header_of hs → {a : Answer} {x : A} {r n : ℕ} → a ≡ call h → x ≡ leaves h → r ≡ number_of a → n ≡ value_of a count → Counted r x n
  counted-yes long is ea ex er en =
      let a = answered hs long is call ea in
      (er ∙ ap number_of a, (left hs long is leaves old ex, en ∙ ap (λ (x : Answer). value_of x count) a))
