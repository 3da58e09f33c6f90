-- A question of too many words is refused for its length alone, so its first words get the same answer as all of them. Assumes nothing.
use Prim.Native.Nat.{ℕ, ◌*◌, ◌%◌, ◌<◌, min}
use mathlib.Core.Path.{◌≡◌, refl}
use mathlib.Core.Bool.{Bool, true, false, ◌&&◌}
use mathlib.Core.List.{List}
use native.Mathlib.Omega.{arith}
use borrow.Author.Tests.{leb-true, leb-false, lt-leb}
use lib.ListN.{length}
use lib.Dec.{leb, eqb}
use Rattle.instance.specs.declared.header.Header.{Header}
use Rattle.instance.specs.Sound.{sound}
use Rattle.query.specs.Words.{right_length, node_words, max_nodes}
use Rattle.answer.specs.Ask.{Lent, admitted, askable, ask}
use Rattle.parse.specs.Parse.{is_read}
use Rattle.parse.specs.Number.{read_number, read_numbers, numbers_of}
use Rattle.parse.proofs.Each.{each_length, each_fewer}
use Rattle.line.specs.Line.{looked_at}

module _ (h : Header) (ws candidate : List ℕ) (lent : Lent) (budget : ℕ) where
  wrong_length : (qs qs' : List ℕ) → right_length qs ≡ false → right_length qs' ≡ false → ask h ws qs candidate lent budget ≡ ask h ws qs' candidate lent budget
  unfolding ask askable admitted
  wrong_length qs qs' e e' = go (sound h ws) refl
    where
      go : (b : Bool) → sound h ws ≡ b → ask h ws qs candidate lent budget ≡ ask h ws qs' candidate lent budget
      go true s = rw (s, e, e')
      go false s = rw s

  -- more words than a question may have
  too_many : (qs : List ℕ) → max_nodes * node_words < length qs → right_length qs ≡ false
  unfolding right_length
  too_many qs l = go (leb node_words (length qs))
    where
      go : (b : Bool) → (b && leb (length qs) (max_nodes * node_words) && eqb (length qs % node_words) 0) ≡ false
      go true = rw (lt-leb (length qs) (max_nodes * node_words) l)
      go false = refl

  pub first_words_lem : (count shown : ℕ) (bs : List ℕ) → shown ≡ min count looked_at → is_read (read_numbers 4 count bs) ≡ true
      → ask h ws (numbers_of 4 shown bs) candidate lent budget ≡ ask h ws (numbers_of 4 count bs) candidate lent budget
  first_words_lem count shown bs is e = rw is (go (leb count looked_at) refl)
    where
      go : (b : Bool) → leb count looked_at ≡ b → ask h ws (numbers_of 4 (min count looked_at) bs) candidate lent budget ≡ ask h ws (numbers_of 4 count bs) candidate lent budget
      go true t =
          let same : min count looked_at ≡ count = omega (arith, leb-true count looked_at t) in
          rw same
      go false t =
          let more : looked_at < count = leb-false count looked_at t in
          let same : min count looked_at ≡ looked_at = omega arith in
          let few = each_length (read_number 4) looked_at bs (each_fewer (read_number 4) looked_at count bs (omega arith) e) in
          rw same
          (wrong_length (numbers_of 4 looked_at bs) (numbers_of 4 count bs)
          (too_many (numbers_of 4 looked_at bs) (omega arith)) (too_many (numbers_of 4 count bs) (omega (arith, each_length (read_number 4) count bs e))))
