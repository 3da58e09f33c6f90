-- Demand 2 for the exported calls, as C sees it: a card that `plotask_encode` wrote, read by `plotask_decode`. Document
-- 01: "A card with blanks, read, written and read again, gives the plot of its first reading."
use Rattle.std.specs.Prelude.{ℕ, ◌≤◌, ◌≡◌, List, ◌++◌, length, take, drop}
use Rattle.calculus.specs.Answer.{number_of, value_of}
use Rattle.undo_log.specs.Log.{fresh}
use Rattle.exports.specs.Words.{header_length, header_of}
use Rattle.exports.specs.Calls.{decode_answer, decode_header, decode_words, decode_used, encode_answer, encode_bytes}

-- the card that a call of encode wrote: as many bytes as `count` says after it
abbrev pub written : List ℕ → List ℕ → List ℕ → ℕ → List ℕ
written hs ws out count = take (value_of (encode_answer hs ws out) count) (encode_bytes hs ws out)

-- A card of the plot hs, ws is read over any words of a header and any slice that has room: the header's words and the
-- plot's words in use are the same, the words after them stay, and the log is fresh.
pub record ReadBack (hs ws card hs' ws' : List ℕ) (used' : ℕ) : Type 0 where
  pub number : number_of (decode_answer card hs' ws') ≡ 0
  pub header : decode_header card hs' ws' ≡ hs
  pub words : decode_words card hs' ws' ≡ take (header_of hs).used ws ++ drop (header_of hs).used ws'
  pub used : decode_used card hs' ws' used' ≡ fresh

-- every plot, sound or not, that encode returned 0 for
abbrev pub ExportedReadBack : Type 0
ExportedReadBack =
    (hs ws out hs' ws' : List ℕ) (count used' : ℕ) → number_of (encode_answer hs ws out) ≡ 0 →
    length hs' ≡ header_length → (header_of hs).used ≤ length ws' → ReadBack hs ws (written hs ws out count) hs' ws' used'

-- What a first reading, over hs and ws, left, and the card that is written of it.
module _ (card hs ws out : List ℕ) (count : ℕ) where
  abbrev pub first_header : List ℕ
  first_header = decode_header card hs ws

  abbrev pub first_words : List ℕ
  first_words = decode_words card hs ws

  abbrev pub written_again : List ℕ
  written_again = written first_header first_words out count

  -- that card is read over any words of a header and any slice that has room; and over hs and ws as they were before
  -- the first reading, which gives the very words that it left
  pub record ReadAgain : Type 0 where
    pub anywhere :
        (hs' ws' : List ℕ) (used' : ℕ) → length hs' ≡ header_length → (header_of first_header).used ≤ length ws' →
        ReadBack first_header first_words written_again hs' ws' used'
    pub header : decode_header written_again hs ws ≡ first_header
    pub words : decode_words written_again hs ws ≡ first_words

-- every card, blanks or not, that decode returned 0 for, if encode returned 0 for what it left
abbrev pub ExportedReadAgain : Type 0
ExportedReadAgain =
    (card hs ws out : List ℕ) (count : ℕ) → number_of (decode_answer card hs ws) ≡ 0 →
    number_of (encode_answer (decode_header card hs ws) (decode_words card hs ws) out) ≡ 0 → ReadAgain card hs ws out count
