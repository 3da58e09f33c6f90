-- The numbers that the exported calls return: the library's, and 41 if the header slice is not as long as a header. 0
-- means that the call was accepted.
use Rattle.std.specs.Prelude.{ℕ, ◌≡◌, Bool, true, false, List, [], ◌∷◌, length}
use Rattle.calculus.specs.Answer.{Answer}
use Rattle.std.specs.Prelude.{Ok, Err}
use Rattle.calculus.specs.Refusal.{unsound, budget_spent}
use Rattle.calls.specs.Numbers.{insert_numbers, fill_numbers, log_numbers, undo_numbers, write_numbers, read_numbers, asked_numbers}
use Rattle.instance.specs.declared.header.Header.{Header}
use Rattle.instance.specs.Header.{max_relations}
use Rattle.answer.specs.Ask.{Lent, list, none}
use Rattle.calls.specs.Calls as library
use Rattle.exports.specs.Words.{header_length, header_words}
use Rattle.exports.specs.Calls.{counts_words, encode_bytes, ask_buffer, log_log, log_used, undo_used, decode_used}
use Rattle.exports.specs.Steps.{Job, asks, counts, encodes, inserts, substitutes, logs, undoes, decodes, answer_on, number_on, header_left, words_left}
use Rattle.calculus.specs.Listed.{listed}

abbrev pub numbers_of : Job → List ℕ
numbers_of (asks qs candidate lent budget) = asked_numbers lent
numbers_of (counts out) = write_numbers
numbers_of (encodes out) = write_numbers
numbers_of (inserts relation cells) = insert_numbers
numbers_of (substitutes m c) = fill_numbers
numbers_of (logs log used m c) = log_numbers
numbers_of (undoes log used) = undo_numbers
numbers_of (decodes card used) = unsound ∷ read_numbers

abbrev pub is_done : Answer → Bool
is_done (Ok n) = true
is_done (Err r) = false

-- the words of a list that is lent, and what a question leaves of them
abbrev pub list_given : Lent → List ℕ
list_given (list buffer) = buffer
list_given none = []

abbrev pub list_left : (hs ws qs candidate : List ℕ) → Lent → List ℕ
list_left hs ws qs candidate (list buffer) = ask_buffer hs ws qs candidate buffer
list_left hs ws qs candidate none = []

-- what else a call is lent, before the call and after it: the words of the census, the bytes of the card, the working list, the log
abbrev pub out_given : Job → List ℕ
out_given (asks qs candidate lent budget) = list_given lent
out_given (counts out) = out
out_given (encodes out) = out
out_given (inserts relation cells) = []
out_given (substitutes m c) = []
out_given (logs log used m c) = log
out_given (undoes log used) = log
out_given (decodes card used) = []

abbrev pub out_left : Job → List ℕ → List ℕ → List ℕ
out_left (asks qs candidate lent budget) hs ws = list_left hs ws qs candidate lent
out_left (counts out) hs ws = counts_words hs ws out
out_left (encodes out) hs ws = encode_bytes hs ws out
out_left (inserts relation cells) hs ws = []
out_left (substitutes m c) hs ws = []
out_left (logs log used m c) hs ws = log_log hs ws log used m c
out_left (undoes log used) hs ws = log
out_left (decodes card used) hs ws = []

-- the log's words in use, before the call and after it; 0 for a call that is not lent them
abbrev pub used_given : Job → ℕ
used_given (asks qs candidate lent budget) = 0
used_given (counts out) = 0
used_given (encodes out) = 0
used_given (inserts relation cells) = 0
used_given (substitutes m c) = 0
used_given (logs log used m c) = used
used_given (undoes log used) = used
used_given (decodes card used) = used

abbrev pub used_left : Job → List ℕ → List ℕ → ℕ
used_left (asks qs candidate lent budget) hs ws = 0
used_left (counts out) hs ws = 0
used_left (encodes out) hs ws = 0
used_left (inserts relation cells) hs ws = 0
used_left (substitutes m c) hs ws = 0
used_left (logs log used m c) hs ws = log_used hs ws log used m c
used_left (undoes log used) hs ws = undo_used hs ws log used
used_left (decodes card used) hs ws = decode_used card hs ws used

-- 0 or a number of the call's table; 0 only if it is accepted; "A refused call changes nothing it was lent but the working list under 46"
pub record Returns (j : Job) (hs ws : List ℕ) : Type 0 where
  pub tabled : listed (number_on j hs ws) (0 ∷ numbers_of j) ≡ true
  pub accepted : number_on j hs ws ≡ 0 → is_done (answer_on j hs ws) ≡ true
  pub refused : (number_on j hs ws ≡ 0 → ⊥) → (header_left j hs ws ≡ hs) × (words_left j hs ws ≡ ws)
  pub used : (number_on j hs ws ≡ 0 → ⊥) → used_left j hs ws ≡ used_given j
  pub out : (number_on j hs ws ≡ 0 → ⊥) → (number_on j hs ws ≡ budget_spent → ⊥) → out_left j hs ws ≡ out_given j

abbrev pub EveryReturn : Type 0
EveryReturn = (j : Job) (hs ws : List ℕ) → Returns j hs ws

-- the library's call with a header
abbrev pub call_of : Job → Header → library.Call
call_of (asks qs candidate lent budget) h = library.asks h qs candidate lent budget
call_of (counts out) h = library.counts h out
call_of (encodes out) h = library.encodes h out
call_of (inserts relation cells) h = library.inserts h relation cells
call_of (substitutes m c) h = library.substitutes h m c
call_of (logs log used m c) h = library.logs h log used m c
call_of (undoes log used) h = library.undoes h log used
call_of (decodes card used) h = library.decodes card

-- Every number of a call's table is returned for some input: with a header's words in the slice a call returns the
-- number of the library's call, and `calls/specs/Occur.antt` has an input for each; decode's 41 is that of a slice of
-- another length.
pub record Occurs : Type 0 where
  pub returns :
      (j : Job) (h : Header) (ws : List ℕ) → length h.arities ≡ max_relations → length h.counts ≡ max_relations →
      number_on j (header_words h) ws ≡ library.number (call_of j h) ws
  pub decode :
      (card hs ws : List ℕ) (used : ℕ) → (length hs ≡ header_length → ⊥) → number_on (decodes card used) hs ws ≡ unsound
