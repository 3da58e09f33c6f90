-- The exported calls: those that `instance`, `log`, `card` and `answer` define, with a header that is a slice of words.
use Rattle.std.specs.Prelude.{ℕ, List}
use Rattle.calculus.specs.Answer.{Answer}
use Rattle.calculus.specs.Answer.{after}
use Rattle.instance.specs.Insert.{inserted, inserted_header, inserted_words}
use Rattle.calculus.specs.Fill.{unlogged}
use Rattle.instance.specs.Substitute.{substituted, substituted_words}
use Rattle.undo_log.specs.Log.{fresh, logged, logged_words, logged_log, logged_used, undone, undone_words, undone_used}
use Rattle.instance.specs.NullCounts.{counted, counted_words}
use Rattle.card.specs.Decode.{decoded}
use Rattle.card.specs.Encode.{encoded, encoded_bytes}
use Rattle.calculus.specs.declared.refusal.Refusal.TheVariants.{Unsound}
use Rattle.answer.specs.Asked.{Asked}
use Rattle.std.specs.Prelude.{Err}
use Rattle.answer.specs.Ask.{Lent, ask, asked_buffer}
use Rattle.exports.specs.Words.{headed, if_headed, header_of, header_words}

module _ (card hs ws : List ℕ) where
  unfoldable pub decode_answer : Answer
  decode_answer = headed hs (decoded card ws).answer

  unfoldable pub decode_header : List ℕ
  unfolding decode_answer
  decode_header = after decode_answer (header_words (decoded card ws).header) hs

  unfoldable pub decode_words : List ℕ
  decode_words = if_headed hs (decoded card ws).words ws

  -- "Reading a card starts a fresh log."
  unfoldable pub decode_used : ℕ → ℕ
  unfolding decode_answer
  decode_used used = after decode_answer fresh used

module _ (hs ws : List ℕ) (relation : ℕ) (cells : List ℕ) where
  unfoldable pub insert_answer : Answer
  insert_answer = headed hs (inserted (header_of hs) ws relation cells)

  unfoldable pub insert_header : List ℕ
  unfolding insert_answer
  insert_header = after insert_answer (header_words (inserted_header (header_of hs) ws relation cells)) hs

  unfoldable pub insert_words : List ℕ
  insert_words = if_headed hs (inserted_words (header_of hs) ws relation cells) ws

module _ (hs ws : List ℕ) (mark cell : ℕ) where
  unfoldable pub substitute_answer : Answer
  substitute_answer = headed hs (substituted (header_of hs) ws unlogged mark cell)

  unfoldable pub substitute_words : List ℕ
  substitute_words = if_headed hs (substituted_words (header_of hs) ws unlogged mark cell) ws

-- the log's words in use are a number that the caller lends
module _ (hs ws log : List ℕ) (used mark cell : ℕ) where
  unfoldable pub log_answer : Answer
  log_answer = headed hs (logged (header_of hs) ws log used mark cell)

  unfoldable pub log_words : List ℕ
  log_words = if_headed hs (logged_words (header_of hs) ws log used mark cell) ws

  unfoldable pub log_log : List ℕ
  log_log = if_headed hs (logged_log (header_of hs) ws log used mark cell) log

  unfoldable pub log_used : ℕ
  log_used = if_headed hs (logged_used (header_of hs) ws log used mark cell) used

module _ (hs ws log : List ℕ) (used : ℕ) where
  unfoldable pub undo_answer : Answer
  undo_answer = headed hs (undone (header_of hs) ws log used)

  unfoldable pub undo_words : List ℕ
  undo_words = if_headed hs (undone_words (header_of hs) ws log used) ws

  unfoldable pub undo_used : ℕ
  undo_used = if_headed hs (undone_used (header_of hs) ws log used) used

module _ (hs ws out : List ℕ) where
  unfoldable pub counts_answer : Answer
  counts_answer = headed hs (counted (header_of hs) ws out)

  unfoldable pub counts_words : List ℕ
  counts_words = if_headed hs (counted_words (header_of hs) ws out) out

  unfoldable pub encode_answer : Answer
  encode_answer = headed hs (encoded (header_of hs) ws out)

  unfoldable pub encode_bytes : List ℕ
  encode_bytes = if_headed hs (encoded_bytes (header_of hs) ws out) out

-- by `plotask_ask` if a list is lent, by `plotask_ask_unlisted` if none is
module _ (hs ws qs candidate : List ℕ) where
  unfoldable pub ask_answer : Lent → ℕ → Asked
  ask_answer lent budget = if_headed hs (ask (header_of hs) ws qs candidate lent budget) (Err Unsound)

  unfoldable pub ask_buffer : List ℕ → List ℕ
  ask_buffer buffer = if_headed hs (asked_buffer (header_of hs) ws qs candidate buffer) buffer
