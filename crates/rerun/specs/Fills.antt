-- The fills of a run as words, logged ones and others; what they leave of instance, candidate and log; their answers as words.
use Rattle.std.specs.Prelude.{ℕ, ◌+◌, cond, List, [], ◌∷◌, ◌++◌, map, length, ltb}
use Rattle.calculus.specs.Answer.{Answer}
use Rattle.calculus.specs.Answer.{number_of, value_of, after}
use Rattle.calculus.specs.Cell.{put}
use Rattle.calculus.specs.Fill.{unlogged, into_log, entry_length, held}
use Rattle.calculus.specs.Model.{Fill, Model, answer_of, next, fill_answers}
use Rattle.calculus.specs.Overwrite.{overwrite}
use Rattle.calculus.specs.Row.{Row}
use Rattle.instance.specs.declared.header.Header.{Header}
use Rattle.instance.specs.Run.{fill_words, fill_answer}
use Rattle.instance.specs.Sound.{rows}
use Rattle.undo_log.specs.Log.{noted}
use Rattle.rerun.specs.declared.fills.Wanted.{Wanted}

-- a fill that is wanted, from its three words
abbrev pub wanted : ℕ → ℕ → ℕ → Wanted
wanted m c l = record { mark = m; cell = c; logs = ltb 0 l }

-- three words for each fill, the third 0 for one that is not logged; one or two words that are left are no fill
unfoldable pub wanted_of : List ℕ → List Wanted
wanted_of [] = []
wanted_of (m ∷ []) = []
wanted_of (m ∷ c ∷ []) = []
wanted_of (m ∷ c ∷ l ∷ ws) = wanted m c l ∷ wanted_of ws

-- "for a noted one the book is also fed the log's length and the log's words in use"
abbrev pub fed : Wanted → List ℕ → ℕ → Fill
fed w log used = record { mark = w.mark; cell = w.cell; log = cond w.logs (into_log (length log) used) unlogged }

-- the log after a fill of the rows rs that returned a, and its words in use
abbrev pub log_left : Wanted → Answer → List Row → List ℕ → ℕ → List ℕ
log_left w a rs log used = cond w.logs (after a (noted log used w.mark rs) log) log

abbrev pub used_left : Wanted → Answer → List Row → ℕ → ℕ
used_left w a rs used = cond w.logs (after a (used + entry_length (held w.mark rs)) used) used

-- ---- the calls: what the fills of a run change

pub record Filled : Type 0 where
  pub words : List ℕ
  pub candidate : List ℕ
  pub log : List ℕ
  pub used : ℕ

abbrev pub filled_with : (words candidate log : List ℕ) → (used : ℕ) → Filled
filled_with words candidate log used = record { words = words; candidate = candidate; log = log; used = used }

abbrev pub fill_told : Header → Wanted → Filled → Answer
fill_told h w s = fill_answer h (fed w s.log s.used) s.words

-- "each accepted one is made in the candidate too"
abbrev pub fill_leaves : Header → Wanted → Filled → Filled
fill_leaves h w s = record {
  words = fill_words h (fed w s.log s.used) s.words;
  candidate = after (fill_told h w s) (map (put w.mark w.cell) s.candidate) s.candidate;
  log = log_left w (fill_told h w s) (rows h s.words) s.log s.used;
  used = used_left w (fill_told h w s) (rows h s.words) s.used;
}

-- ---- the model, and the log that it is fed

pub record Account : Type 0 where
  pub model : Model
  pub log : List ℕ
  pub used : ℕ

abbrev pub account_told : Wanted → Account → Answer
account_told w a = answer_of (fed w a.log a.used) a.model

abbrev pub account_next : Wanted → Account → Account
account_next w a = record {
  model = next (fed w a.log a.used) a.model;
  log = log_left w (account_told w a) a.model.rows a.log a.used;
  used = used_left w (account_told w a) a.model.rows a.used;
}

-- the fills as the model is fed them
unfoldable pub fed_all : List Wanted → Account → List Fill
fed_all [] a = []
fed_all (w ∷ ws) a = fed w a.log a.used ∷ fed_all ws (account_next w a)

-- ---- the answers

-- the answer of a fill in three words: the refusal's number or 0, the count or 0, the words of its entry in the log or 0
abbrev pub answer_words : Wanted → Answer → List ℕ
answer_words w a = number_of a ∷ value_of a 0 ∷ cond w.logs (after a (entry_length (value_of a 0)) 0) 0 ∷ []

-- those of the calls, and those of the model
abbrev pub fills_told : Header → List Wanted → Filled → List (List ℕ)
fills_told h ws s = fill_answers (λ w t. answer_words w (fill_told h w t)) (fill_leaves h) ws s

abbrev pub accounts_told : List Wanted → Account → List (List ℕ)
accounts_told ws a = fill_answers (λ w b. answer_words w (account_told w b)) account_next ws a

unfoldable pub concatenated : List (List ℕ) → List ℕ
concatenated [] = []
concatenated (xs ∷ xss) = xs ++ concatenated xss

-- a slice with the answers at the front; its other words keep their content
abbrev pub stored : List (List ℕ) → List ℕ → List ℕ
stored answers out = overwrite (concatenated answers) out
