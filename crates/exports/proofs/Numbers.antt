-- What the exported calls return: 0 means accepted; with any other number nothing that was lent is written, except the working list under 46. Assumes
-- nothing.
use Prim.Native.Nat.{ℕ}
use mathlib.Core.Path.{◌≡◌, refl, sym, ap, ◌∙◌}
use mathlib.Core.Bool.{Bool, true, false, cond}
use mathlib.Core.List.{List, [], ◌∷◌}
use lib.ListN.{length}
use lib.Dec.{eqb}
use Rattle.calculus.specs.Answer.{Answer}
use Rattle.std.specs.Prelude.{Ok, Err}
use Rattle.calculus.specs.Answer.{number_of, after}
use Rattle.calculus.proofs.Answers.{number-kept}
use Rattle.calculus.specs.declared.refusal.Refusal.TheVariants.{Unsound}
use Rattle.calculus.specs.Refusal.{refusal_number, unsound, budget_spent}
use Rattle.calculus.specs.declared.refusal.Refusal.{Refusal}
use Rattle.calculus.specs.Model.{outcome_of}
use Rattle.instance.specs.NullCounts.{counted, counted_words}
use Rattle.undo_log.specs.Log.{logged, logged_log, logged_used, undone, undone_used}
use Rattle.instance.specs.Run.{model_of}
use Rattle.card.specs.Encode.{encoded, encoded_bytes}
use Rattle.query.specs.Named.{query_of}
use Rattle.evaluate.specs.declared.evaluated.Evaluated.{Evaluated}
use Rattle.evaluate.specs.declared.evaluated.Evaluated.TheVariants as evaluated
use Rattle.evaluate.specs.Within.{within}
use Rattle.answer.specs.Ask.{answered_by, Lent, list, none, askable, ask, asked_buffer}
use Rattle.answer.specs.Numbers.{asked_as}
use Rattle.calls.specs.Calls.{Call, answer_to, leaves}
use Rattle.calls.specs.Calls as library
use Rattle.calls.specs.Numbers.{insert_numbers, fill_numbers, log_numbers, undo_numbers, write_numbers, read_numbers, asked_numbers, numbers}
use Rattle.calls.proofs.Numbers.{every_number}
use Rattle.calls.proofs.Between.{refused_writes_none}
use Rattle.instance.specs.declared.header.Header.{Header}
use Rattle.exports.specs.Words.{header_length, header_of, header_words, headed, if_headed}
use Rattle.exports.specs.Calls.{decode_answer, decode_header, decode_words, insert_answer, insert_header, insert_words}
use Rattle.exports.specs.Calls.{substitute_answer, substitute_words, log_answer, log_words, log_log, log_used, undo_answer, undo_words, undo_used, decode_used}
use Rattle.exports.specs.Calls.{counts_answer, counts_words, encode_answer, encode_bytes, ask_answer, ask_buffer}
use Rattle.exports.specs.Steps.{Job, asks, counts, encodes, inserts, substitutes, logs, undoes, decodes, answer_on, number_on, header_left, words_left}
use Rattle.exports.specs.Numbers.{numbers_of, is_done, list_given, list_left, out_given, out_left, used_given, used_left, EveryReturn, call_of, Occurs}
use Rattle.calculus.proofs.Refusals.{not_zero}
use Rattle.exports.proofs.Headed.{headed_no, headed_yes}
use Rattle.exports.proofs.HeaderWords.{Eight, words_size, header_back}
use Rattle.calculus.specs.Demand.{demand}
use Rattle.calculus.specs.Listed.{listed}
use Rattle.calculus.proofs.Listed.{listed-right}

-- a refusal has one of these numbers
AllKnown : List ℕ → Answer → Type 0
AllKnown ns a = (r : Refusal) → a ≡ Err r → listed (refusal_number r) ns ≡ true

-- the library's call, which is made if the header slice has the right length
known : (c : Call) (hs ws ns : List ℕ) → listed unsound ns ≡ true → ((r : ℕ) → listed r (numbers c) ≡ true → listed r ns ≡ true) → AllKnown ns (headed hs (answer_to c ws))
unfolding AllKnown
known c hs ws ns first more r = go (eqb (length hs) header_length)
  where
    go : (b : Bool) → demand b (Err Unsound) (answer_to c ws) ≡ Err r → listed (refusal_number r) ns ≡ true
    go true e = more (refusal_number r) (every_number c ws r e).tabled
    go false e = let q : Unsound ≡ r = cc in rw (← q) first

asked-known : (hs ws qs candidate : List ℕ) (lent : Lent) (budget : ℕ) → asked_as (ask_answer hs ws qs candidate lent budget) ≡ headed hs (asked_as (ask (header_of hs) ws qs candidate lent budget))
unfolding ask_answer
asked-known hs ws qs candidate lent budget = go (eqb (length hs) header_length)
  where
    go : (b : Bool) → asked_as (cond b (ask (header_of hs) ws qs candidate lent budget) (Err Unsound)) ≡ demand b (Err Unsound) (asked_as (ask (header_of hs) ws qs candidate lent budget))
    go true = refl
    go false = refl

unsound-asked : (lent : Lent) → listed unsound (asked_numbers lent) ≡ true
unfolding listed
unsound-asked (list buffer) = refl
unsound-asked none = refl

all_known : (j : Job) (hs ws : List ℕ) → AllKnown (numbers_of j) (answer_on j hs ws)
unfolding counts_answer encode_answer insert_answer substitute_answer log_answer undo_answer decode_answer AllKnown listed
all_known (asks qs candidate lent budget) hs ws =
    λ r e. known (library.asks (header_of hs) qs candidate lent budget) hs ws (asked_numbers lent) (unsound-asked lent) (λ r e. e) r (sym (asked-known hs ws qs candidate lent budget) ∙ e)
all_known (counts out) hs ws = known (library.counts (header_of hs) out) hs ws write_numbers refl (λ r e. e)
all_known (encodes out) hs ws = known (library.encodes (header_of hs) out) hs ws write_numbers refl (λ r e. e)
all_known (inserts relation cells) hs ws = known (library.inserts (header_of hs) relation cells) hs ws insert_numbers refl (λ r e. e)
all_known (substitutes m c) hs ws = known (library.substitutes (header_of hs) m c) hs ws fill_numbers refl (λ r e. e)
all_known (logs log used m c) hs ws = known (library.logs (header_of hs) log used m c) hs ws log_numbers refl (λ r e. e)
all_known (undoes log used) hs ws = known (library.undoes (header_of hs) log used) hs ws undo_numbers refl (λ r e. e)
all_known (decodes card used) hs ws = known (library.decodes card) hs ws (unsound ∷ read_numbers) refl (λ r e. listed-right r (unsound ∷ []) read_numbers e)

-- ---- what a refused call leaves

words-kept : (c : Call) (hs ws : List ℕ) → (number_of (headed hs (answer_to c ws)) ≡ 0 → ⊥) → if_headed hs (leaves c ws) ws ≡ ws
words-kept c hs ws = go (eqb (length hs) header_length)
  where
    go : (b : Bool) → (number_of (demand b (Err Unsound) (answer_to c ws)) ≡ 0 → ⊥) → cond b (leaves c ws) ws ≡ ws
    go true some = refused_writes_none c ws some
    go false some = refl

all-kept : (j : Job) (hs ws : List ℕ) → (number_on j hs ws ≡ 0 → ⊥) → (header_left j hs ws ≡ hs) × (words_left j hs ws ≡ ws)
unfolding insert_answer insert_header insert_words substitute_answer substitute_words log_answer log_words undo_answer undo_words decode_answer decode_header decode_words
all-kept (asks qs candidate lent budget) hs ws some = (refl, refl)
all-kept (counts out) hs ws some = (refl, refl)
all-kept (encodes out) hs ws some = (refl, refl)
all-kept (inserts relation cells) hs ws some =
    (number-kept (insert_answer hs ws relation cells) _ hs some, words-kept (library.inserts (header_of hs) relation cells) hs ws some)
all-kept (substitutes m c) hs ws some = (refl, words-kept (library.substitutes (header_of hs) m c) hs ws some)
all-kept (logs log used m c) hs ws some = (refl, words-kept (library.logs (header_of hs) log used m c) hs ws some)
all-kept (undoes log used) hs ws some = (refl, words-kept (library.undoes (header_of hs) log used) hs ws some)
all-kept (decodes card used) hs ws some = (number-kept (decode_answer card hs ws) _ hs some, words-kept (library.decodes card) hs ws some)

-- the output of a refused call
out-kept : {A : Type 0} (hs : List ℕ) (a : Answer) (new old : A) → (number_of (headed hs a) ≡ 0 → ⊥) → if_headed hs (after a new old) old ≡ old
out-kept hs a new old = go (eqb (length hs) header_length)
  where
    go : (b : Bool) → (number_of (demand b (Err Unsound) a) ≡ 0 → ⊥) → cond b (after a new old) old ≡ old
    go true some = number-kept a new old some
    go false some = refl

-- the working list changes only after a verdict and after 46
buffer-kept :
    (hs ws qs candidate buffer : List ℕ) (budget : ℕ) → (number_of (asked_as (ask_answer hs ws qs candidate (list buffer) budget)) ≡ 0 → ⊥) →
    (number_of (asked_as (ask_answer hs ws qs candidate (list buffer) budget)) ≡ budget_spent → ⊥) → ask_buffer hs ws qs candidate buffer ≡ buffer
unfolding ask_answer ask_buffer ask asked_buffer
buffer-kept hs ws qs candidate buffer budget =
    go (eqb (length hs) header_length) (askable (header_of hs) ws qs candidate (list buffer)) (within budget (outcome_of (model_of (header_of hs) ws candidate) (query_of (header_of hs).arities qs))) _
  where
    go :
        (b : Bool) (a : Answer) (e : Evaluated) (new : List ℕ) → (number_of (asked_as (cond b (answered_by a e) (Err Unsound))) ≡ 0 → ⊥) →
        (number_of (asked_as (cond b (answered_by a e) (Err Unsound))) ≡ budget_spent → ⊥) → cond b (after a new buffer) buffer ≡ buffer
    go false a e new some other = refl
    go true (Err r) e new some other = refl
    go true (Ok n) (evaluated.Verdict t k) new some other = absurd (some refl)
    go true (Ok n) evaluated.Spent new some other = absurd (other refl)

list-kept :
    (hs ws qs candidate : List ℕ) (lent : Lent) (budget : ℕ) → (number_of (asked_as (ask_answer hs ws qs candidate lent budget)) ≡ 0 → ⊥) →
    (number_of (asked_as (ask_answer hs ws qs candidate lent budget)) ≡ budget_spent → ⊥) → list_left hs ws qs candidate lent ≡ list_given lent
list-kept hs ws qs candidate (list buffer) budget some other = buffer-kept hs ws qs candidate buffer budget some other
list-kept hs ws qs candidate none budget some other = refl

all-out : (j : Job) (hs ws : List ℕ) → (number_on j hs ws ≡ 0 → ⊥) → (number_on j hs ws ≡ budget_spent → ⊥) → out_left j hs ws ≡ out_given j
unfolding counts_answer counts_words encode_answer encode_bytes counted_words encoded_bytes log_answer log_log logged_log
all-out (asks qs candidate lent budget) hs ws some other = list-kept hs ws qs candidate lent budget some other
all-out (counts out) hs ws some other = out-kept hs (counted (header_of hs) ws out) _ out some
all-out (encodes out) hs ws some other = out-kept hs (encoded (header_of hs) ws out) _ out some
all-out (inserts relation cells) hs ws some other = refl
all-out (substitutes m c) hs ws some other = refl
all-out (logs log used m c) hs ws some other = out-kept hs (logged (header_of hs) ws log used m c) _ log some
all-out (undoes log used) hs ws some other = refl
all-out (decodes card used) hs ws some other = refl

all_used : (j : Job) (hs ws : List ℕ) → (number_on j hs ws ≡ 0 → ⊥) → used_left j hs ws ≡ used_given j
unfolding log_answer log_used logged_used undo_answer undo_used undone_used decode_answer decode_used
all_used (asks qs candidate lent budget) hs ws some = refl
all_used (counts out) hs ws some = refl
all_used (encodes out) hs ws some = refl
all_used (inserts relation cells) hs ws some = refl
all_used (substitutes m c) hs ws some = refl
all_used (logs log used m c) hs ws some = out-kept hs (logged (header_of hs) ws log used m c) _ used some
all_used (undoes log used) hs ws some = out-kept hs (undone (header_of hs) ws log used) _ used some
all_used (decodes card used) hs ws some = number-kept (decode_answer card hs ws) _ used some

-- ---- what C sees

tabled-is : (ns : List ℕ) (a : Answer) → AllKnown ns a → listed (number_of a) (0 ∷ ns) ≡ true
unfolding AllKnown listed
tabled-is ns (Ok n) t = refl
tabled-is ns (Err r) t = listed-right (refusal_number r) (0 ∷ []) ns (t r refl)

accepted-is : (a : Answer) → number_of a ≡ 0 → is_done a ≡ true
accepted-is (Ok n) e = refl
accepted-is (Err r) e = absurd (not_zero r e)

pub every_return : EveryReturn
every_return j hs ws =
    let a = answer_on j hs ws in
    let t = all_known j hs ws in
    record {
      tabled = tabled-is (numbers_of j) a t;
      accepted = accepted-is a;
      refused = all-kept j hs ws;
      used = all_used j hs ws;
      out = all-out j hs ws;
    }

-- ---- which numbers occur

headed_library : (j : Job) (hs ws : List ℕ) → answer_on j hs ws ≡ headed hs (answer_to (call_of j (header_of hs)) ws)
unfolding counts_answer encode_answer insert_answer substitute_answer log_answer undo_answer decode_answer
headed_library (asks qs candidate lent budget) hs ws = asked-known hs ws qs candidate lent budget
headed_library (counts out) hs ws = refl
headed_library (encodes out) hs ws = refl
headed_library (inserts relation cells) hs ws = refl
headed_library (substitutes m c) hs ws = refl
headed_library (logs log used m c) hs ws = refl
headed_library (undoes log used) hs ws = refl
headed_library (decodes card used) hs ws = refl

pub occurs : Occurs
occurs = record {
  returns = λ j h ws arities counts.
      let eight : Eight h = record { arities = arities; counts = counts } in
      ap number_of
      (headed_library j (header_words h) ws ∙ headed_yes (header_words h) (words_size h eight) _ ∙
      ap (λ (x : Header). answer_to (call_of j x) ws) (header_back h eight));
  decode = λ card hs ws used ne. ap number_of (headed_library (decodes card used) hs ws ∙ headed_no hs ne _);
}
