-- The exported calls follow the history: with a header slice of the right length they are the library's calls. Assumes nothing.
use Prim.Native.Nat.{ℕ}
use mathlib.Core.Path.{◌≡◌, refl, sym, ap, ap₂, ◌∙◌, subst}
use mathlib.Core.Bool.{true, false≢true}
use mathlib.Core.List.{List, [], ◌∷◌, ◌++◌, map}
use lib.ListN.{length}
use Rattle.calculus.specs.Answer.{Answer}
use Rattle.std.specs.Prelude.{Ok, Err}
use Rattle.calculus.specs.Answer.{number_of, after}
use Rattle.calculus.specs.declared.refusal.Refusal.TheVariants.{LogEmpty, BadLog}
use Rattle.instance.specs.declared.header.Header.{Header}
use Rattle.calculus.specs.Row.{Row}
use Rattle.instance.specs.Sound.{rows, header_for}
use Rattle.instance.specs.Insert.{inserted, inserted_header, inserted_words}
use Rattle.instance.proofs.RowCounts.{row_counts-size}
use Rattle.undo_log.specs.Log.{fresh, logged, logged_words, logged_log, logged_used, undone, undone_words, undone_used}
use Rattle.undo_log.specs.History.{Event, answer_by, events_after, answers_by, step_answers, state_after as libraryAfter}
use Rattle.undo_log.specs.History as library
use Rattle.undo_log.proofs.History.{history-holds, never_bad, empty_if_no_fill-counts}
use Rattle.exports.specs.Words.{header_length, header_of, header_words, headed, if_headed}
use Rattle.exports.specs.Calls.{decode_answer, decode_header, decode_words, decode_used}
use Rattle.exports.specs.Calls.{log_answer, log_words, log_log, log_used, undo_answer, undo_words, undo_used, insert_answer, insert_header, insert_words}
use Rattle.exports.specs.Steps.{Seen, decodes}
use Rattle.exports.specs.Numbers.{is_done}
use Rattle.exports.specs.History.{Step, fills, undoes, inserts, State, step_answer, step_state, seen_of, steps_seen, state_after, step_of, history_seen, events_of, start, state_of, ExportedHistory, HistoryFromCard}
use Rattle.calculus.proofs.Refusals.{refused_by}
use Rattle.exports.proofs.Headed.{headed_yes, kept_yes}
use Rattle.exports.proofs.Numbers.{every_return}
use Rattle.exports.proofs.Kept.{read-sound}
use Rattle.exports.proofs.HeaderWords.{Eight, words_size, header_back, words_back, has_eight}

-- ---- one step

-- the library's state as C has it
abbrev of : library.State → State
of s = record { header = header_words s.header; words = s.words; log = s.log; used = s.used }

same :
    {header header' words words' log log' : List ℕ} {used used' : ℕ} → header ≡ header' → words ≡ words' → log ≡ log' → used ≡ used' →
    ◌≡◌ {A = State} (record { header = header; words = words; log = log; used = used }) (record { header = header'; words = words'; log = log'; used = used' })
same p q r t = rw (p, q, r, t) refl

module _ (s : library.State) (e : Eight s.header) where
  long : length (header_words s.header) ≡ header_length
  long = words_size s.header e

  -- the library's call, made with the header in the slice
  made : {A : Type 0} (call : Header → A) (old : A) → if_headed (header_words s.header) (call (header_of (header_words s.header))) old ≡ call s.header
  made call old = kept_yes (header_words s.header) long (call (header_of (header_words s.header))) old ∙ ap call (header_back s.header e)

  told : (call : Header → Answer) → headed (header_words s.header) (call (header_of (header_words s.header))) ≡ call s.header
  told call = headed_yes (header_words s.header) long (call (header_of (header_words s.header))) ∙ ap call (header_back s.header e)

  answer-is : (p : Step) → step_answer p (of s) ≡ library.step_answer (step_of p) s
  unfolding log_answer undo_answer insert_answer
  answer-is (fills m c count) = told (λ h. logged h s.words s.log s.used m c)
  answer-is (undoes count) = told (λ h. undone h s.words s.log s.used)
  answer-is (inserts r) = told (λ h. inserted h s.words r.relation r.cells)

  -- the words of the header that an insert leaves
  insert_header_lem : (r : Row) → insert_header (header_words s.header) s.words r.relation r.cells ≡ header_words (inserted_header s.header s.words r.relation r.cells)
  unfolding insert_answer insert_header inserted_header
  insert_header_lem r =
      ap₂ (λ (a : Answer) (h : Header). after a (header_words (inserted_header h s.words r.relation r.cells)) (header_words s.header))
      (told (λ h. inserted h s.words r.relation r.cells)) (header_back s.header e) ∙
      go (inserted s.header s.words r.relation r.cells) refl
    where
      go :
          (a : Answer) → inserted s.header s.words r.relation r.cells ≡ a →
          after a (header_words (inserted_header s.header s.words r.relation r.cells)) (header_words s.header) ≡ header_words (inserted_header s.header s.words r.relation r.cells)
      go (Ok k) q = refl
      go (Err k) q = rw q refl

  state_is : (p : Step) → step_state p (of s) ≡ of (library.step_state (step_of p) s)
  unfolding log_words log_log log_used undo_words undo_used insert_words
  state_is (fills m c count) =
      same refl (made (λ h. logged_words h s.words s.log s.used m c) s.words) (made (λ h. logged_log h s.words s.log s.used m c) s.log)
      (made (λ h. logged_used h s.words s.log s.used m c) s.used)
  state_is (undoes count) =
      same refl (made (λ h. undone_words h s.words s.log s.used) s.words) refl (made (λ h. undone_used h s.words s.log s.used) s.used)
  state_is (inserts r) = same (insert_header_lem r) (made (λ h. inserted_words h s.words r.relation r.cells) s.words) refl refl

  eight-kept : (p : Step) → Eight (library.step_state (step_of p) s).header
  unfolding inserted_header
  eight-kept (fills m c count) = e
  eight-kept (undoes count) = e
  eight-kept (inserts r) = go (inserted s.header s.words r.relation r.cells)
    where
      left : Answer → Header
      left a = after a (header_for s.header.relations s.header.arities (rows s.header s.words ++ r ∷ [])) s.header

      go : (a : Answer) → Eight (left a)
      go (Ok k) = record { arities = e.arities; counts = row_counts-size (rows s.header s.words ++ r ∷ []) }
      go (Err k) = e

-- ---- a list of steps

-- what C sees of a list of calls that returned these answers
zipped : List Step → List Answer → List Seen
zipped [] answers = []
zipped (p ∷ ps) [] = []
zipped (p ∷ ps) (a ∷ answers) = seen_of p a ∷ zipped ps answers

steps-are :
    (ps : List Step) (s : library.State) → Eight s.header →
    (steps_seen ps (of s) ≡ zipped ps (library.step_answers (map step_of ps) s)) ×
    ((state_after ps (of s) ≡ of (library.state_after (map step_of ps) s)) × Eight (library.state_after (map step_of ps) s).header)
unfolding steps_seen state_after step_answers libraryAfter zipped
steps-are [] s e = (refl, (refl, e))
steps-are (p ∷ ps) s e =
    let more = steps-are ps (library.step_state (step_of p) s) (eight-kept s e p) in (
      ap₂ (λ (x : Seen) (xs : List Seen). x ∷ xs) (ap (seen_of p) (answer-is s e p)) (ap (steps_seen ps) (state_is s e p) ∙ more.0),
      (ap (state_after ps) (state_is s e p) ∙ more.1.0, more.1.1),
    )

seen_by : (h : Header) (ws log : List ℕ) (ps : List Step) (es : List Event) → zipped ps (answers_by h ws log (map step_of ps) es) ≡ history_seen h ws log ps es
unfolding history_seen answers_by zipped
seen_by h ws log [] es = refl
seen_by h ws log (p ∷ ps) es = ap (λ (xs : List Seen). seen_of p (answer_by h ws log (step_of p) es) ∷ xs) (seen_by h ws log ps (events_after h ws log (step_of p) es))

pub exported_history : ExportedHistory
exported_history hs ws log ps long is_sound =
    let h = header_of hs in
    let s₀ = library.start h ws log in
    let s = library.state_after (map step_of ps) s₀ in
    let begins : start hs ws log ≡ of s₀ = ap (λ (l : List ℕ). start l ws log) (sym (words_back hs long)) in
    let steps = steps-are ps s₀ (has_eight hs long) in
    let ends : state_after ps (start hs ws log) ≡ of s = ap (state_after ps) begins ∙ steps.1.0 in
    let holds = history-holds h ws log (map step_of ps) is_sound in
    let answers : (p : Step) → step_answer p (state_after ps (start hs ws log)) ≡ library.step_answer (step_of p) s =
    λ p. ap (step_answer p) ends ∙ answer-is s steps.1.1 p
    in
    let back : state_of (state_after ps (start hs ws log)) ≡ s = ap state_of ends ∙ ap (λ (x : Header). record { header = x; words = s.words; log = s.log; used = s.used }) (header_back s.header steps.1.1) in
    let both = empty_if_no_fill-counts h ws log (map step_of ps) is_sound in
    record {
      seen = ap (steps_seen ps) begins ∙ steps.0 ∙ ap (zipped ps) holds.0 ∙ seen_by h ws log ps [];
      header = ap (λ (x : State). x.header) ends ∙ ap header_words holds.1.header;
      follows = subst (library.Follows h ws log (events_of h ws log ps)) (sym back) holds.1;
      never_bad = λ p e. never_bad h ws log (map step_of ps) (step_of p) is_sound (sym (answers p) ∙ refused_by (step_answer p (state_after ps (start hs ws log))) BadLog e);
      empty = λ count. (
        λ e. both.0 (sym (answers (undoes count)) ∙ refused_by (step_answer (undoes count) (state_after ps (start hs ws log))) LogEmpty e),
        λ e. ap number_of (answers (undoes count) ∙ both.1 e),
      );
    }

pub history_from_card : HistoryFromCard
unfolding decode_used
history_from_card card hs ws log used ps z =
    let p = read-sound card hs ws z in
    (go (decode_answer card hs ws) refl ((every_return (decodes card used) hs ws).accepted z), exported_history (decode_header card hs ws) (decode_words card hs ws) log ps p.long p.is_sound)
  where
    go : (a : Answer) → decode_answer card hs ws ≡ a → is_done a ≡ true → decode_used card hs ws used ≡ fresh
    go (Ok k) q done = ap (λ (a : Answer). after a fresh used) q
    go (Err r) q done = absurd (false≢true done)
