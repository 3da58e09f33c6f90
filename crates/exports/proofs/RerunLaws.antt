-- Demand 3 holds for the exported calls: with a header slice of the right length they are the library's, and with any other no question gets a verdict. Assumes
-- nothing.
use Prim.Native.Nat.{ℕ}
use mathlib.Core.Path.{◌≡◌, refl, sym, ap, ◌∙◌}
use mathlib.Core.List.{List, [], ◌∷◌}
use native.Mathlib.Omega.{arith}
use lib.ListN.{length}
use Rattle.calculus.specs.declared.truth.Truth.{Truth}
use Rattle.calculus.specs.declared.truth.Truth.TheVariants.{Unknown}
use Rattle.calculus.specs.Kleene.{rank}
use Rattle.calculus.specs.Order.{◌⊑◌, unknown, alike}
use Rattle.calculus.specs.Model.{Model, next, after_fills}
use Rattle.instance.specs.Run.{fill_answer, fill_words, filled_words}
use Rattle.instance.proofs.Run.{Follows, follows-answer, follows_next}
use Rattle.answer.specs.Asked.{Asked}
use Rattle.answer.specs.Numbers.{asked_number, verdict_of, cost_of}
use Rattle.answer.proofs.RerunLaws.{verdict-asked, demand_three}
use Rattle.exports.specs.Words.{header_length, header_of}
use Rattle.exports.specs.Calls.{substitute_answer, substitute_words, log_answer, log_words, ask_answer}
use Rattle.exports.specs.Steps.{Instance, answer_on, words_left, Making, plainly, with_log, fill_of, fill_job, Step, fills, calls, instance_after, WriteNoWord, fills_among, fills_seen, model_seen}
use Rattle.exports.specs.Rerun.{start, model_after, ExportedDemandThree}
use Rattle.exports.proofs.Headed.{headed_yes, kept_yes}
use Rattle.exports.proofs.Stored.{ask-is, stored}

module _ (hs : List ℕ) (long : length hs ≡ header_length) where
  -- a fill by the exported call is a fill by the library's call
  fill_words_lem : (k : Making) (m c : ℕ) (ws : List ℕ) → words_left (fill_job k m c) hs ws ≡ fill_words (header_of hs) (fill_of k m c) ws
  unfolding substitute_words log_words
  fill_words_lem plainly m c ws = kept_yes hs long (fill_words (header_of hs) (fill_of plainly m c) ws) ws
  fill_words_lem (with_log log used) m c ws = kept_yes hs long (fill_words (header_of hs) (fill_of (with_log log used) m c) ws) ws

  fill_answer_lem : (k : Making) (m c : ℕ) (ws : List ℕ) → answer_on (fill_job k m c) hs ws ≡ fill_answer (header_of hs) (fill_of k m c) ws
  unfolding substitute_answer log_answer
  fill_answer_lem plainly m c ws = headed_yes hs long (fill_answer (header_of hs) (fill_of plainly m c) ws)
  fill_answer_lem (with_log log used) m c ws = headed_yes hs long (fill_answer (header_of hs) (fill_of (with_log log used) m c) ws)

  abbrev of : List ℕ → Instance
  of ws = record { header = hs; words = ws }

  -- the steps leave what the fills among them leave
  instance_after_lem : (ss : List Step) (ws : List ℕ) → WriteNoWord ss (of ws) → instance_after ss (of ws) ≡ of (filled_words (header_of hs) (fills_among ss) ws)
  unfolding instance_after WriteNoWord fills_among after_fills
  instance_after_lem [] ws q = refl
  instance_after_lem (fills k m c count ∷ ss) ws q =
      let e = fill_words_lem k m c ws in
      ap (λ (x : List ℕ). instance_after ss (of x)) e ∙ instance_after_lem ss (fill_words (header_of hs) (fill_of k m c) ws) (rw e at q)
  instance_after_lem (calls c ∷ ss) ws q = ap (instance_after ss) q.0 ∙ instance_after_lem ss ws (rw q.0 at q.1)

  -- C sees of the fills what the model answers
  fills_seen_lem : (ss : List Step) (first ws : List ℕ) (b : Model) → Follows (header_of hs) first ws b → WriteNoWord ss (of ws) → fills_seen ss (of ws) ≡ model_seen ss b
  unfolding fills_seen WriteNoWord model_seen
  fills_seen_lem [] first ws b g q = refl
  fills_seen_lem (fills k m c count ∷ ss) first ws b g q =
      let f = fill_of k m c in
      let e = fill_words_lem k m c ws in
      let more = fills_seen_lem ss first (fill_words (header_of hs) f ws) (next f b) (follows_next (header_of hs) first f ws b g) (rw e at q) in
      rw (fill_answer_lem k m c ws, follows-answer (header_of hs) first f ws b g, e, more) refl
  fills_seen_lem (calls c ∷ ss) first ws b g q = ap (fills_seen ss) q.0 ∙ fills_seen_lem ss first ws b g (rw q.0 at q.1)

-- a verdict that is kept, as its number
rank-kept : {t u : Truth} → t ⊑ u → (rank t ≡ rank Unknown → ⊥) → rank u ≡ rank t
rank-kept unknown some = absurd (some refl)
rank-kept alike some = refl

pub exported_demand_three : ExportedDemandThree
exported_demand_three p qs candidate lent budget ss lent' budget' truth cost truth' cost' quiet longer larger zero =
    let hs = p.header in
    let ws = p.words in
    let s = stored hs ws qs candidate lent budget zero in
    let e = s.answers in
    let d =
    demand_three (header_of hs) ws qs candidate lent budget (fills_among ss) lent' budget' longer larger s.truth s.cost
    s.asks
    in
    let sound = (verdict-asked (header_of hs) ws qs candidate lent budget s.truth s.cost s.asks).0.is_sound in
    let left = instance_after_lem hs s.long ss ws quiet in
    let b =
    ap (λ (x : Instance). ask_answer x.header x.words qs (model_after p candidate ss).candidate lent' budget') left ∙
    ask-is hs (filled_words (header_of hs) (fills_among ss) ws) qs (model_after p candidate ss).candidate lent' budget' s.long ∙ d.answers
    in
    record {
      answered = fills_seen_lem hs s.long ss ws ws (start p candidate) (record { is_sound = sound; holds = refl; long = refl; others = refl }) quiet;
      header = ap (λ (x : Instance). x.header) left;
      words = ap (λ (x : Instance). x.words) left ∙ d.ran.words;
      number = ap asked_number b;
      kept =
          λ some. ap (λ (x : Asked). verdict_of x truth') b ∙
          rank-kept d.kept (λ z. some (ap (λ (x : Asked). verdict_of x truth) e ∙ z)) ∙
          sym (ap (λ (x : Asked). verdict_of x truth) e);
      no_more = omega (arith, ap (λ (x : Asked). cost_of x cost') b, ap (λ (x : Asked). cost_of x cost) e, d.no_more);
      two_valued = λ q. ap (λ (x : Asked). verdict_of x truth') b ∙ ap rank (d.two_valued q);
    }
