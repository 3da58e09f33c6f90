-- No exported call makes a sound plot unsound, and an accepted decode leaves a sound one. Assumes nothing.
use Prim.Native.Nat.{ℕ}
use mathlib.Core.Path.{◌≡◌, refl, sym, ap, ◌∙◌}
use mathlib.Core.Bool.{true, false≢true}
use mathlib.Core.List.{List}
use borrow.Author.Tests.{eqb-true}
use lib.Dec.{eqb}
use lib.ListN.{length}
use Rattle.calculus.specs.Answer.{Answer}
use Rattle.std.specs.Prelude.{Ok, Err}
use Rattle.calculus.specs.Answer.{number_of, after}
use Rattle.calculus.specs.Fill.{Logging, unlogged, into_log}
use Rattle.calculus.specs.declared.refusal.Refusal.TheVariants.{Unsound}
use Rattle.calculus.proofs.Answers.{demand_done}
use Rattle.instance.specs.declared.header.Header.{Header}
use Rattle.instance.specs.Header.{max_relations}
use Rattle.instance.specs.Sound.{sound, rows}
use Rattle.instance.specs.Insert.{inserted_header, inserted_words}
use Rattle.instance.specs.Substitute.{substituted, substituted_words}
use Rattle.instance.proofs.Kept.{insert_kept, substitute-kept}
use Rattle.instance.proofs.RowCounts.{row_counts-size}
use Rattle.instance.proofs.Sound.{sound_gives}
use Rattle.card.specs.Decode.{decoded}
use Rattle.card.proofs.Sound.{decoded-sound}
use Rattle.undo_log.specs.Log.{undone_words}
use Rattle.undo_log.proofs.Kept.{undo_kept}
use Rattle.exports.specs.Words.{header_length, header_of, header_words, headed, if_headed}
use Rattle.exports.specs.Calls.{decode_answer, decode_header, decode_words, insert_answer, insert_header, insert_words}
use Rattle.exports.specs.Calls.{substitute_answer, substitute_words, log_answer, log_words, undo_answer, undo_words}
use Rattle.exports.specs.Steps.{Job, asks, counts, encodes, inserts, substitutes, logs, undoes, decodes, answer_on, header_left, words_left}
use Rattle.exports.specs.Numbers.{is_done}
use Rattle.exports.specs.Soundness.{SoundInstance, KeptSound, ReadSound}
use Rattle.exports.proofs.Headed.{headed_yes, kept_yes}
use Rattle.exports.proofs.HeaderWords.{Eight, words_size, header_back, has_eight}
use Rattle.exports.proofs.Numbers.{every_return}

-- a header with eight arities, over a plot that is sound under it, has eight counts
pub sound-eight : (h : Header) (ws : List ℕ) → length h.arities ≡ max_relations → sound h ws ≡ true → Eight h
sound-eight h ws e s = record { arities = e; counts = ap length (sound_gives h ws s).counted ∙ row_counts-size (rows h ws) }

-- such a header, written as words
written-sound : (h : Header) (ws : List ℕ) → length h.arities ≡ max_relations → sound h ws ≡ true → SoundInstance (header_words h) ws
written-sound h ws e s =
    let eight = sound-eight h ws e s in
    record { long = words_size h eight; is_sound = ap (λ (x : Header). sound x ws) (header_back h eight) ∙ s }

-- what an accepted decode says of the library's
pub record DecodedAs (card hs ws : List ℕ) (n : ℕ) : Type 0 where
  pub long : length hs ≡ header_length
  pub answer : (decoded card ws).answer ≡ Ok n
  pub header : decode_header card hs ws ≡ header_words (decoded card ws).header
  pub words : decode_words card hs ws ≡ (decoded card ws).words

pub decoded_as : (card hs ws : List ℕ) (n : ℕ) → decode_answer card hs ws ≡ Ok n → DecodedAs card hs ws n
unfolding decode_answer decode_header decode_words
decoded_as card hs ws n q =
    let d = demand_done (eqb (length hs) header_length) Unsound (decoded card ws).answer n q in
    let long = eqb-true (length hs) header_length d.0 in
    record {
      long = long;
      answer = d.1;
      header = ap (λ (a : Answer). after a (header_words (decoded card ws).header) hs) q;
      words = kept_yes hs long (decoded card ws).words ws;
    }

pub read-sound : ReadSound
read-sound card hs ws z = go (decode_answer card hs ws) refl ((every_return (decodes card 0) hs ws).accepted z)
  where
    go : (a : Answer) → decode_answer card hs ws ≡ a → is_done a ≡ true → SoundInstance (decode_header card hs ws) (decode_words card hs ws)
    go (Ok k) q done =
        let d = decoded_as card hs ws k q in
        let made = decoded-sound card ws k d.answer in
        rw (d.header, d.words) (written-sound (decoded card ws).header (decoded card ws).words made.eight made.is_sound)
    go (Err r) q done = absurd (false≢true done)

-- an accepted fill, of either kind
fill-sound : (hs ws : List ℕ) (l : Logging) (m c k : ℕ) → SoundInstance hs ws → headed hs (substituted (header_of hs) ws l m c) ≡ Ok k → SoundInstance hs (if_headed hs (substituted_words (header_of hs) ws l m c) ws)
fill-sound hs ws l m c k p q =
    rw (kept_yes hs p.long (substituted_words (header_of hs) ws l m c) ws)
    (record { long = p.long; is_sound = (substitute-kept (header_of hs) ws l m c k (sym (headed_yes hs p.long _) ∙ q)).is_sound })

-- an accepted call
done_sound : (j : Job) (hs ws : List ℕ) (k : ℕ) → SoundInstance hs ws → answer_on j hs ws ≡ Ok k → SoundInstance (header_left j hs ws) (words_left j hs ws)
unfolding insert_answer insert_header insert_words inserted_header substitute_answer substitute_words log_answer log_words undo_answer undo_words
done_sound (asks qs candidate lent budget) hs ws k p q = p
done_sound (counts out) hs ws k p q = p
done_sound (encodes out) hs ws k p q = p
done_sound (inserts relation cells) hs ws k p q =
    let done = sym (headed_yes hs p.long _) ∙ q in
    let left : SoundInstance (header_words (inserted_header (header_of hs) ws relation cells)) (inserted_words (header_of hs) ws relation cells) =
    written-sound (inserted_header (header_of hs) ws relation cells) (inserted_words (header_of hs) ws relation cells) (rw done (has_eight hs p.long).arities) (insert_kept (header_of hs) ws relation cells k done).is_sound
    in
    rw (q, kept_yes hs p.long (inserted_words (header_of hs) ws relation cells) ws) left
done_sound (substitutes m c) hs ws k p q = fill-sound hs ws unlogged m c k p q
done_sound (logs log used m c) hs ws k p q = fill-sound hs ws (into_log (length log) used) m c k p q
done_sound (undoes log used) hs ws k p q =
    rw (kept_yes hs p.long (undone_words (header_of hs) ws log used) ws)
    (record { long = p.long; is_sound = undo_kept (header_of hs) ws log used k (sym (headed_yes hs p.long _) ∙ q) })
done_sound (decodes card used) hs ws k p q = read-sound card hs ws (ap number_of q)

pub kept-sound : KeptSound
kept-sound j hs ws p = go (answer_on j hs ws) refl
  where
    go : (a : Answer) → answer_on j hs ws ≡ a → SoundInstance (header_left j hs ws) (words_left j hs ws)
    go (Ok k) q = done_sound j hs ws k p q
    go (Err r) q =
        let kept = (every_return j hs ws).refused (λ z. false≢true (sym (ap is_done q) ∙ (every_return j hs ws).accepted z)) in
        rw (kept.0, kept.1) p
