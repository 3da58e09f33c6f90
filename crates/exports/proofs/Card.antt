-- A card that the exported call wrote reads back by the exported call. Assumes nothing.
use Prim.Native.Nat.{ℕ}
use mathlib.Core.Path.{◌≡◌, refl, sym, ap, ◌∙◌}
use mathlib.Core.Bool.{true, false≢true}
use mathlib.Core.List.{List, ◌++◌}
use native.Mathlib.Omega.{arith}
use borrow.Author.Tests.{eqb-true}
use lib.Dec.{eqb}
use lib.ListN.{length, take, drop}
use Rattle.calculus.specs.Answer.{Answer}
use Rattle.std.specs.Prelude.{Ok, Err}
use Rattle.calculus.specs.Answer.{number_of, value_of, after}
use Rattle.calculus.specs.declared.refusal.Refusal.TheVariants.{Unsound}
use Rattle.calculus.proofs.Answers.{demand_done}
use Rattle.instance.specs.declared.header.Header.{Header}
use Rattle.card.specs.Decode.{Decoded, decoded}
use Rattle.card.specs.Encode.{encoded, encoded_bytes}
use Rattle.card.proofs.RoundTrip.{read_back}
use Rattle.card.proofs.Sound.{decoded-sound}
use Rattle.card.proofs.Again.{left-words}
use Rattle.undo_log.specs.Log.{fresh}
use Rattle.exports.specs.Words.{header_length, header_of, header_words}
use Rattle.exports.specs.Calls.{decode_answer, decode_header, decode_words, decode_used, encode_answer, encode_bytes}
use Rattle.exports.specs.Steps.{encodes, decodes}
use Rattle.exports.specs.Numbers.{is_done}
use Rattle.exports.specs.Card.{written, ReadBack, ExportedReadBack, ReadAgain, ExportedReadAgain}
use Rattle.exports.proofs.Headed.{headed_yes, kept_yes}
use Rattle.exports.proofs.HeaderWords.{header_back, words_back, has_eight}
use Rattle.exports.proofs.Kept.{sound-eight, decoded_as}
use Rattle.exports.proofs.Numbers.{every_return}

-- a card that decodes to a header and words, by the exported call
module _ (card hs' ws' : List ℕ) (long : length hs' ≡ header_length) (h : Header) (ws : List ℕ) (n : ℕ) where
  decodes-to :
      decoded card ws' ≡ record { answer = Ok n; header = h; words = ws } →
      (decode_answer card hs' ws' ≡ Ok n) × ((decode_header card hs' ws' ≡ header_words h) × ((decode_words card hs' ws' ≡ ws) × ((used : ℕ) → decode_used card hs' ws' used ≡ fresh)))
  unfolding decode_answer decode_header decode_words decode_used
  decodes-to e =
      let a : decode_answer card hs' ws' ≡ Ok n = headed_yes hs' long (decoded card ws').answer ∙ ap (λ (d : Decoded). d.answer) e in (
        a,
        (
          ap (λ (x : Answer). after x (header_words (decoded card ws').header) hs') a ∙ ap (λ (d : Decoded). header_words d.header) e,
          (kept_yes hs' long (decoded card ws').words ws' ∙ ap (λ (d : Decoded). d.words) e, λ used. ap (λ (x : Answer). after x fresh used) a),
        ),
      )

pub exported_read_back : ExportedReadBack
unfolding encode_answer encode_bytes
exported_read_back hs ws out hs' ws' count used' zero long' room = go (encode_answer hs ws out) refl ((every_return (encodes out) hs ws).accepted zero)
  where
    go : (a : Answer) → encode_answer hs ws out ≡ a → is_done a ≡ true → ReadBack hs ws (written hs ws out count) hs' ws' used'
    go (Ok n) e done =
        let d = demand_done (eqb (length hs) header_length) Unsound (encoded (header_of hs) ws out) n e in
        let long = eqb-true (length hs) header_length d.0 in
        let card : written hs ws out count ≡ take n (encoded_bytes (header_of hs) ws out) =
        ap (λ (x : Answer). take (value_of x count) (encode_bytes hs ws out)) e ∙ ap (take n) (kept_yes hs long (encoded_bytes (header_of hs) ws out) out)
        in
        let back = ap (λ (b : List ℕ). decoded b ws') card ∙ read_back (header_of hs) ws out ws' n (has_eight hs long).arities d.1 room in
        let to = decodes-to (written hs ws out count) hs' ws' long' (header_of hs) (take (header_of hs).used ws ++ drop (header_of hs).used ws') (header_of hs).used back in
        record { number = ap number_of to.0; header = to.1.0 ∙ words_back hs long; words = to.1.1.0; used = to.1.1.1 used' }
    go (Err r) e done = absurd (false≢true done)

pub exported_read_again : ExportedReadAgain
exported_read_again card hs ws out count zero zero' = go (decode_answer card hs ws) refl ((every_return (decodes card 0) hs ws).accepted zero)
  where
    go : (a : Answer) → decode_answer card hs ws ≡ a → is_done a ≡ true → ReadAgain card hs ws out count
    go (Ok n) q done =
        let d = decoded_as card hs ws n q in
        let h = (decoded card ws).header in
        let made = decoded-sound card ws n d.answer in
        let first = left-words card ws n d.answer in
        let size : (header_of (decode_header card hs ws)).used ≡ n =
        ap (λ (x : List ℕ). (header_of x).used) d.header ∙
        ap (λ (x : Header). x.used) (header_back h (sound-eight h (decoded card ws).words made.eight made.is_sound)) ∙ made.in_use
        in
        let again = exported_read_back (decode_header card hs ws) (decode_words card hs ws) out hs ws count 0 zero' d.long (omega (arith, size, first.0)) in
        record {
          anywhere = λ hs' ws' used'. exported_read_back (decode_header card hs ws) (decode_words card hs ws) out hs' ws' count used' zero';
          header = again.header;
          words =
              again.words ∙ ap (λ (k : ℕ). take k (decode_words card hs ws) ++ drop k ws) size ∙ ap (λ (l : List ℕ). take n l ++ drop n ws) d.words ∙
              first.1 ∙ sym d.words;
        }
    go (Err r) q done = absurd (false≢true done)
