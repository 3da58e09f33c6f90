-- A card that was written from a sound instance reads back to the instance's header and words. Assumes nothing.
use Prim.Native.Nat.{ℕ, suc, ◌+◌, ◌^◌, ◌≤◌, ◌<◌}
use mathlib.Core.Path.{◌≡◌, ap, ◌∙◌}
use mathlib.Core.Bool.{true}
use mathlib.Core.List.{List, [], ◌++◌, map, append-nil}
use native.Mathlib.Omega.{arith}
use lib.ListN.{length, take, drop}
use lib.Seq.{take-append_seam}
use lib.Dec.{leb}
use borrow.Author.Tests.{le-leb}
use Rattle.std.specs.Prelude.{Ok}
use Rattle.calculus.specs.Cell.{nulls}
use Rattle.calculus.specs.Overwrite.{overwrite}
use Rattle.calculus.specs.Reading.{read}
use Rattle.calculus.specs.declared.refusal.Refusal.TheVariants.{Unsound, OutputTooShort}
use Rattle.calculus.specs.Row.{Row}
use Rattle.calculus.proofs.Answers.{demand_done}
use Rattle.instance.specs.declared.header.Header.{Header}
use Rattle.instance.specs.Header.{header_well_formed, max_relations, max_words}
use Rattle.instance.specs.Blanks.{highest}
use Rattle.instance.specs.Rows.{rows_well_formed, words_of}
use Rattle.instance.specs.Sound.{sound, rows, header_for}
use Rattle.instance.proofs.Blanks.{full_record, no_blanks, numbered_rows_lem, highest_full}
use Rattle.instance.proofs.Rows.{rows_at_most}
use Rattle.instance.proofs.Sound.{sound_gives}
use Rattle.card.specs.Format.{Card, read_card}
use Rattle.card.specs.Encode.{records_bytes, card_bytes, encoded, encoded_bytes}
use Rattle.card.specs.Decode.{accepted, decoded_from, decoded}
use Rattle.card.proofs.Bytes.{read_records_lem, read_head_lem}

-- the card that has a full record for each row
abbrev pub full_card : Header → List Row → Card
full_card h rs = record {
  head = record { relations = h.relations; arities = h.arities; count = length rs };
  records = map full_record rs;
}

module _ (h : Header) (rs : List Row) (well_formed : header_well_formed h.relations h.arities ≡ true) (eight : length h.arities ≡ max_relations)
    (ss : rows_well_formed h.relations h.arities rs ≡ true) (fits : length (words_of rs) ≤ max_words) where
  pub read_card_lem : read_card (card_bytes h rs) ≡ read (full_card h rs) []
  unfolding read_card card_bytes
  read_card_lem =
      let few : length rs < 256 ^ 2 = omega (arith, rows_at_most rs) in
      let each = rw append-nil at (read_records_lem h.relations h.arities rs [] ss) in
      rw (read_head_lem h (length rs) (records_bytes rs) well_formed eight few, each)

  pub decode_rows : (slice : List ℕ) → length (words_of rs) ≤ length slice
      → decoded (card_bytes h rs) slice ≡ record {
        answer = Ok (length (words_of rs));
        header = header_for h.relations h.arities rs;
        words = overwrite (words_of rs) slice;
      }
  unfolding decoded decoded_from accepted
  decode_rows slice l =
      let low : leb (highest (map full_record rs) + 0) nulls ≡ true = le-leb (highest (map full_record rs) + 0) nulls (omega (arith, highest_full h.relations h.arities rs ss)) in
      let words : leb (length (words_of rs)) max_words ≡ true = le-leb (length (words_of rs)) max_words fits in
      let room : leb (length (words_of rs)) (length slice) ≡ true = le-leb (length (words_of rs)) (length slice) l in
      rw (read_card_lem, no_blanks rs, low, numbered_rows_lem (suc (highest (map full_record rs))) rs, words, room)

-- "The writer writes every column, so its card reads back to the same head and words."
pub decode_encode : (h : Header) (ws slice : List ℕ) → sound h ws ≡ true → length h.arities ≡ max_relations → h.used ≤ length slice
    → decoded (card_bytes h (rows h ws)) slice ≡ record {
      answer = Ok h.used;
      header = h;
      words = take h.used ws ++ drop h.used slice;
    }
decode_encode h ws slice e eight room =
    let s = sound_gives h ws e in
    let size : length (words_of (rows h ws)) ≡ h.used = ap length s.words ∙ s.in_use in
    let few : h.used ≤ max_words = s.few in
    let whole = decode_rows h (rows h ws) s.well_formed.header eight s.rows_well_formed_lem (omega arith) slice (omega arith) in
    rw (s.header, size, s.words) at whole

-- if encode is accepted, the instance is sound and the card has n bytes
encoded-told : (h : Header) (ws out : List ℕ) (n : ℕ) → encoded h ws out ≡ Ok n → (sound h ws ≡ true) × (length (card_bytes h (rows h ws)) ≡ n)
unfolding encoded
encoded-told h ws out n e =
    let size = length (card_bytes h (rows h ws)) in
    let p = demand_done (sound h ws) Unsound _ n e in
    let q = demand_done (leb size (length out)) OutputTooShort (Ok size) n p.1 in
    (p.0, cc q.1)

-- the bytes that encode wrote read back
pub read_back : (h : Header) (ws out slice : List ℕ) (n : ℕ) → length h.arities ≡ max_relations → encoded h ws out ≡ Ok n → h.used ≤ length slice
    → decoded (take n (encoded_bytes h ws out)) slice ≡ record {
      answer = Ok h.used;
      header = h;
      words = take h.used ws ++ drop h.used slice;
    }
unfolding encoded_bytes
read_back h ws out slice n eight e room =
    let card = card_bytes h (rows h ws) in
    let p = encoded-told h ws out n e in
    rw (e, ← p.1, take-append_seam card (drop (length card) out)) (decode_encode h ws slice p.0 eight room)
