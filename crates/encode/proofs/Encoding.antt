-- The answer of encode: the size of a card, and the card as its head and its records. Assumes nothing.
use Prim.Native.Nat.{ℕ, ◌+◌, ◌-◌, ◌*◌, ◌/◌, ◌%◌, ◌≤◌, ◌<◌}
use mathlib.Core.Path.{◌≡◌, refl, sym, ◌∙◌, ap}
use mathlib.Core.Bool.{true}
use mathlib.Core.List.{List, [], ◌∷◌, ◌++◌, append_assoc}
use native.Mathlib.Omega.{arith}
use lib.ListN.{length, take, drop, length-append, length-take}
use lib.Seq.{take_at, drop_at, drop-drop}
use lib.Dec.{leb}
use borrow.Rule.Slice.PartMut.{put_mid}
use borrow.Author.Tests.{le-leb, lt-leb}
use Rattle.std.specs.Prelude.{Ok, Err}
use Rattle.calculus.specs.Answer.{Answer}
use Rattle.calculus.specs.Answer.{Tells}
use Rattle.calculus.specs.Demand.{demand}
use Rattle.calculus.specs.declared.refusal.Refusal.{Refusal}
use Rattle.calculus.specs.declared.refusal.Refusal.TheVariants.{Unsound, OutputTooShort}
use Rattle.calculus.proofs.Answers.{two_demands, tells}
use Rattle.instance.specs.declared.header.Header.{Header}
use Rattle.instance.specs.Header.{max_relations}
use Rattle.instance.specs.Sound.{sound, scanned, rows}
use Rattle.card.specs.Encode.{head_bytes, records_bytes, card_bytes, encoded, encoded_bytes}
use Rattle.instance.proofs.Parts.{part_to_end, put_to_end}
use Rattle.encode.proofs.RecordSteps.{records-size}
use Rattle.instance.proofs.Sound.{sound_gives, scan_refused}
use Rattle.calculus.specs.Overwrite.{overwrite}

-- a head and then, in the part after it, records are written to the front of a list
pub joined : (head records out : List ℕ) (start : ℕ) (lent back : List ℕ) → length head ≡ start → start + length records ≤ length out
    → lent ≡ head ++ drop start out → back ≡ overwrite records (take (length lent - start) (drop start lent))
    → put_mid start (length lent - start) lent back ≡ overwrite (head ++ records) out
joined head records out start lent back e l p q =
    let behind : drop start lent ≡ drop start out = rw p (drop_at head (drop start out) start e) in
    let front : take start lent ≡ head = rw p (take_at head (drop start out) start e) in
    let long : start ≤ length lent = rw (p, length-append) (omega arith) in
    put_to_end lent start back long
    ∙ rw (front, q, part_to_end lent start, behind, drop-drop (length records) start out, length-append head records, e)
    (sym (append_assoc head records (drop (start + length records) out)))

module _ (h : Header) (ws : List ℕ) (s : sound h ws ≡ true) (eight : length h.arities ≡ max_relations) where
  pub head-size : length (head_bytes h (length (rows h ws))) ≡ h.relations + 3
  head-size =
      let few = (sound_gives h ws s).headed.few in
      simp (length-append, length-take) (omega arith)

  -- three bytes for each word in use, but one fewer for each row
  pub record-size : length (records_bytes (rows h ws)) + length (rows h ws) ≡ 3 * h.used
  record-size = let g = sound_gives h ws s in omega (arith, records-size (rows h ws), ap length g.words, g.in_use)

  pub card-size : length (card_bytes h (rows h ws)) ≡ h.relations + 3 + (3 * h.used - length (rows h ws))
  unfolding card_bytes
  card-size = rw length-append (omega (arith, head-size, record-size))

  -- the head and then, in the part after it, the records are the card
  pub all-written : (out lent back : List ℕ) (count : ℕ) → length (rows h ws) ≡ count → length (card_bytes h (rows h ws)) ≤ length out
      → lent ≡ h.relations ∷ take h.relations h.arities ++ count / 256 % 256 ∷ count % 256 ∷ drop (h.relations + 3) out
      → back ≡ overwrite (records_bytes (rows h ws)) (take (length lent - (h.relations + 3)) (drop (h.relations + 3) lent))
      → put_mid (h.relations + 3) (length lent - (h.relations + 3)) lent back
      ≡ overwrite (card_bytes h (rows h ws)) out
  unfolding card_bytes
  all-written out lent back count e room p q =
      let start = h.relations + 3 in
      let head = head_bytes h (length (rows h ws)) in
      let size = length-append head (records_bytes (rows h ws)) in
      let assoc = append_assoc (take h.relations h.arities) (count / 256 % 256 ∷ count % 256 ∷ []) (drop start out) in
      let heads : lent ≡ head ++ drop start out = p ∙ rw (e, assoc) in
      joined head (records_bytes (rows h ws)) out start lent back head-size (omega (arith, head-size, size, room)) heads q

-- the answer, once it is known whether the instance is sound and whether the card fits
module _ (h : Header) (ws out : List ℕ) where
  pub refused-scan : {r : Refusal} → scanned h ws ≡ Err r → (Err r ≡ encoded h ws out) × (out ≡ encoded_bytes h ws out)
  unfolding encoded encoded_bytes
  refused-scan {r} e =
      let size = length (card_bytes h (rows h ws)) in
      rw (scan_refused h ws (demand (leb size (length out)) (Err OutputTooShort) (Ok size)) r e) (refl, refl)

  pub refused-short : sound h ws ≡ true → length out < length (card_bytes h (rows h ws))
      → (Err OutputTooShort ≡ encoded h ws out) × (out ≡ encoded_bytes h ws out)
  unfolding encoded encoded_bytes
  refused-short e l = let t = lt-leb (length (card_bytes h (rows h ws))) (length out) l in (simp (e, t), simp (e, t))

  pub done : sound h ws ≡ true → length (card_bytes h (rows h ws)) ≤ length out
      → (Ok (length (card_bytes h (rows h ws))) ≡ encoded h ws out)
      × (overwrite (card_bytes h (rows h ws)) out ≡ encoded_bytes h ws out)
  unfolding encoded encoded_bytes
  done e l = let t = le-leb (length (card_bytes h (rows h ws))) (length out) l in (simp (e, t), simp (e, t))

  -- the answer in the paper's numbers: the number of the card's bytes
  pub encode-told :
      {r : Answer} {P : Type 0} → (r ≡ encoded h ws out) × P → (r ≡ encoded h ws out) × (P × Tells r (encoded h ws out) (length (card_bytes h (rows h ws))))
  unfolding encoded
  encode-told p =
      let size = length (card_bytes h (rows h ws)) in
      (p.0, (p.1, tells size p.0 (two_demands (sound h ws) (leb size (length out)) Unsound OutputTooShort size)))
