-- `encode::encode` meets its contract: the scan finds whether the instance is sound and how many rows it has, which gives the card's
-- size; the head is written, and then the records. Assumes nothing.
use Prim.Native.Nat.{ℕ, ◌+◌, ◌-◌, ◌*◌, ◌≤◌}
use mathlib.Core.Path.{◌≡◌, sym, ◌∙◌}
use mathlib.Core.Bool.{true}
use mathlib.Core.List.{List}
use native.Mathlib.Omega.{arith}
use borrow.Author.Rules.{rules}
use lib.ListN.{length, length-take, length-drop}
use Rattle.std.specs.Prelude.{Ok}
use Rattle.std.proofs.lemmas.Result.{err_from_is_err_and}
use Rattle.calculus.specs.Answer.{Answer}
use Rattle.instance.specs.declared.header.Header.{Header}
use Rattle.instance.specs.Header.{max_relations}
use Rattle.instance.specs.Sound.{sound, rows, scanned}
use Rattle.instance.proofs.Sound.{scanned-sound, scanned-rows, Sound, sound_gives}
use Rattle.card.specs.Encode.{card_bytes}
use Rattle.encode.proofs.RecordSteps.{more_well_formed}
use Rattle.encode.proofs.Encoding.{all-written, record-size, card-size, refused-scan, refused-short, done, encode-told}
use Rattle.encode.proofs.encode.Goals as goal

by_answer_bytes_told : {A B C : Type 0} → A × (B × C) → record { answer : A; bytes : B; told : C }
by_answer_bytes_told p = record { answer = p.0; bytes = p.1.0; told = p.1.1 }

module _ (h : Header) (ws : List ℕ) (count : ℕ) (a : Answer) (e : a ≡ scanned h ws) (f : a ≡ Ok count) where
  is_sound : sound h ws ≡ true
  is_sound = scanned-sound h ws count (sym e ∙ f)

  is_count_lem : length (rows h ws) ≡ count
  is_count_lem = scanned-rows h ws count (sym e ∙ f)

  abbrev given : Sound h ws
  given = sound_gives h ws is_sound

  abbrev size : ℕ
  size = h.relations + 3 + (3 * h.used - count)

  is-size : length h.arities ≡ max_relations → length (card_bytes h (rows h ws)) ≡ size
  is-size eight = rw is_count_lem at (card-size h ws is_sound eight)

pub returns-in_err-count : goal.returns-in_err-count
returns-in_err-count c =
    let p = err_from_is_err_and c.from_residual.result c.from_residual.ensures.1 in
    rw (p.1, p.2) (by_answer_bytes_told (encode-told _ _ c.args.out.now (refused-scan _ _ c.args.out.now (sym c.scan.ensures.answer ∙ c.in_err-count.was))))

pub overflow_sub-size : goal.overflow_sub-size
overflow_sub-size c =
    let h = c.args.header in
    let ws = c.args.instance.now in
    let eight : length h.arities ≡ max_relations = search rules in
    let s = is_sound h ws _ _ c.scan.ensures.answer c.in_ok-count.was in
    omega (arith, record-size h ws s eight, is_count_lem h ws _ _ c.scan.ensures.answer c.in_ok-count.was)

pub returns-then-out-size : goal.returns-then-out-size
returns-then-out-size c =
    let h = c.args.header in
    let ws = c.args.instance.now in
    let eight : length h.arities ≡ max_relations = search rules in
    let s = is_sound h ws _ _ c.scan.ensures.answer c.in_ok-count.was in
    by_answer_bytes_told (encode-told _ _ _ (refused-short _ _ _ s (omega (arith, is-size h ws _ _ c.scan.ensures.answer c.in_ok-count.was eight))))

pub write_head-requires-clause-formed : goal.write_head-requires-clause-formed
write_head-requires-clause-formed c = (given c.args.header c.args.instance.now _ _ c.scan.ensures.answer c.in_ok-count.was).well_formed.header

pub slice_bounds-write_records-end-2 : goal.slice_bounds-write_records-end-2
slice_bounds-write_records-end-2 c = sym (given _ _ _ _ c.scan.ensures.answer c.in_ok-count.was).in_use

pub write_records-requires : goal.write_records-requires
unfolding rows
write_records-requires c =
    let h = c.args.header in
    let ws = c.args.instance.now in
    let eight : length h.arities ≡ max_relations = search rules in
    let s = is_sound h ws _ _ c.scan.ensures.answer c.in_ok-count.was in
    let g = sound_gives h ws s in record {
      by_index = g.headed.narrow;
      words_value = more_well_formed h.relations max_relations h.arities g.headed.few 0 _ g.well_formed.words;
      words_in_bounds = simp (length-take, length-drop)
          (omega (arith, record-size h ws s eight, is_count_lem h ws _ _ c.scan.ensures.answer c.in_ok-count.was, c.if-out-size.false));
    }

pub overflow_cast-result : goal.overflow_cast-result
overflow_cast-result c =
    let g = given _ _ _ _ c.scan.ensures.answer c.in_ok-count.was in
    omega (arith, g.few, g.headed.few)

pub returns : goal.returns
unfolding rows
returns c =
    let h = c.args.header in
    let ws = c.args.instance.now in
    let out = c.args.out.now in
    let eight : length h.arities ≡ max_relations = search rules in
    let s = is_sound h ws _ _ c.scan.ensures.answer c.in_ok-count.was in
    let size_is = is-size h ws _ _ c.scan.ensures.answer c.in_ok-count.was eight in
    let room : length (card_bytes h (rows h ws)) ≤ length out = rw size_is c.if-out-size.false in
    let d = done h ws out s room in
    let records = c.write_records in by_answer_bytes_told (encode-told h ws out (
      rw size_is at d.0,
      all-written h ws s eight out c.write_head.new.out records.new.out _ (is_count_lem h ws _ _ c.scan.ensures.answer c.in_ok-count.was) room c.write_head.ensures records.ensures ∙ d.1,
    ))
