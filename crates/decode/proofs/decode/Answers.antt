-- `decode::decode` meets its contract: a law of decoding covers each refusal and the accepted case. Assumes nothing.
use mathlib.Core.Path.{◌≡◌, sym, ap, ◌∙◌}
use mathlib.Core.Bool.{true}
use native.Mathlib.Omega.{arith}
use lib.ListN.{length}
use Rattle.std.proofs.lemmas.Result.{err_from_is_err_and}
use Rattle.std.specs.Prelude.{Ok}
use Rattle.instance.specs.declared.header.Header.{Header}
use Rattle.instance.specs.Header.{header_with}
use Rattle.undo_log.specs.Log.{fresh}
use Rattle.instance.specs.Room.{has_room}
use Rattle.decode.proofs.Opening.{Opened, head_opened}
use Rattle.decode.proofs.Decoding.{CardRead, card-read, down, head_turned, records_turned, left_over, exhausted, too_small, may_write, all_hold, sum_fits}
use Rattle.decode.proofs.Told.{decode-told}
use Rattle.decode.proofs.decode.Goals as goal
use Rattle.decode.proofs.decode.Goals.{In_ok-head, In_ok-total}

by_result_words_answer_told : {A B C D : Type 0} → A × (B × (C × D)) → record { result : A; words : B; answer : C; told : D }
by_result_words_answer_told p = record { result = p.0; words = p.1.0; answer = p.1.1.0; told = p.1.1.1 }

-- once the head is read
module _ (c : In_ok-head) where
  headed : Opened c.args.card.now c.in_ok-head.head.relations c.in_ok-head.head.arities c.in_ok-head.head.rows
  headed = head_opened c.args.card.now c.in_ok-head.head c.in_ok-head.ensures.head

-- once the records are read
module _ (c : In_ok-total) where
  opened : Opened c.args.card.now c.in_ok-head.head.relations c.in_ok-head.head.arities c.in_ok-head.head.rows
  opened = head_opened c.args.card.now c.in_ok-head.head c.in_ok-head.ensures.head

  carded : CardRead c.args.card.now c.args.instance.now _ _ _ opened c.in_ok-total.total
  carded = card-read _ c.args.instance.now _ _ _ opened _ (sym c.in_ok-total.ensures.answer)

pub returns-in_err-head : goal.returns-in_err-head
returns-in_err-head c =
    let p = err_from_is_err_and c.from_residual.result c.from_residual.ensures.1 in
    rw (p.1, p.2) (by_result_words_answer_told (decode-told c.args.card.now c.args.instance.now (down _ _ _ (head_turned _ _ _ c.in_err-head.ensures.head))))

pub measure-requires : goal.measure-requires
measure-requires c =
    let h = headed (goal.at.measure-requires c).In_ok-head in
    record { within = h.long; few = h.few; formed = h.arities_well_formed_lem; counted = c.in_ok-head.ensures.counted }

pub returns-in_err-total : goal.returns-in_err-total
returns-in_err-total c =
    let h = headed (goal.at.returns-in_err-total c).In_ok-head in
    let p = err_from_is_err_and c.from_residual-in_err-total.result c.from_residual-in_err-total.ensures.1 in
    rw (p.1, p.2)
    (by_result_words_answer_told (decode-told c.args.card.now c.args.instance.now (down _ _ _ (records_turned _ _ _ _ _ h _ (sym c.in_err-total.ensures.answer)))))

pub returns-then-total-card : goal.returns-then-total-card
returns-then-total-card c =
    let read = carded (goal.at.returns-then-total-card c).In_ok-total in
    by_result_words_answer_told (decode-told _ _ (down _ _ _ (left_over _ _ _ _ _ _ _ read c.if-total-card.true)))

pub overflow_add-total : goal.overflow_add-total
overflow_add-total c =
    let read = carded (goal.at.overflow_add-total c).In_ok-total in
    omega (arith, sum_fits _ _ _ _ _ _ _ read, c.in_ok-head.ensures.counted)

pub returns-then-total-gt-NULLS : goal.returns-then-total-gt-NULLS
returns-then-total-gt-NULLS c =
    let read = carded (goal.at.returns-then-total-gt-NULLS c).In_ok-total in
    by_result_words_answer_told (decode-told _ _ (down _ _ _ (exhausted _ _ _ _ _ _ _ read c.if-total-card.false c.if-total-gt-NULLS.true)))

pub returns-then-not-has_room : goal.returns-then-not-has_room
returns-then-not-has_room c =
    let read = carded (goal.at.returns-then-not-has_room c).In_ok-total in
    by_result_words_answer_told (decode-told _ _
    (down _ _ _ (too_small _ _ _ _ _ _ _ read c.if-total-card.false c.if-total-gt-NULLS.false (sym c.has_room.ensures ∙ c.if-not-has_room.true))))

pub write_rows-counts-requires : goal.write_rows-counts-requires
write_rows-counts-requires c =
    let read = carded (goal.at.write_rows-counts-requires c).In_ok-total in
    let room : has_room c.in_ok-total.total.words (length c.args.instance.now) ≡ true = sym c.has_room.ensures ∙ c.if-not-has_room.false in
    may_write _ _ _ _ _ _ _ read c.if-total-gt-NULLS.false room

pub returns : goal.returns
returns c =
    let read = carded (goal.at.returns c).In_ok-total in
    let room : has_room c.in_ok-total.total.words (length c.args.instance.now) ≡ true = sym c.has_room.ensures ∙ c.if-not-has_room.false in
    let header = c.header_with.ensures ∙ ap (header_with _ _ _) c.write_rows-counts.ensures.counts in
    let known = all_hold _ _ _ _ _ _ _ read c.if-total-card.false c.if-total-gt-NULLS.false room in
    by_result_words_answer_told (decode-told c.args.card.now c.args.instance.now
    (rw known (ap (λ (h : Header). Ok (record { header = h; log = fresh })) header, c.write_rows-counts.ensures.words)))
