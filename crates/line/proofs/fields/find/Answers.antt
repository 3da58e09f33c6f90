-- `line::fields::find` meets its contract: each field that is read leaves the other fields to read. Each early return has a place of its own type, so a
-- law over the steps up to it would take them as premises; they are cited anew. Assumes nothing.
use Prim.Native.Nat.{◌/◌, ◌<◌}
use mathlib.Core.Path.{◌≡◌, sym, ◌∙◌}
use native.Mathlib.Omega.{arith}
use lib.ListN.{length, length-take}
use Rattle.std.proofs.lemmas.Bool.Decides.{nat_tests}
use Rattle.std.proofs.lemmas.Result.{err_from_is_err_and}
use Rattle.parse.proofs.Numbers.{takes_numbers, takes_bytes}
use Rattle.line.proofs.Finding.{too_long, begins, numbers_read, stops, cut, after_size, after_card, after_count, after_words, after_arity, after_cells, after_budget, left_over, ends, card_place, card_as}
use Rattle.line.proofs.fields.find.Goals as goal

pub returns-then-input-gt-INPUT : goal.returns-then-input-gt-INPUT
returns-then-input-gt-INPUT c = too_long c.args.input.now c.if-input-gt-INPUT.true

pub returns-in_err-size : goal.returns-in_err-size
returns-in_err-size c =
    let p = err_from_is_err_and c.from_residual.result c.from_residual.ensures.1 in
    rw (p.1, p.2) (stops _ _ (begins _ c.if-input-gt-INPUT.false) c.in_err-size.ensures.read)

pub returns-in_err-card : goal.returns-in_err-card
returns-in_err-card c =
    let p = err_from_is_err_and c.from_residual-in_err-card.result c.from_residual-in_err-card.ensures.1 in
    let sized = after_size _ c.if-input-gt-INPUT.false c.in_ok-size.ensures.read in
    rw (p.1, p.2) (cut _ _ (takes_bytes _) _ sized c.in_err-card.ensures)

pub returns-in_err-count : goal.returns-in_err-count
returns-in_err-count c =
    let p = err_from_is_err_and c.from_residual-in_err-count.result c.from_residual-in_err-count.ensures.1 in
    let sized = after_size _ c.if-input-gt-INPUT.false c.in_ok-size.ensures.read in
    let carded = after_card _ _ _ sized c.in_ok-card.ensures in
    rw (p.1, p.2) (stops _ _ carded c.in_err-count.ensures.read)

pub returns-in_err-words : goal.returns-in_err-words
returns-in_err-words c =
    let p = err_from_is_err_and c.from_residual-in_err-words.result c.from_residual-in_err-words.ensures.1 in
    let sized = after_size _ c.if-input-gt-INPUT.false c.in_ok-size.ensures.read in
    let carded = after_card _ _ _ sized c.in_ok-card.ensures in
    let counted = after_count _ _ _ carded c.in_ok-count.ensures.read in
    rw (p.1, p.2) (cut _ _ (takes_numbers 4 _) _ counted c.in_err-words.ensures)

pub returns-in_err-arity : goal.returns-in_err-arity
returns-in_err-arity c =
    let p = err_from_is_err_and c.from_residual-in_err-arity.result c.from_residual-in_err-arity.ensures.1 in
    let sized = after_size _ c.if-input-gt-INPUT.false c.in_ok-size.ensures.read in
    let carded = after_card _ _ _ sized c.in_ok-card.ensures in
    let counted = after_count _ _ _ carded c.in_ok-count.ensures.read in
    let words = numbers_read 4 _ _ c.in_ok-words.ensures in
    let worded = after_words _ _ _ _ counted words in
    rw (p.1, p.2) (stops _ _ worded c.in_err-arity.ensures.read)

pub returns-in_err-cells : goal.returns-in_err-cells
returns-in_err-cells c =
    let p = err_from_is_err_and c.from_residual-in_err-cells.result c.from_residual-in_err-cells.ensures.1 in
    let sized = after_size _ c.if-input-gt-INPUT.false c.in_ok-size.ensures.read in
    let carded = after_card _ _ _ sized c.in_ok-card.ensures in
    let counted = after_count _ _ _ carded c.in_ok-count.ensures.read in
    let words = numbers_read 4 _ _ c.in_ok-words.ensures in
    let worded = after_words _ _ _ _ counted words in
    let valued = after_arity _ _ _ _ worded c.in_ok-arity.ensures.read in
    rw (p.1, p.2) (cut _ _ (takes_numbers 3 _) _ valued c.in_err-cells.ensures)

pub returns-in_err-budget : goal.returns-in_err-budget
returns-in_err-budget c =
    let p = err_from_is_err_and c.from_residual-in_err-budget.result c.from_residual-in_err-budget.ensures.1 in
    let sized = after_size _ c.if-input-gt-INPUT.false c.in_ok-size.ensures.read in
    let carded = after_card _ _ _ sized c.in_ok-card.ensures in
    let counted = after_count _ _ _ carded c.in_ok-count.ensures.read in
    let words = numbers_read 4 _ _ c.in_ok-words.ensures in
    let worded = after_words _ _ _ _ counted words in
    let valued = after_arity _ _ _ _ worded c.in_ok-arity.ensures.read in
    let cells = numbers_read 3 _ _ c.in_ok-cells.ensures in
    let celled = after_cells _ _ _ _ _ valued cells in
    rw (p.1, p.2) (stops _ _ celled c.in_err-budget.ensures.read)

pub returns-then-not-is_empty : goal.returns-then-not-is_empty
returns-then-not-is_empty c =
    let sized = after_size _ c.if-input-gt-INPUT.false c.in_ok-size.ensures.read in
    let carded = after_card _ _ _ sized c.in_ok-card.ensures in
    let counted = after_count _ _ _ carded c.in_ok-count.ensures.read in
    let words = numbers_read 4 _ _ c.in_ok-words.ensures in
    let worded = after_words _ _ _ _ counted words in
    let valued = after_arity _ _ _ _ worded c.in_ok-arity.ensures.read in
    let cells = numbers_read 3 _ _ c.in_ok-cells.ensures in
    let celled = after_cells _ _ _ _ _ valued cells in
    let allowed = after_budget _ _ _ _ _ celled c.in_ok-budget.ensures.read in
    let some : 0 < length c.in_ok-budget.rest.now = grind (arith, nat_tests, length-take, sym c.is_empty.ensures ∙ c.if-not-is_empty.true) in
    left_over _ _ _ allowed some

pub returns : goal.returns
returns c =
    let sized = after_size _ c.if-input-gt-INPUT.false c.in_ok-size.ensures.read in
    let carded = after_card _ _ _ sized c.in_ok-card.ensures in
    let counted = after_count _ _ _ carded c.in_ok-count.ensures.read in
    let words = numbers_read 4 _ _ c.in_ok-words.ensures in
    let worded = after_words _ _ _ _ counted words in
    let valued = after_arity _ _ _ _ worded c.in_ok-arity.ensures.read in
    let cells = numbers_read 3 _ _ c.in_ok-cells.ensures in
    let celled = after_cells _ _ _ _ _ valued cells in
    let allowed = after_budget _ _ _ _ _ celled c.in_ok-budget.ensures.read in
    let count : length c.in_ok-words.words.now / 4 ≡ c.in_ok-count.count = omega (arith, words.long) in
    let arity : length c.in_ok-cells.cells.now / 3 ≡ c.in_ok-arity.arity = omega (arith, cells.long) in
    let place = card_place _ c.in_ok-size.ensures.read c.in_ok-card.ensures in
    let none : length c.in_ok-budget.rest.now ≡ 0 = grind (arith, nat_tests, length-take, sym c.is_empty.ensures ∙ c.if-not-is_empty.false) in (
      rw (count, arity) (card_as _ c.in_ok-card.card.now _ (grind (arith, place)) (ends _ _ _ allowed none)),
      record { words = rw count words.whole; cells = rw arity cells.whole; few = rw arity c.in_ok-arity.ensures.small },
    )
