-- `decode::measure::measure_record` meets its contract: each path through the tests is a law of reading one record. Assumes nothing.
use Prim.Native.Nat.{ℕ}
use mathlib.Core.Path.{◌≡◌, sym, ap, ◌∙◌}
use mathlib.Core.List.{List}
use native.Mathlib.Omega.{arith}
use lib.Count.{ones}
use Rattle.std.proofs.lemmas.Result.{err_from_is_err_and}
use Rattle.instance.specs.Header.{arity_of}
use Rattle.instance.proofs.Parts.{part_to_end}
use Rattle.instance.proofs.Rows.{arity_low}
use Rattle.card.specs.Format.{read_record}
use Rattle.decode.specs.Measure.{measured_record, measured_fields, read_written}
use Rattle.decode.proofs.Fields.{leading_within, leading_beyond}
use Rattle.decode.proofs.Records.{record-none, record-unknown, record_cut, record_beyond, record_measured, measured_as}
use Rattle.decode.proofs.Told.{record-told}
use Rattle.decode.proofs.measure.measure_record.Goals as goal
use Rattle.decode.proofs.measure.measure_record.Goals.{After-measure_fields}

by_answer_told : {A B : Type 0} → A × B → record { answer : A; told : B }
by_answer_told p = record { answer = p.0; told = p.1 }

pub returns-in_err-relation : goal.returns-in_err-relation
returns-in_err-relation c =
    let p = err_from_is_err_and c.from_residual.result c.from_residual.ensures.1 in
    let none = c.in_err-relation.ensures in
    rw (p.1, p.2, none.1) (by_answer_told (record-told _ (sym (record-none _ _ _ (omega (arith, none))))))

pub returns-then-head-relation : goal.returns-then-head-relation
returns-then-head-relation c =
    let x = c.in_ok-relation.ensures in
    by_answer_told (record-told _ (sym (record-unknown _ _ _ c.in_ok-relation.relation x.0 x.1 c.if-head-relation.true)))

pub returns-in_err-map : goal.returns-in_err-map
returns-in_err-map c =
    let p = err_from_is_err_and c.from_residual-in_err-map.result c.from_residual-in_err-map.ensures.1 in
    let x = c.in_ok-relation.ensures in
    let none = c.in_err-map.ensures in
    rw (p.1, p.2, none.1) (by_answer_told (record-told _ (sym (record_cut _ _ _ c.in_ok-relation.relation x.0 x.1 c.if-head-relation.false (omega (arith, none))))))

pub overflow_sub-arity : goal.overflow_sub-arity
overflow_sub-arity c = omega (arith, arity_low _ _ c.in_ok-relation.relation c.requires.formed)

pub returns-then-map-arity : goal.returns-then-map-arity
returns-then-map-arity c =
    let x = c.in_ok-relation.ensures in
    let map = c.in_ok-map.map in
    let m = c.in_ok-map.ensures in
    by_answer_told (record-told _
    (sym (record_beyond _ _ _ c.in_ok-relation.relation x.0 x.1 map c.if-head-relation.false m.0 m.1
    (leading_beyond _ map (omega (arith, m)) c.if-map-arity.true))))

-- what is returned for a record whose two bytes are read, from what is returned for its fields
module _ (c : After-measure_fields) where
  from_fields :
      measured_record (read_record c.args.head.now.relations c.args.head.now.arities c.args.bytes.now)
      ≡ measured_as (arity_of c.args.head.now.arities c.in_ok-relation.relation) (ones c.in_ok-map.map) c.measure_fields.result
  from_fields =
      let x = c.in_ok-relation.ensures in
      let map = c.in_ok-map.map in
      let m = c.in_ok-map.ensures in
      let bytes = c.args.bytes.now in
      record_measured _ _ bytes c.in_ok-relation.relation x.0 x.1 map c.if-head-relation.false m.0 m.1 (leading_within _ map (omega (arith, m)) c.if-map-arity.false)
      ∙ ap (measured_as _ _) (ap (λ (bs : List ℕ). measured_fields (read_written (ones map) bs)) (sym (part_to_end bytes 2)) ∙ sym c.measure_fields.ensures)

pub returns-in_err-highest : goal.returns-in_err-highest
returns-in_err-highest c =
    let p = err_from_is_err_and c.from_residual-in_err-highest.result c.from_residual-in_err-highest.ensures.1 in
    let fields = from_fields (goal.at.returns-in_err-highest c).After-measure_fields in
    rw (p.1, p.2) (by_answer_told (record-told _ (sym (fields ∙ ap (measured_as _ _) c.in_err-highest.was))))

pub returns : goal.returns
returns c =
    let fields = from_fields (goal.at.returns c).After-measure_fields in
    by_answer_told (record-told _ (sym (fields ∙ ap (measured_as _ _) c.in_ok-highest.was)))
