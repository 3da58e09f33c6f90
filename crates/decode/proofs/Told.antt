-- What each pass over a card returns, as the paper's numbers, if its answer is the definition's. Assumes nothing.
use Prim.Native.Nat.{ℕ}
use mathlib.Core.Path.{◌≡◌, refl, sym, ap, ◌∙◌}
use mathlib.Core.List.{List}
use Rattle.std.specs.Prelude.{Result, Ok, Err}
use Rattle.calculus.specs.declared.refusal.Refusal.{Refusal}
use Rattle.calculus.specs.Answer.{Answer}
use Rattle.calculus.specs.Answer.{Tells}
use Rattle.calculus.specs.Reading.{read, refused}
use Rattle.calculus.proofs.Answers.{tells}
use Rattle.undo_log.specs.declared.Restarted.{Restarted}
use Rattle.instance.specs.Blanks.{Record}
use Rattle.parse.specs.Parse.{Parsed}
use Rattle.card.specs.Decode.{decoded}
use Rattle.card.proofs.Sound.{decoded-sound}
use Rattle.decode.specs.declared.measure.Measured.{Measured}
use Rattle.decode.specs.declared.measure.Total.{Total}
use Rattle.decode.specs.Restarted.{restarted_with, restarted, answer_of}
use Rattle.decode.specs.Measure.{measured_record, TellsRecord, measured_records, TellsRecords}

pub record-told : (p : Parsed Record) {m : Result Measured Refusal} → m ≡ measured_record p → (m ≡ measured_record p) × TellsRecord m p
unfolding measured_record
record-told p e = (e, rw e (go p))
  where
    go : (q : Parsed Record) → TellsRecord (measured_record q) q
    go (read r bs) = record { number = refl; values = λ x bs' e. let s : r ≡ x = cc in rw s refl }
    go (refused why) = record { number = refl; values = λ x bs' e. cc }

pub records-told : (size : ℕ) (p : Parsed (List Record)) {n : Result Total Refusal} → n ≡ measured_records size p → (n ≡ measured_records size p) × TellsRecords n size p
unfolding measured_records
records-told size p e = (e, rw e (go p))
  where
    go : (q : Parsed (List Record)) → TellsRecords (measured_records size q) size q
    go (read rs bs) = record { number = refl; needs = λ xs bs' e. let s : rs ≡ xs = cc in let t : bs ≡ bs' = cc in rw (s, t) refl }
    go (refused why) = record { number = refl; needs = λ xs bs' e. cc }

-- the answer of a decoding, from what it returns
module _ (card slice : List ℕ) where
  answer-restarted : answer_of (restarted (decoded card slice)) ≡ (decoded card slice).answer
  answer-restarted = go (decoded card slice).answer refl
    where
      go : (a : Answer) → (decoded card slice).answer ≡ a → answer_of (restarted_with a (decoded card slice).header) ≡ a
      go (Ok n) e = ap (λ (k : ℕ). Ok k) (decoded-sound card slice n e).in_use
      go (Err why) e = refl

  -- the same in the paper's numbers, for a result that is known
  pub decode-told :
      {r : Result Restarted Refusal} {P : Type 0} → (r ≡ restarted (decoded card slice)) × P →
      (r ≡ restarted (decoded card slice))
      × (P × ((answer_of r ≡ (decoded card slice).answer) × Tells (answer_of r) (decoded card slice).answer (decoded card slice).header.used))
  decode-told p =
      let a = ap answer_of p.0 ∙ answer-restarted in
      (p.0, (p.1, (a, tells (decoded card slice).header.used a (λ n d. sym (decoded-sound card slice n d).in_use))))
