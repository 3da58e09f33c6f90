-- `answer::way::ask_by` meets its contract, by each way. Assumes nothing.
use mathlib.Core.Path.{refl}
use Rattle.answer.proofs.way.ask_by.Goals as goal

by_answer_buffer_told : {A B C : Type 0} → A × (B × C) → record { answer : A; buffer : B; told : C }
by_answer_buffer_told p = record { answer = p.0; buffer = p.1.0; told = p.1.1 }

pub returns-in-Listed : goal.returns-in-Listed
returns-in-Listed c =
    let e = c.ask.ensures in by_answer_buffer_told (rw c.in-Listed.is (e.answer, (e.buffer, e.told)))

pub returns-in-Unlisted : goal.returns-in-Unlisted
returns-in-Unlisted c =
    let e = c.ask_unlisted.ensures in by_answer_buffer_told (rw c.in-Unlisted.is (e.answer, (refl, e.told)))
