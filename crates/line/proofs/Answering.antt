-- The answer for a card that is accepted or refused, and the line of an answer. Assumes nothing.
use Prim.Native.Nat.{ℕ, ◌≤◌, ◌<◌}
use mathlib.Core.Path.{◌≡◌}
use mathlib.Core.List.{List}
use borrow.Author.Tests.{le-leb, lt-leb}
use lib.ListN.{length}
use Rattle.calculus.specs.Overwrite.{overwrite}
use Rattle.calculus.specs.Answer.{Answer}
use Rattle.std.specs.Prelude.{Ok, Err}
use Rattle.calculus.specs.declared.refusal.Refusal.{Refusal}
use Rattle.undo_log.specs.declared.Restarted.{Restarted}
use Rattle.undo_log.specs.Log.{fresh}
use Rattle.decode.specs.Restarted.{restarted_with, restarted}
use Rattle.card.specs.Decode.{Decoded}
use Rattle.answer.specs.Asked.{Asked}
use Rattle.line.specs.Fields.{Fields}
use Rattle.line.specs.Text.{max_line}
use Rattle.line.specs.Line.{asked_instance, if_read, asked_decoded, answered, line_for, line_of, line_length, line_out}

module _ (f : Fields) (d : Decoded) where
  pub card-refused : {why : Refusal} → Err why ≡ restarted d → Err why ≡ asked_decoded f d
  card-refused {why} = go d.answer
    where
      go : (a : Answer) → Err why ≡ restarted_with a d.header → Err why ≡ if_read a (asked_instance f d.header d.words)
      go (Ok n) e = cc
      go (Err r) e = cc

  pub card-read : (r : Restarted) (ws : List ℕ) → Ok r ≡ restarted d → ws ≡ d.words → asked_instance f r.header ws ≡ asked_decoded f d
  card-read r ws e words = go d.answer e
    where
      go : (a : Answer) → Ok r ≡ restarted_with a d.header → asked_instance f r.header ws ≡ if_read a (asked_instance f d.header d.words)
      go (Ok n) e = let same : r ≡ record { header = d.header; log = fresh } = cc in rw (same, words)
      go (Err why) e = cc

module _ (input out : List ℕ) where
  pub no_line : length out < max_line → (line_length input out ≡ 0) × (line_out input out ≡ out)
  unfolding line_length line_out
  no_line l = (rw (lt-leb max_line (length out) l), rw (lt-leb max_line (length out) l))

  pub one_line : {a : Asked} → a ≡ answered input → max_line ≤ length out
      → (line_length input out ≡ length (line_for a)) × (line_out input out ≡ overwrite (line_for a) out)
  unfolding line_length line_out line_of
  one_line e l = (rw (le-leb max_line (length out) l, e), rw (le-leb max_line (length out) l, e))
