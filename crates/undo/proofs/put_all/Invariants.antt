use mathlib.Core.Path.{◌≡◌}
use lib.ListN.{length, drop}
use Rattle.undo_log.specs.Places.{put_at}
use Rattle.undo.proofs.put_all.Given as goal

abbrev pub invariant-loop-place : goal.invariant-loop-place
invariant-loop-place l = (length l.words ≡ length l.initial.words) × (put_at (drop l.place-index l.places) l.x l.words ≡ put_at l.places l.x l.initial.words)
