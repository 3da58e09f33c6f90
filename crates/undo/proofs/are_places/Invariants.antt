use mathlib.Core.Path.{◌≡◌}
use lib.ListN.{drop}
use Rattle.instance.specs.Rows.{rows_from}
use Rattle.undo_log.specs.Places.{are_places}
use Rattle.undo.specs.RowStart.{RowStart}
use Rattle.undo.proofs.are_places.Given as goal

abbrev pub invariant-loop-p : goal.invariant-loop-p
invariant-loop-p l =
    RowStart l.relations l.arities l.words l.row
    × (are_places (rows_from l.arities 0 l.words) l.places ≡ are_places (rows_from l.arities 0 l.words) (drop l.p-index l.places))
