use mathlib.Core.List.{◌∷◌, ◌++◌}
use lib.ListN.{drop}
use Rattle.calculus.specs.Cell.{null}
use Rattle.undo_log.specs.Places.{places_in}
use Rattle.substitute.proofs.Filling.{Filling}
use Prim.Native.Nat.{ℕ}
use mathlib.Core.List.{List, []}
use Rattle.calculus.specs.Fill.{count_of}
use Rattle.calculus.proofs.Stores.{Written}
use Rattle.substitute_logged.proofs.note.Given as goal

-- places, and the end of the entry of a fill of null m in words
abbrev pub then_end : List ℕ → ℕ → List ℕ → List ℕ
then_end places m was = places ++ m ∷ count_of (null m) was ∷ []

-- `rest` of the entry is still to be written, at index `count` of the part
abbrev pub Noting : ℕ → List ℕ → List ℕ → List ℕ → List ℕ → ℕ → Type 0
Noting m was rest part₀ part count = Written (then_end (places_in (null m) 0 was) m was) rest part₀ part count

abbrev pub invariant-loop-i : goal.invariant-loop-i
invariant-loop-i l =
    Filling l.mark l.cell l.initial.words l.words l.count l.i × Noting l.mark l.initial.words (then_end (places_in l.null l.i (drop l.i l.initial.words)) l.mark l.initial.words) l.initial.part l.part l.count
