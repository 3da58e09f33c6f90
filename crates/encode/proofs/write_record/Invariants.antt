use Prim.Native.Nat.{ℕ, ◌+◌, ◌*◌}
use mathlib.Core.List.{List, ◌∷◌}
use lib.ListN.{length, drop}
use Rattle.calculus.proofs.Stores.{Written}
use Rattle.card.specs.Encode.{fields_bytes, full_map}
use Rattle.encode.proofs.write_record.Given as goal

abbrev pub whole : ℕ → List ℕ → List ℕ
whole relation cells = relation ∷ full_map (length cells) ∷ fields_bytes cells

abbrev pub invariant-loop-i : goal.invariant-loop-i
invariant-loop-i l = Written (whole l.relation l.cells) (fields_bytes (drop l.i l.cells)) l.initial.out l.out (2 + 3 * l.i)
