-- A line is no longer than the bytes that it is written to. Assumes nothing.
use Prim.Native.Nat.{ℕ, ◌≤◌}
use mathlib.Core.Path.{◌≡◌, ap}
use mathlib.Core.Bool.{Bool, true, false}
use mathlib.Core.List.{List}
use native.Mathlib.Omega.{arith}
use lib.ListN.{length, drop, length-append}
use lib.Dec.{leb}
use Rattle.calculus.specs.Demand.{demand}
use Rattle.calculus.specs.Overwrite.{overwrite}
use Rattle.line.specs.Text.{max_line}
use Rattle.line.specs.Line.{line_of, line_length, line_out}

pub line_fits : (input out left : List ℕ) → left ≡ line_out input out → length left ≡ length out → line_length input out ≤ length out
unfolding line_length line_out
line_fits input out left is kept = go (leb max_line (length out)) (ap length is)
  where
    go : (b : Bool) → length left ≡ length (demand b out (overwrite (line_of input) out)) → demand b 0 (length (line_of input)) ≤ length out
    go true e = omega (arith, e, kept, length-append (line_of input) (drop (length (line_of input)) out))
    go false e = omega arith
