-- Reading the latest entry of a log. Assumes nothing.
use Prim.Native.Nat.{ℕ, ◌+◌, ◌-◌, ◌≤◌}
use mathlib.Core.Path.{◌≡◌, refl, sym, ap, ◌∙◌}
use mathlib.Core.List.{List, [], ◌∷◌, ◌++◌, append_assoc}
use native.Mathlib.Omega.{arith}
use lib.ListN.{length, get_or, take, drop, length-append, length-take, take-append-drop}
use lib.Seq.{take_at, drop_at, get_or-append-add}
use Rattle.calculus.specs.Cell.{null}
use Rattle.calculus.specs.Fill.{entry_length, held}
use Rattle.calculus.specs.Row.{Row}
use Rattle.undo_log.specs.Places.{places_of}
use Rattle.undo_log.specs.Log.{entry_of, last_count, last_mark}
use Rattle.undo_log.proofs.Places.{places_count}

pub entry_length_lem : (m : ℕ) (rs : List Row) → length (entry_of m rs) ≡ entry_length (held m rs)
unfolding entry_of
entry_length_lem m rs = length-append (places_of (null m) 0 rs) (m ∷ held m rs ∷ []) ∙ omega (arith, places_count (null m) 0 rs)

-- a log whose words in use end with the entry of a fill of null m in the rows rs
module _ (front log : List ℕ) (used m : ℕ) (rs : List Row) (is : take used log ≡ front ++ entry_of m rs) (size : used ≡ length (front ++ entry_of m rs)) where
  abbrev n : ℕ
  n = held m rs

  abbrev places : List ℕ
  places = places_of (null m) 0 rs

  count : length places ≡ n
  count = places_count (null m) 0 rs

  pub entry_used : used ≡ length front + entry_length n
  entry_used = size ∙ length-append front (entry_of m rs) ∙ omega (arith, entry_length_lem m rs)

  pub entry-within : used ≤ length log
  entry-within = omega (arith, length-take used log, ap length is, sym size)

  -- the log is what comes before the entry, the entry, and the words after those in use
  shape : log ≡ front ++ (places ++ m ∷ n ∷ drop used log)
  unfolding entry_of
  shape =
      sym (take-append-drop used log) ∙ ap (λ (l : List ℕ). l ++ drop used log) is ∙
      append_assoc front (places ++ m ∷ n ∷ []) (drop used log) ∙
      ap (λ (l : List ℕ). front ++ l) (append_assoc places (m ∷ n ∷ []) (drop used log))

  at : (i k : ℕ) → i ≡ length front + (length places + k) → get_or log i 0 ≡ get_or (m ∷ n ∷ drop used log) k 0
  at i k e =
      ap (λ (x : ℕ). get_or log x 0) e ∙ ap (λ (l : List ℕ). get_or l (length front + (length places + k)) 0) shape ∙
      get_or-append-add front (places ++ m ∷ n ∷ drop used log) (length places + k) 0 ∙
      get_or-append-add places (m ∷ n ∷ drop used log) k 0

  pub entry-count : last_count log used ≡ n
  entry-count = at (used - 1) 1 (omega (arith, entry_used, count))

  pub entry-mark : last_mark log used ≡ m
  entry-mark = at (used - 2) 0 (omega (arith, entry_used, count))

  pub entry_front : used - entry_length n ≡ length front
  entry_front = omega (arith, entry_used)

  pub entry-places : take n (drop (used - entry_length n) log) ≡ places
  entry-places =
      ap (λ (l : List ℕ). take n (drop (used - entry_length n) l)) shape ∙
      ap (take n) (drop_at front (places ++ m ∷ n ∷ drop used log) (used - entry_length n) (sym entry_front)) ∙
      take_at places (m ∷ n ∷ drop used log) n count

  pub entry-before : take (length front) log ≡ front
  entry-before = ap (take (length front)) shape ∙ take_at front (places ++ m ∷ n ∷ drop used log) (length front) refl
