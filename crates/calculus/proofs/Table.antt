-- A table of values, entry by entry. Assumes nothing.
use Prim.Native.Nat.{ℕ, zero, suc, ◌<◌}
use mathlib.Core.Path.{◌≡◌, refl, ap, ap₂}
use mathlib.Core.List.{List, ◌∷◌}
use native.Mathlib.Nat.{not-suc-le-zero, le_of_suc-le-suc}
use lib.ListN.{length, get_or}
use Rattle.calculus.specs.Table.{table}

pub table-size : (f : ℕ → ℕ) (n : ℕ) → length (table f n) ≡ n
unfolding table
table-size f zero = refl
table-size f (suc n) = ap suc (table-size (λ k. f (suc k)) n)

pub table_at : (f : ℕ → ℕ) (n k : ℕ) → k < n → get_or (table f n) k 0 ≡ f k
unfolding table
table_at f zero k l = absurd (not-suc-le-zero l)
table_at f (suc n) zero l = refl
table_at f (suc n) (suc k) l = table_at (λ k. f (suc k)) n k (le_of_suc-le-suc l)

pub table_same : (f g : ℕ → ℕ) → ((k : ℕ) → f k ≡ g k) → (n : ℕ) → table f n ≡ table g n
unfolding table
table_same f g e zero = refl
table_same f g e (suc n) = ap₂ (λ (x : ℕ) (xs : List ℕ). x ∷ xs) (e 0) (table_same (λ k. f (suc k)) (λ k. g (suc k)) (λ k. e (suc k)) n)
