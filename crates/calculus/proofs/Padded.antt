-- A padded list: its length, its front, and one more number. Assumes nothing.
use Prim.Native.Nat.{ℕ, suc, ◌-◌, ◌≤◌, ◌<◌}
use mathlib.Core.Path.{◌≡◌, sym, ap, ◌∙◌}
use mathlib.Core.List.{List, [], ◌∷◌, ◌++◌, append_assoc}
use native.Mathlib.Omega.{arith}
use lib.ListN.{length, take, set, replicate, length-append, length-replicate}
use lib.Seq.{set_at, take_at}
use Rattle.calculus.specs.Padded.{padded}

pub padded-length : (width : ℕ) (xs : List ℕ) → length xs ≤ width → length (padded width xs) ≡ width
padded-length width xs few = simp (length-append, length-replicate) (omega arith)

pub padded_front : (width n : ℕ) (xs : List ℕ) → length xs ≡ n → take n (padded width xs) ≡ xs
padded_front width n xs e = take_at xs (replicate (width - length xs) 0) n e

-- a number stored at the first index of the padding
pub padded_more : (width : ℕ) (xs : List ℕ) (i x : ℕ) → length xs ≡ i → i < width → set (padded width xs) i x ≡ padded width (xs ++ x ∷ [])
padded_more width xs i x long room =
    let left : width - length xs ≡ suc (width - length (xs ++ x ∷ [])) = omega (arith, length-append xs (x ∷ [])) in
    ap (λ (n : ℕ). set (xs ++ replicate n 0) i x) left ∙
    set_at xs 0 (replicate (width - length (xs ++ x ∷ [])) 0) x i long ∙
    sym (append_assoc xs (x ∷ []) (replicate (width - length (xs ++ x ∷ [])) 0))
