-- Lists: the part from an index, and maps. Assumes nothing.
use Prim.Native.Nat.{ℕ, zero, suc, ◌+◌, ◌<◌}
use mathlib.Core.Path.{◌≡◌, refl, ap}
use mathlib.Core.List.{List, [], ◌∷◌, map}
use native.Mathlib.Numerals.{add-one}
use lib.ListN.{length, get_or, drop, set}
use lib.Seq.{drop-cons}

-- a list from index i is its element there and the list from the next index
pub drop_step : (xs : List ℕ) (i : ℕ) → i < length xs → drop i xs ≡ get_or xs i 0 ∷ drop (i + 1) xs
drop_step xs i h = rw (add-one, drop-cons xs i 0)

pub map-set : (h : ℕ → ℕ) (e : List ℕ) (v c : ℕ) → map h (set e v c) ≡ set (map h e) v (h c)
map-set h [] v c = refl
map-set h (x ∷ e) zero c = refl
map-set h (x ∷ e) (suc v) c = ap (λ (l : List ℕ). h x ∷ l) (map-set h e v c)

pub map_identity : (cs : List ℕ) → map (λ c. c) cs ≡ cs
map_identity [] = refl
map_identity (c ∷ cs) = ap (λ (l : List ℕ). c ∷ l) (map_identity cs)

pub map_same : (f g : ℕ → ℕ) → ((c : ℕ) → f c ≡ g c) → (xs : List ℕ) → map f xs ≡ map g xs
map_same f g e [] = refl
map_same f g e (x ∷ xs) = rw (e x, map_same f g e xs) refl
