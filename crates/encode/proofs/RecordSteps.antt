-- The bytes of records: how many there are, and the bytes of one cell after another. Assumes nothing.
use Prim.Native.Nat.{ℕ, zero, suc, ◌+◌, ◌*◌, ◌≤◌, ◌<◌}
use mathlib.Core.Path.{◌≡◌, refl}
use mathlib.Core.Bool.{true}
use mathlib.Core.List.{List, [], ◌∷◌, ◌++◌}
use native.Mathlib.Omega.{arith}
use lib.ListN.{length, drop, get_or, length-append}
use lib.Dec.{ltb}
use borrow.Author.Tests.{ltb-true, lt-ltb}
use Rattle.calculus.specs.Cell.{is_cell}
use Rattle.calculus.specs.Row.{Row}
use Rattle.calculus.proofs.Bools.{and_parts}
use Rattle.calculus.proofs.Lists.{drop_step}
use Rattle.instance.specs.Header.{arity_of}
use Rattle.instance.specs.Rows.{words_well_formed, words_of}
use Rattle.card.specs.Encode.{field_bytes, fields_bytes, full_map, records_bytes}

pub fields-size : (cs : List ℕ) → length (fields_bytes cs) ≡ 3 * length cs
unfolding fields_bytes
fields-size [] = refl
fields-size (c ∷ cs) = omega (arith, fields-size cs)

pub fields_rest : (cs : List ℕ) (i : ℕ) → i < length cs → fields_bytes (drop i cs) ≡ field_bytes (get_or cs i 0) ++ fields_bytes (drop (i + 1) cs)
unfolding fields_bytes
fields_rest cs i l = rw (drop_step cs i l)

-- three bytes for each word, but two for the first word of a row
pub records-size : (rs : List Row) → length (records_bytes rs) + length rs ≡ 3 * length (words_of rs)
unfolding records_bytes words_of
records-size [] = refl
records-size (r ∷ rs) =
    omega (arith, length-append (fields_bytes r.cells) (records_bytes rs), fields-size r.cells, length-append r.cells (words_of rs), records-size rs)

-- words that are well formed for n relations are well formed for more
pub more_well_formed : (n m : ℕ) (ars : List ℕ) → n ≤ m → (left : ℕ) (ws : List ℕ) → words_well_formed n ars left ws ≡ true → words_well_formed m ars left ws ≡ true
unfolding words_well_formed
more_well_formed n m ars l zero [] e = refl
more_well_formed n m ars l (suc left) [] e = e
more_well_formed n m ars l zero (w ∷ ws) e =
    let p = and_parts (ltb w n) _ e in
    rw (lt-ltb w m (omega (arith, ltb-true w n p.0))) (more_well_formed n m ars l (arity_of ars w) ws p.1)
more_well_formed n m ars l (suc left) (w ∷ ws) e =
    let p = and_parts (is_cell w) _ e in
    rw p.0 (more_well_formed n m ars l left ws p.1)

-- the table of full maps
pub full_maps : (k : ℕ) → k ≤ 6 → get_or (0 ∷ 1 ∷ 3 ∷ 7 ∷ 15 ∷ 31 ∷ 63 ∷ []) k 0 ≡ full_map k
full_maps zero l = refl
full_maps (suc zero) l = refl
full_maps (suc (suc zero)) l = refl
full_maps (suc (suc (suc zero))) l = refl
full_maps (suc (suc (suc (suc zero)))) l = refl
full_maps (suc (suc (suc (suc (suc zero))))) l = refl
full_maps (suc (suc (suc (suc (suc (suc zero)))))) l = refl
full_maps (suc (suc (suc (suc (suc (suc (suc k))))))) l = absurd (omega arith)
