-- Every row of a sound instance stands at its place. Assumes nothing.
use Prim.Native.Nat.{ℕ, suc, ◌+◌}
use mathlib.Core.Path.{◌≡◌, sym, ap, ◌∙◌}
use mathlib.Core.List.{List, [], ◌∷◌, ◌++◌, append_assoc}
use native.Mathlib.Omega.{arith}
use lib.ListN.{length, take, drop, length-append, take-append-drop}
use lib.Seq.{take_at, drop_at, drop-cons}
use Rattle.calculus.specs.Row.{Row}
use Rattle.instance.specs.Rows.{words_of}
use Rattle.instance.specs.Sound.{rows}
use Rattle.instance.proofs.Rows.{words_append, row_well_formed_parts}
use Rattle.instance.proofs.Sound.{sound_gives}
use Rattle.calculus.proofs.All.{all_parts, all_split}
use Rattle.lookup.specs.Matching.{matching}
use Rattle.lookup.specs.Place.{row_at, place_of, EveryRow}

pub every_row : EveryRow
unfolding words_of
every_row h ws is_sound k less asked long =
    let good = sound_gives h ws is_sound in
    let rs = rows h ws in
    let r = row_at rs k in
    let front = words_of (take k rs) in
    let back = words_of (drop (suc k) rs) ++ drop h.used ws in
    let parts : rs ≡ take k rs ++ (r ∷ drop (suc k) rs) =
    sym (take-append-drop k rs) ∙ ap (λ (l : List Row). take k rs ++ l) (drop-cons rs k (record { relation = 0; cells = [] }) less)
    in
    let fits = row_well_formed_parts _ _ r (all_parts _ r _ (all_split _ (take k rs) _ (rw parts at good.rows_well_formed_lem)).1).0 in
    let split : words_of rs ≡ front ++ (r.relation ∷ (r.cells ++ words_of (drop (suc k) rs))) = ap words_of parts ∙ words_append (take k rs) (r ∷ drop (suc k) rs) in
    let shape : ws ≡ (front ++ r.relation ∷ []) ++ (r.cells ++ back) =
    sym (take-append-drop h.used ws) ∙ ap (λ (l : List ℕ). l ++ drop h.used ws) (sym good.words ∙ split) ∙
    append_assoc front (r.relation ∷ (r.cells ++ words_of (drop (suc k) rs))) (drop h.used ws) ∙
    ap (λ (l : List ℕ). front ++ r.relation ∷ l) (append_assoc r.cells (words_of (drop (suc k) rs)) (drop h.used ws)) ∙
    sym (append_assoc front (r.relation ∷ []) (r.cells ++ back))
    in
    let past : length (front ++ r.relation ∷ []) ≡ place_of rs k + 1 = length-append front (r.relation ∷ []) in (
      omega (arith, long, past, ap length shape, length-append (front ++ r.relation ∷ []) (r.cells ++ back), length-append r.cells back),
      omega (arith, long, fits.1, good.headed.narrow r.relation),
      ap (matching asked)
          (ap (λ (l : List ℕ). take (length asked) (drop (place_of rs k + 1) l)) shape ∙
          ap (take (length asked)) (drop_at (front ++ r.relation ∷ []) (r.cells ++ back) (place_of rs k + 1) past) ∙
          take_at r.cells back (length asked) (sym long)),
    )
