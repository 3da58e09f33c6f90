-- The places of the cells that hold a null: as many as there are, each that of a cell, and what puts the null back. Assumes nothing.
use Prim.Native.Nat.{ℕ, suc, ◌+◌, ◌-◌, ◌≤◌, ◌<◌}
use mathlib.Core.Path.{◌≡◌, refl, sym, ap, ◌∙◌, subst}
use mathlib.Core.Bool.{Bool, true, false, cond}
use mathlib.Core.List.{List, [], ◌∷◌, ◌++◌, map, append_assoc}
use native.Mathlib.Omega.{arith}
use borrow.Author.Tests.{eqb-true, eqb-false, lt-ltb, le-ltb}
use lib.ListN.{length, set, length-append, length-map}
use lib.Seq.{set_at}
use lib.Dec.{eqb}
use Rattle.calculus.specs.All.{all}
use Rattle.calculus.specs.Cell.{null, put}
use Rattle.calculus.specs.Row.{Row, cells_of, map_row}
use Rattle.calculus.specs.Fill.{count_of, substitute}
use Rattle.calculus.proofs.All.{all_append}
use Rattle.calculus.proofs.Bools.{and_intro}
use Rattle.calculus.proofs.Cells.{put_other}
use Rattle.calculus.proofs.Counts.{count_of-append}
use Rattle.instance.specs.Rows.{words_of}
use Rattle.instance.proofs.Rows.{words_append}
use Rattle.undo_log.specs.Places.{places_in, places_of, is_place, are_places, put_at}

-- ---- how many they are

pub in_count : (x p : ℕ) (cs : List ℕ) → length (places_in x p cs) ≡ count_of x cs
unfolding places_in count_of
in_count x p [] = refl
in_count x p (c ∷ cs) = go (eqb c x) (in_count x (suc p) cs)
  where
    go : (b : Bool) → length (places_in x (suc p) cs) ≡ count_of x cs → length (cond b (p ∷ places_in x (suc p) cs) (places_in x (suc p) cs)) ≡ cond b (suc (count_of x cs)) (count_of x cs)
    go true e = ap suc e
    go false e = e

pub places_count : (x p : ℕ) (rs : List Row) → length (places_of x p rs) ≡ count_of x (cells_of rs)
unfolding places_of cells_of count_of
places_count x p [] = refl
places_count x p (r ∷ rs) =
    length-append (places_in x (suc p) r.cells) (places_of x (suc p + length r.cells) rs) ∙
    omega (arith, in_count x (suc p) r.cells, places_count x (suc p + length r.cells) rs, count_of-append x r.cells (cells_of rs))

-- ---- each is the place of a cell

-- past whole rows
pub place_past : (before rs : List Row) (q : ℕ) → is_place (before ++ rs) (length (words_of before) + q) ≡ is_place rs q
unfolding is_place words_of
place_past [] rs q = ap (is_place rs) (omega arith)
place_past (r ∷ before) rs q =
    let n = length r.cells in
    let w = length (words_of before) in
    let is : length (r.cells ++ words_of before) ≡ n + w = length-append r.cells (words_of before) in
    let at : suc (length (r.cells ++ words_of before)) + q ≡ suc (n + (w + q)) = omega arith in
    let past : n + (w + q) - n ≡ w + q = omega arith in
    ap (is_place (r ∷ before ++ rs)) at ∙
    rw (le-ltb (n + (w + q)) n (omega arith), past) (place_past before rs q)

-- in the first row
pub place_in : (r : Row) (rs : List Row) (j : ℕ) → j < length r.cells → is_place (r ∷ rs) (suc j) ≡ true
unfolding is_place
place_in r rs j l = rw (lt-ltb j (length r.cells) l) refl

module _ (x : ℕ) (before : List Row) (r : Row) (rs : List Row) where
  in-places :
      (p k : ℕ) (cs : List ℕ) → p ≡ length (words_of before) + suc k → k + length cs ≤ length r.cells → are_places (before ++ r ∷ rs) (places_in x p cs) ≡ true
  unfolding places_in all
  in-places p k [] e l = refl
  in-places p k (c ∷ cs) e l = go (eqb c x) (in-places (suc p) (suc k) cs (omega arith) (omega arith))
    where
      here : is_place (before ++ r ∷ rs) p ≡ true
      here = ap (is_place (before ++ r ∷ rs)) e ∙ place_past before (r ∷ rs) (suc k) ∙ place_in r rs k (omega arith)

      go : (b : Bool) → are_places (before ++ r ∷ rs) (places_in x (suc p) cs) ≡ true → are_places (before ++ r ∷ rs) (cond b (p ∷ places_in x (suc p) cs) (places_in x (suc p) cs)) ≡ true
      go true f = and_intro here f
      go false f = f

-- rows of the same shape: a map of cells changes no place
module _ (x : ℕ) (f : ℕ → ℕ) (more : List Row) where
  of_places :
      (before rs : List Row) (p : ℕ) → p ≡ length (words_of before) →
      are_places (before ++ (map (map_row f) rs ++ more)) (places_of x p rs) ≡ true
  unfolding places_of all words_of
  of_places before [] p e = refl
  of_places before (r ∷ rs) p e =
      let s : Row = map_row f r in
      let n = length r.cells in
      let same : length s.cells ≡ n = length-map r.cells f in
      let rest : List Row = map (map_row f) rs ++ more in
      let moved : (before ++ s ∷ []) ++ rest ≡ before ++ s ∷ rest = append_assoc before (s ∷ []) rest in
      let one : length (words_of (before ++ s ∷ [])) ≡ length (words_of before) + suc n =
      ap length (words_append before (s ∷ [])) ∙ length-append (words_of before) (words_of (s ∷ [])) ∙ omega (arith, length-append s.cells []) in
      all_append (is_place (before ++ s ∷ rest)) (places_in x (suc p) r.cells) (places_of x (suc p + n) rs)
      (in-places x before s rest (suc p) 0 r.cells (omega arith) (omega arith))
      (subst (λ (l : List Row). are_places l (places_of x (suc p + n) rs) ≡ true) moved (of_places (before ++ s ∷ []) rs (suc p + n) (omega (arith, one))))

-- after a fill, and with any rows after these
pub filled-places : (m c : ℕ) (rs more : List Row) → are_places (substitute m c rs ++ more) (places_of (null m) 0 rs) ≡ true
unfolding words_of
filled-places m c rs more = of_places (null m) (put m c) more [] rs 0 refl

-- ---- the null put back

put-append : (ps qs : List ℕ) (x : ℕ) (ws : List ℕ) → put_at (ps ++ qs) x ws ≡ put_at qs x (put_at ps x ws)
unfolding put_at
put-append [] qs x ws = refl
put-append (p ∷ ps) qs x ws = put-append ps qs x (set ws p x)

module _ (m c : ℕ) where
  -- among the words of one row
  in-back :
      (pre cs post : List ℕ) (p : ℕ) → length pre ≡ p →
      put_at (places_in (null m) p cs) (null m) (pre ++ (map (put m c) cs ++ post)) ≡ pre ++ (cs ++ post)
  unfolding places_in put_at
  in-back pre [] post p e = refl
  in-back pre (y ∷ cs) post p e =
      go (eqb y (null m)) refl
      (ap (put_at (places_in (null m) (suc p) cs) (null m)) (sym (append_assoc pre (y ∷ []) (map (put m c) cs ++ post))) ∙
      in-back (pre ++ y ∷ []) cs post (suc p) (length-append pre (y ∷ []) ∙ omega arith) ∙ append_assoc pre (y ∷ []) (cs ++ post))
    where
      go :
          (b : Bool) → eqb y (null m) ≡ b →
          put_at (places_in (null m) (suc p) cs) (null m) (pre ++ y ∷ (map (put m c) cs ++ post)) ≡ pre ++ y ∷ (cs ++ post) →
          put_at (cond b (p ∷ places_in (null m) (suc p) cs) (places_in (null m) (suc p) cs)) (null m) (pre ++ put m c y ∷ (map (put m c) cs ++ post)) ≡
          pre ++ y ∷ (cs ++ post)
      go true q next =
          let is : y ≡ null m = eqb-true y (null m) q in
          ap (put_at (places_in (null m) (suc p) cs) (null m))
          (set_at pre (put m c y) (map (put m c) cs ++ post) (null m) p e ∙ ap (λ (z : ℕ). pre ++ z ∷ (map (put m c) cs ++ post)) (sym is)) ∙
          next
      go false q next =
          ap (λ (z : ℕ). put_at (places_in (null m) (suc p) cs) (null m) (pre ++ z ∷ (map (put m c) cs ++ post))) (put_other m c y (eqb-false y (null m) q)) ∙ next

  -- among the words of rows
  rows_back :
      (pre : List ℕ) (rs : List Row) (post : List ℕ) (p : ℕ) → length pre ≡ p →
      put_at (places_of (null m) p rs) (null m) (pre ++ (words_of (substitute m c rs) ++ post)) ≡ pre ++ (words_of rs ++ post)
  unfolding places_of put_at words_of
  rows_back pre [] post p e = refl
  rows_back pre (r ∷ rs) post p e =
      let cs = r.cells in
      let n = length cs in
      let rest = words_of (substitute m c rs) in
      let head = pre ++ r.relation ∷ [] in
      let one : length head ≡ suc p = length-append pre (r.relation ∷ []) ∙ omega arith in
      let two : length (head ++ cs) ≡ suc p + n = length-append head cs ∙ omega arith in
      put-append (places_in (null m) (suc p) cs) (places_of (null m) (suc p + n) rs) (null m) (pre ++ r.relation ∷ ((map (put m c) cs ++ rest) ++ post)) ∙
      ap (λ (l : List ℕ). put_at (places_of (null m) (suc p + n) rs) (null m) (put_at (places_in (null m) (suc p) cs) (null m) l))
      (ap (λ (l : List ℕ). pre ++ r.relation ∷ l) (append_assoc (map (put m c) cs) rest post) ∙
      sym (append_assoc pre (r.relation ∷ []) (map (put m c) cs ++ (rest ++ post)))) ∙
      ap (put_at (places_of (null m) (suc p + n) rs) (null m)) (in-back head cs (rest ++ post) (suc p) one) ∙
      ap (put_at (places_of (null m) (suc p + n) rs) (null m)) (sym (append_assoc head cs (rest ++ post))) ∙
      rows_back (head ++ cs) rs post (suc p + n) two ∙
      append_assoc head cs (words_of rs ++ post) ∙
      append_assoc pre (r.relation ∷ []) (cs ++ (words_of rs ++ post)) ∙
      ap (λ (l : List ℕ). pre ++ r.relation ∷ l) (sym (append_assoc cs (words_of rs) post))

-- "the mark returns to exactly the cells it left"
pub put_back : (m c : ℕ) (rs : List Row) (post : List ℕ) → put_at (places_of (null m) 0 rs) (null m) (words_of (substitute m c rs) ++ post) ≡ words_of rs ++ post
put_back m c rs post = rows_back m c [] rs post 0 refl
