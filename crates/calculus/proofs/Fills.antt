-- What a list of fills does to a verdict and its cost: the whole list acts as one map of cells, and a refused fill as the identity. Assumes
-- nothing.
use Prim.Native.Nat.{ℕ, zero, suc, ◌-◌}
use mathlib.Core.Path.{◌≡◌, refl, sym, ap, ◌∙◌, subst}
use mathlib.Core.Bool.{true}
use mathlib.Core.List.{List, [], ◌∷◌, ◌++◌, map, map-map, map-append}
use native.Mathlib.Omega.{arith}
use lib.ListN.{length, length-map, replicate}
use borrow.Author.Tests.{ltb-true, leb-true}
use Rattle.calculus.specs.Answer.{Answer}
use Rattle.std.specs.Prelude.{Ok, Err}
use Rattle.calculus.specs.Answer.{after}
use Rattle.calculus.specs.Cell.{constants, is_cell, is_mark, put, all_constant}
use Rattle.calculus.specs.Row.{Row, map_row}
use Rattle.calculus.specs.Formula.{Query, inked, inked_query, assignment, variables}
use Rattle.calculus.specs.Eval.{eval}
use Rattle.calculus.specs.Closed.{closed}
use Rattle.calculus.specs.Order.{◌⊑ₒ◌, Keeps}
use Rattle.calculus.specs.Fill.{substitute}
use Rattle.calculus.specs.Model.{Fill, Model, outcome_of, answer_of, next, run, after_fills}
use Rattle.calculus.proofs.Answers.{demand_done}
use Rattle.calculus.proofs.Bools.{and_parts}
use Rattle.calculus.proofs.Cells.{put_other, put-cell}
use Rattle.calculus.proofs.ClosedImage.{closed-kept}
use Rattle.calculus.proofs.Lists.{map_identity}

-- ---- the assignment of a candidate

zeros_kept : (h : ℕ → ℕ) → h 0 ≡ 0 → (n : ℕ) → map h (replicate n 0) ≡ replicate n 0
zeros_kept h keeps zero = refl
zeros_kept h keeps (suc n) = rw (keeps, zeros_kept h keeps n) refl

pub assignment-map : (h : ℕ → ℕ) → h 0 ≡ 0 → (cs : List ℕ) → map h (assignment cs) ≡ assignment (map h cs)
assignment-map h keeps cs =
    map-append h cs (replicate (variables - length cs) 0) ∙
    ap (λ (l : List ℕ). map h cs ++ l) (zeros_kept h keeps (variables - length cs)) ∙
    ap (λ (n : ℕ). map h cs ++ replicate (variables - n) 0) (sym (length-map cs h))

-- ---- a map of rows and candidate

-- b' is b under a map of cells that leaves constants as they are and maps cells to cells
pub record Mapped (b b' : Model) : Type 0 where
  pub by : ℕ → ℕ
  pub keeps : Keeps by
  pub cells : (c : ℕ) → is_cell c ≡ true → is_cell (by c) ≡ true
  pub rows : b'.rows ≡ map (map_row by) b.rows
  pub candidate : b'.candidate ≡ map by b.candidate

pub mapped_kept : {b b' : Model} → Mapped b b' → (f : Query) → inked_query f ≡ true → outcome_of b f ⊑ₒ outcome_of b' f
mapped_kept {b} {b'} m f k =
    let i = and_parts (inked f.formula) (all_constant f.named) k in
    rw (m.rows, m.candidate)
    (subst (λ (e : List ℕ). outcome_of b f ⊑ₒ eval (closed f.named (map (map_row m.by) b.rows)) f.formula e)
    (assignment-map m.by (m.keeps 0 refl) b.candidate)
    (closed-kept m.by m.keeps f.formula i.0 f.named i.1 b.rows (assignment b.candidate)))

rows_none : (rs : List Row) → map (map_row (λ c. c)) rs ≡ rs
rows_none [] = refl
rows_none (r ∷ rs) = rw (map_identity r.cells, rows_none rs) refl

rows-twice : (g h : ℕ → ℕ) (rs : List Row) → map (map_row g) (map (map_row h) rs) ≡ map (map_row (λ c. g (h c))) rs
rows-twice g h [] = refl
rows-twice g h (r ∷ rs) = rw (map-map g h r.cells, rows-twice g h rs) refl

mapped_none : (b : Model) → Mapped b b
mapped_none b = record {
  by = λ c. c;
  keeps = λ c k. refl;
  cells = λ c k. k;
  rows = sym (rows_none b.rows);
  candidate = sym (map_identity b.candidate);
}

mapped_twice : {a b c : Model} → Mapped a b → Mapped b c → Mapped a c
mapped_twice {a} {b} {c} m n = record {
  by = λ x. n.by (m.by x);
  keeps = λ x k. ap n.by (m.keeps x k) ∙ n.keeps x k;
  cells = λ x k. n.cells (m.by x) (m.cells x k);
  rows = n.rows ∙ ap (map (map_row n.by)) m.rows ∙ rows-twice n.by m.by a.rows;
  candidate = n.candidate ∙ ap (map n.by) m.candidate ∙ map-map n.by m.by a.candidate;
}

-- ---- one fill, and a list of them

pub put_keeps : (m c : ℕ) → is_mark m ≡ true → Keeps (put m c)
put_keeps m c mark x k =
    let b = and_parts _ _ mark in
    put_other m c x (λ e. omega (arith, ltb-true x constants k, leb-true 1 m b.0))

pub mapped_next : (f : Fill) (b : Model) → Mapped b (next f b)
mapped_next f b = go (answer_of f b) refl
  where
    filled_model : Model
    filled_model = record { rows = substitute f.mark f.cell b.rows; candidate = map (put f.mark f.cell) b.candidate }

    go : (a : Answer) → answer_of f b ≡ a → Mapped b (after a filled_model b)
    go (Ok n) e =
        let mark = demand_done (is_mark f.mark) _ _ n e in
        let cell = demand_done (is_cell f.cell) _ _ n mark.1 in
        record {
          by = put f.mark f.cell;
          keeps = put_keeps f.mark f.cell mark.0;
          cells = λ x k. put-cell f.mark f.cell x cell.0 k;
          rows = refl;
          candidate = refl;
        }
    go (Err r) e = mapped_none b

pub mapped_run : (fs : List Fill) (b : Model) → Mapped b (run fs b)
unfolding after_fills
mapped_run [] b = mapped_none b
mapped_run (f ∷ fs) b = mapped_twice (mapped_next f b) (mapped_run fs (next f b))

-- one fill, refused or not, unsettles no verdict and raises no cost
pub fill-kept : (f : Fill) (b : Model) (g : Query) → inked_query g ≡ true → outcome_of b g ⊑ₒ outcome_of (next f b) g
fill-kept f b = mapped_kept (mapped_next f b)

-- the same for the whole list, refused fills included
pub fills-kept : (fs : List Fill) (b : Model) (g : Query) → inked_query g ≡ true → outcome_of b g ⊑ₒ outcome_of (run fs b) g
fills-kept fs b = mapped_kept (mapped_run fs b)
