-- If every completion satisfies a positive formula, the verdict is true. Each null is given a constant that is nowhere
-- else; then the way back is a homomorphism from the completed plot into the plot. Assumes nothing.
use Prim.Native.Nat.{ℕ, ◌<◌}
use mathlib.Core.Path.{◌≡◌, refl, sym, ap, ◌∙◌, subst}
use mathlib.Core.Bool.{Bool, true, false, ◌&&◌}
use mathlib.Core.Logic.{◌↔◌, ⊎_elim}
use mathlib.Core.List.{List, ◌∷◌, ◌++◌, map, map-map, Memᴰ}
use mathlib.Core.List.Memᴰ
use lib.ListN.{length}
use Rattle.calculus.specs.declared.truth.Truth.TheVariants.{True}
use Rattle.calculus.specs.All.{all}
use Rattle.calculus.specs.Cell.{is_cell}
use Rattle.calculus.specs.Row.{Row, map_row, cells_of}
use Rattle.calculus.specs.Formula.{Query, inked_query, constants_pass, assignment}
use Rattle.calculus.specs.Unify.{Valuation, under}
use Rattle.calculus.specs.Domain.{range_over}
use Rattle.calculus.specs.Closed.{tuples}
use Rattle.calculus.specs.TwoValued.{says}
use Rattle.calculus.specs.Model.{Model, outcome_of, says_yes, valued}
use Rattle.calculus.proofs.All.{all_parts, all_split, all_member, all_both}
use Rattle.calculus.proofs.Certain.{certain}
use Rattle.calculus.proofs.Constants.{fixes_all}
use Rattle.calculus.proofs.Distinct.{distinct_member}
use Rattle.calculus.proofs.Fills.{assignment-map}
use Rattle.calculus.proofs.Rows.{cells-map}
use Rattle.calculus.proofs.Tuples.{tuples-map, tuples-pass}
use Rattle.plain.proofs.Positive.{positive}
use Rattle.plain.proofs.Naive.{naive}
use Rattle.plain.proofs.Homomorphism.{Homomorphism, preserved}
use Rattle.plain.proofs.Fresh.{blocks, outside, free_block, fresh, back, back_outside, back_fresh}

-- the values that fresh constants differ from: those of the plot, the candidate and the question, and the 0 of a
-- variable that has no cell
abbrev pub in_use : Model → Query → List ℕ
in_use b q = 0 ∷ cells_of b.rows ++ (b.candidate ++ q.named)

-- what holds of a plain question that passed its check, and of a sound plot
pub record Plain (b : Model) (q : Query) : Type 0 where
  pub is-inked : inked_query q ≡ true
  pub is_positive : positive q.formula ≡ true
  -- every constant of the formula is among those that the question names
  pub names : (test : ℕ → Bool) → all test q.named ≡ true → constants_pass test q.formula ≡ true
  pub row-cells : all is_cell (cells_of b.rows) ≡ true
  pub candidate-cells : all is_cell b.candidate ≡ true
  pub few : length (in_use b q) < blocks

-- the cells that come back
abbrev comes_back : ℕ → ℕ → Bool
comes_back k c = is_cell c && outside k c

module _ (k : ℕ) (low : k < blocks) where
  abbrev filled : ℕ → ℕ
  filled = under (fresh k low)

  undone : (cs : List ℕ) → all (comes_back k) cs ≡ true → map (back k low) (map filled cs) ≡ cs
  undone cs e =
      map-map (back k low) filled cs ∙ fixes_all (comes_back k) (λ c. back k low (filled c)) (back_fresh k low) cs e

  back-homomorphism :
      (rs : List Row) (named : List ℕ) → outside k 0 ≡ true → all (comes_back k) (cells_of rs) ≡ true →
      all (outside k) named ≡ true →
      Homomorphism (back k low) (range_over named (map (map_row filled) rs)) (map (map_row filled) rs)
      (range_over named rs) rs
  back-homomorphism rs named zero cells terms = record {
    zero = back_outside k low 0 zero;
    rows = λ r row m.
        let t = Memᴰ.of_map (map filled) (tuples r rs) (rw (tuples-map filled r rs) at m) in
        let each = all_member (all (comes_back k)) (tuples r rs) t.1 (tuples-pass (comes_back k) r rs cells) in
        Memᴰ.cast (ap (map (back k low)) (sym t.2) ∙ undone t.0 each) t.1;
    ranges = λ c m.
        (distinct_member (cells_of rs ++ named)).1
        (⊎_elim (cell c) (term c)
        (Memᴰ.append_cases (map filled (cells_of rs))
        (rw (cells-map filled rs) at ((distinct_member (cells_of (map (map_row filled) rs) ++ named)).0 m))));
  }
    where
      cell : (c : ℕ) → Memᴰ c (map filled (cells_of rs)) → Memᴰ (back k low c) (cells_of rs ++ named)
      cell c m =
          let x = Memᴰ.of_map filled (cells_of rs) m in
          let comes = all_member (comes_back k) (cells_of rs) x.1 cells in
          Memᴰ.cast (ap (back k low) (sym x.2) ∙ back_fresh k low x.0 comes) (Memᴰ.append_left named x.1)

      term : (c : ℕ) → Memᴰ c named → Memᴰ (back k low c) (cells_of rs ++ named)
      term c m =
          Memᴰ.cast (back_outside k low c (all_member (outside k) named m terms)) (Memᴰ.append_right (cells_of rs) m)

module _ (b : Model) (q : Query) (p : Plain b q) where
  free : (k : ℕ) × (k < blocks) × (all (outside k) (in_use b q) ≡ true)
  free = free_block (in_use b q) p.few

  -- each null gets a constant of its own that is nowhere in plot, candidate and question
  pub freshly : Valuation
  freshly = fresh free.0 free.1

  pub freshly_true : says_yes (valued freshly b) q ≡ true → (outcome_of b q).truth ≡ True
  unfolding freshly
  freshly_true yes-there =
      let k = free.0 in
      let low = free.1 in
      let there = valued (fresh k low) b in
      let zero = all_parts (outside k) 0 (cells_of b.rows ++ (b.candidate ++ q.named)) free.2 in
      let cells = all_split (outside k) (cells_of b.rows) (b.candidate ++ q.named) zero.1 in
      let rest = all_split (outside k) b.candidate q.named cells.1 in
      let rows = all_both is_cell (outside k) (cells_of b.rows) p.row-cells cells.0 in
      let candidate =
      undone k low b.candidate (all_both is_cell (outside k) b.candidate p.candidate-cells rest.0)
      in
      let hom = back-homomorphism k low b.rows q.named zero.0 rows rest.1 in
      let assigned : map (back k low) (assignment there.candidate) ≡ assignment b.candidate =
      assignment-map (back k low) hom.zero there.candidate ∙ ap assignment candidate
      in
      let yes-here =
      preserved (outside k) (back k low) (back_outside k low) (range_over q.named there.rows) there.rows
      (range_over q.named b.rows) b.rows hom q.formula p.is_positive (p.names (outside k) rest.1)
      (assignment there.candidate) yes-there
      in
      (naive (range_over q.named b.rows) b.rows q.formula p.is_positive (assignment b.candidate)).1
      (subst (λ (e : List ℕ). says (range_over q.named b.rows) b.rows q.formula e ≡ true) assigned yes-here)

  -- "true exactly when the completed plot and candidate satisfy the question for every giving of inked values to all
  -- marks"
  pub exact : (outcome_of b q).truth ≡ True ↔ ((v : Valuation) → says_yes (valued v b) q ≡ true)
  exact = ((λ t v. certain v b q true p.is-inked t), (λ all. freshly_true (all freshly)))

  -- if the verdict is not true, this completion does not satisfy the question
  pub otherwise : ((outcome_of b q).truth ≡ True → ⊥) → says_yes (valued freshly b) q ≡ false
  otherwise not-true = go (says_yes (valued freshly b) q) refl
    where
      go : (t : Bool) → says_yes (valued freshly b) q ≡ t → t ≡ false
      go true e = absurd (not-true (freshly_true e))
      go false e = refl
