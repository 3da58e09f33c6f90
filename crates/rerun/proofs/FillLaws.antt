-- The loop over the fills of a run: the fills that are left lead to the same end. Assumes nothing.
use Prim.Native.Nat.{ℕ, suc, ◌+◌, ◌≤◌, ◌<◌}
use mathlib.Core.Path.{◌≡◌, refl, sym, ap, ap₂, ◌∙◌}
use mathlib.Core.List.{List, [], ◌∷◌, ◌++◌, append_assoc}
use native.Mathlib.Numerals.{add-one}
use native.Mathlib.Omega.{arith}
use lib.ListN.{length, take, drop, get_or, length-append, length-drop, take-append-drop}
use lib.Seq.{drop-cons, drop-drop, take_at, drop_at, length-take-le}
use Rattle.std.specs.Prelude.{Ok}
use Rattle.calculus.specs.Cell.{null}
use Rattle.calculus.specs.Model.{Fill, after_fills, fill_answers}
use Rattle.calculus.proofs.Counts.{count_of_le}
use Rattle.instance.specs.declared.header.Header.{Header}
use Rattle.instance.specs.Header.{max_words}
use Rattle.instance.specs.Run.{fill_answer}
use Rattle.instance.proofs.Accepted.{substitute-accepted}
use Rattle.instance.proofs.Fills.{held-words}
use Rattle.instance.proofs.Sound.{sound_gives}
use Rattle.rerun.specs.declared.fills.Wanted.{Wanted}
use Rattle.rerun.specs.Fills.{wanted, wanted_of, Filled, fill_told, fill_leaves, answer_words, fills_told, concatenated, stored}

-- a fill counts at most as many cells as an instance has words
pub count-few : (h : Header) (f : Fill) (ws : List ℕ) (k : ℕ) → fill_answer h f ws ≡ Ok k → k ≤ max_words
count-few h f ws k e =
    let a = substitute-accepted h ws f.log f.mark f.cell k e in
    let g = sound_gives h ws a.is_sound in
    omega (arith, a.count, held-words h ws a.is_sound f.mark, count_of_le (null f.mark) (take h.used ws), g.in_use, g.few)

-- the fill at index i
abbrev pub wanted_at : List ℕ → ℕ → Wanted
wanted_at fills i = wanted (get_or fills i 0) (get_or fills (i + 1) 0) (get_or fills (i + 2) 0)

-- at least three words are left, or fewer
fill_here : (fills : List ℕ) (i : ℕ) → i + 2 < length fills → wanted_of (drop i fills) ≡ wanted_at fills i ∷ wanted_of (drop (i + 3) fills)
unfolding wanted_of
fill_here fills i l =
    let two : i + 2 ≡ suc (suc i) = omega arith in
    let three : i + 3 ≡ suc (suc (suc i)) = omega arith in
    rw (add-one i, two, three)
    (ap wanted_of
    (drop-cons fills i 0 (omega arith) ∙
    ap (λ (l : List ℕ). get_or fills i 0 ∷ l)
    (drop-cons fills (suc i) 0 (omega arith) ∙ ap (λ (l : List ℕ). get_or fills (suc i) 0 ∷ l) (drop-cons fills (suc (suc i)) 0 (omega arith)))))

fills-short : (l : List ℕ) → length l ≤ 2 → wanted_of l ≡ []
unfolding wanted_of
fills-short [] e = refl
fills-short (m ∷ []) e = refl
fills-short (m ∷ c ∷ []) e = refl
fills-short (m ∷ c ∷ k ∷ l) e = absurd (omega arith)

no_fill : (fills : List ℕ) (i : ℕ) → length fills ≤ i + 2 → wanted_of (drop i fills) ≡ []
no_fill fills i l = fills-short (drop i fills) (omega (arith, length-drop i fills))

-- an answer of k words, stored before those that follow
module _ (xs : List ℕ) (k : ℕ) (size : length xs ≡ k) where
  stored_cons : (more : List (List ℕ)) (out : List ℕ) → stored (xs ∷ more) out ≡ xs ++ stored more (drop k out)
  unfolding concatenated
  stored_cons more out =
      let n = length (concatenated more) in
      let sum : length (xs ++ concatenated more) ≡ k + n = omega (arith, length-append xs (concatenated more), size) in
      append_assoc xs (concatenated more) (drop (length (xs ++ concatenated more)) out) ∙
      ap (λ (l : List ℕ). xs ++ (concatenated more ++ l)) (ap (λ (j : ℕ). drop j out) sum ∙ sym (drop-drop n k out))

  stored_here :
      (i : ℕ) (more : List (List ℕ)) (out out' : List ℕ) → i ≤ length out → out' ≡ take i out ++ (xs ++ drop k (drop i out)) →
      take (i + k) out' ++ stored more (drop (i + k) out') ≡ take i out ++ stored (xs ∷ more) (drop i out)
  stored_here i more out out' l e =
      let back = drop k (drop i out) in
      let front = take i out ++ xs in
      let long : length front ≡ i + k = length-append (take i out) xs ∙ omega (arith, length-take-le i out l, size) in
      let split : take i out ++ (xs ++ back) ≡ front ++ back = sym (append_assoc (take i out) xs back) in
      ap (λ (o : List ℕ). take (i + k) o ++ stored more (drop (i + k) o)) (e ∙ split) ∙
      ap₂ (λ (a b : List ℕ). a ++ stored more b) (take_at front back (i + k) long) (drop_at front back (i + k) long) ∙
      append_assoc (take i out) xs (stored more back) ∙
      ap (λ (o : List ℕ). take i out ++ o) (sym (stored_cons more (drop i out)))

-- the loop at index i: the fills that are left lead from here to the same end as all fills from the start
pub record Going (h : Header) (fills : List ℕ) (s₀ : Filled) (out₀ : List ℕ) (s : Filled) (out : List ℕ) (i : ℕ) : Type 0 where
  pub left : after_fills (fill_leaves h) (wanted_of (drop i fills)) s ≡ after_fills (fill_leaves h) (wanted_of fills) s₀
  pub answers : take i out ++ stored (fills_told h (wanted_of (drop i fills)) s) (drop i out) ≡ stored (fills_told h (wanted_of fills) s₀) out₀

module _ (h : Header) (fills : List ℕ) (s₀ : Filled) (out₀ : List ℕ) where
  pub begin : Going h fills s₀ out₀ s₀ out₀ 0
  begin = record { left = refl; answers = refl }

  module _ (s : Filled) (out : List ℕ) (i : ℕ) (g : Going h fills s₀ out₀ s out i) where
    -- one more fill
    pub step :
        i + 2 < length fills → i ≤ length out → (s' : Filled) (out' : List ℕ) →
        s' ≡ fill_leaves h (wanted_at fills i) s →
        out' ≡ take i out ++ (answer_words (wanted_at fills i) (fill_told h (wanted_at fills i) s) ++ drop 3 (drop i out)) →
        Going h fills s₀ out₀ s' out' (i + 3)
    unfolding after_fills fill_answers
    step l room s' out' es eo =
        let w = wanted_at fills i in
        let ws = wanted_of (drop (i + 3) fills) in
        let here = fill_here fills i l in
        record {
          left = ap (after_fills (fill_leaves h) ws) es ∙ ap (λ (x : List Wanted). after_fills (fill_leaves h) x s) (sym here) ∙ g.left;
          answers =
              ap (λ (x : Filled). take (i + 3) out' ++ stored (fills_told h ws x) (drop (i + 3) out')) es ∙
              stored_here (answer_words w (fill_told h w s)) 3 refl i (fills_told h ws (fill_leaves h w s)) out out' room eo ∙
              ap (λ (x : List Wanted). take i out ++ stored (fills_told h x s) (drop i out)) (sym here) ∙ g.answers;
        }

    -- no fill is left
    pub finish :
        length fills ≤ i + 2 →
        (s ≡ after_fills (fill_leaves h) (wanted_of fills) s₀) × (out ≡ stored (fills_told h (wanted_of fills) s₀) out₀)
    unfolding after_fills fill_answers concatenated
    finish l =
        let none = no_fill fills i l in (
          ap (λ (x : List Wanted). after_fills (fill_leaves h) x s) (sym none) ∙ g.left,
          sym (take-append-drop i out) ∙ ap (λ (x : List Wanted). take i out ++ stored (fills_told h x s) (drop i out)) (sym none) ∙ g.answers,
        )
