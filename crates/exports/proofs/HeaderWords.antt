-- A header as words: what is written part by part is the header's words, and reading them and writing them are inverse to each other. Assumes nothing.
use Prim.Native.Nat.{ℕ, ◌+◌}
use mathlib.Core.Path.{◌≡◌, refl, sym, ap, ap₂, ◌∙◌}
use mathlib.Core.List.{List, [], ◌∷◌, ◌++◌, append-nil, append_assoc}
use native.Mathlib.Nat.{le_of_eq}
use native.Mathlib.Omega.{arith}
use lib.ListN.{length, get_or, take, drop, set, length-append, length-drop, take-append-drop, drop_of_length-le}
use lib.Seq.{take_at, take_all, drop_at, drop-drop, drop-cons, drop-set-lt, take-suc-set, set_at, paste, length-take-le, get_or-append-add}
use Rattle.instance.specs.declared.header.Header.{Header}
use Rattle.instance.specs.Header.{max_relations, header_with}
use Rattle.exports.specs.Words.{relations_at, arities_at, used_at, row_counts_at, header_length, header_of, header_words}

-- eight arities and eight counts
pub record Eight (h : Header) : Type 0 where
  pub arities : length h.arities ≡ max_relations
  pub counts : length h.counts ≡ max_relations

module _ (h : Header) (e : Eight h) where
  -- the words before the counts
  abbrev front : List ℕ
  front = h.relations ∷ h.arities ++ h.used ∷ []

  front_size : length front ≡ row_counts_at
  front_size = length-append (h.relations ∷ h.arities) (h.used ∷ []) ∙ omega (arith, e.arities)

  front_then : (rest : List ℕ) → h.relations ∷ h.arities ++ h.used ∷ rest ≡ front ++ rest
  front_then rest = sym (append_assoc (h.relations ∷ h.arities) (h.used ∷ []) rest)

  pub words_size : length (header_words h) ≡ header_length
  unfolding header_words
  words_size = ap length (front_then h.counts) ∙ length-append front h.counts ∙ omega (arith, front_size, e.counts)

  pub header_back : header_of (header_words h) ≡ h
  unfolding header_of header_words
  header_back =
      let last = h.used ∷ h.counts in
      let at : max_relations ≡ length h.arities + 0 = omega (arith, e.arities) in
      let used : get_or (h.arities ++ last) max_relations 0 ≡ h.used = ap (λ (k : ℕ). get_or (h.arities ++ last) k 0) at ∙ get_or-append-add h.arities last 0 0 in
      let counts : take max_relations (drop row_counts_at (header_words h)) ≡ h.counts =
      ap (λ (l : List ℕ). take max_relations (drop row_counts_at l)) (front_then h.counts) ∙ ap (take max_relations) (drop_at front h.counts row_counts_at front_size) ∙
      take_all max_relations h.counts (le_of_eq e.counts)
      in
      ap₂ (λ (ars : List ℕ) (u : ℕ). header_with h.relations ars u (take max_relations (drop row_counts_at (header_words h)))) (take_at h.arities last max_relations e.arities) used ∙
      ap (header_with h.relations h.arities h.used) counts

  -- each part written in its place, over words of the header's length
  module _ (ws : List ℕ) (long : length ws ≡ header_length) where
    abbrev arities-put : List ℕ
    arities-put = paste (set ws relations_at h.relations) arities_at h.arities max_relations

    abbrev used_put : List ℕ
    used_put = set arities-put used_at h.used

    used_written : used_put ≡ front ++ drop row_counts_at ws
    used_written =
        let rest = get_or ws used_at 0 ∷ drop row_counts_at ws in
        let behind : drop used_at (set ws relations_at h.relations) ≡ rest = drop-set-lt used_at ws relations_at h.relations (omega arith) ∙ drop-cons ws used_at 0 (omega arith) in
        let put : arities-put ≡ (h.relations ∷ h.arities) ++ rest =
        rw (take-suc-set ws relations_at h.relations (omega arith), take_all max_relations h.arities (le_of_eq e.arities), behind) refl
        in
        ap (λ (l : List ℕ). set l used_at h.used) put ∙
        set_at (h.relations ∷ h.arities) (get_or ws used_at 0) (drop row_counts_at ws) h.used used_at (omega (arith, e.arities)) ∙ front_then (drop row_counts_at ws)

    pub parts_written : paste used_put row_counts_at h.counts max_relations ≡ header_words h
    unfolding header_words
    parts_written =
        let all = front ++ drop row_counts_at ws in
        let none : drop header_length all ≡ [] = drop_of_length-le all {i = header_length} (omega (arith, length-append front (drop row_counts_at ws), length-drop row_counts_at ws, front_size)) in
        ap₂ (λ (l k : List ℕ). take row_counts_at l ++ k ++ drop header_length l) used_written (take_all max_relations h.counts (le_of_eq e.counts)) ∙
        ap₂ (λ (l k : List ℕ). l ++ h.counts ++ k) (take_at front (drop row_counts_at ws) row_counts_at front_size) none ∙
        append-nil (front ++ h.counts) ∙ sym (front_then h.counts)

module _ (hs : List ℕ) (long : length hs ≡ header_length) where
  pub words_back : header_words (header_of hs) ≡ hs
  unfolding header_of header_words
  words_back =
      let last : take max_relations (drop row_counts_at hs) ≡ drop row_counts_at hs = take_all max_relations (drop row_counts_at hs) (simp length-drop (omega arith)) in
      let rest : drop max_relations (drop arities_at hs) ≡ get_or hs used_at 0 ∷ take max_relations (drop row_counts_at hs) =
      drop-drop max_relations arities_at hs ∙ drop-cons hs used_at 0 (omega arith) ∙ ap (λ (l : List ℕ). get_or hs used_at 0 ∷ l) (sym last)
      in
      ap (λ (l : List ℕ). get_or hs relations_at 0 ∷ (take max_relations (drop arities_at hs) ++ l)) (sym rest) ∙
      ap (λ (l : List ℕ). get_or hs relations_at 0 ∷ l) (take-append-drop max_relations (drop arities_at hs)) ∙ sym (drop-cons hs relations_at 0 (omega arith))

  pub has_eight : Eight (header_of hs)
  unfolding header_of
  has_eight = record {
    arities = length-take-le max_relations (drop arities_at hs) (omega (arith, length-drop arities_at hs));
    counts = length-take-le max_relations (drop row_counts_at hs) (omega (arith, length-drop row_counts_at hs));
  }
