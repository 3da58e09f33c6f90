-- The constants that a question names are its inked terms, word by word. Assumes nothing.
use Prim.Native.Nat.{ℕ, zero, suc, ◌+◌, ◌-◌, ◌≤◌, ◌<◌}
use mathlib.Core.Path.{◌≡◌, refl, sym, ap, ap₂, ◌∙◌}
use mathlib.Core.Bool.{Bool, true, false, ◌&&◌, not, cond}
use mathlib.Core.List.{List, [], ◌∷◌, ◌++◌, append-nil}
use native.Mathlib.Omega.{arith}
use borrow.Author.Tests.{not-true}
use lib.Dec.{ltb}
use lib.ListN.{get_or, replicate, get_or-replicate, length-replicate, get_or-eq_default}
use Rattle.calculus.specs.All.{all}
use Rattle.calculus.proofs.All.{all_get_d}
use Rattle.instance.specs.Header.{arity_of}
use Rattle.query.specs.Words.{Kind, row_stands, equals, negates, no_such_kind, joins, ranges, kind_of}
use Rattle.query.specs.Named.{inked_at, named_by, named_from}
use Rattle.wellformed.specs.WellFormed.{Role, relation, term, unnamed, nodes, word, role}
use Rattle.wellformed.specs.InkedTerms.{is_term_role, inked_words, inked_nodes, NamedWords}
use Rattle.wellformed.proofs.NodeWords.{row_of, role-is}
use Rattle.wellformed.proofs.NodeLaws.{role_zero}

module _ (ars qs : List ℕ) (i : ℕ) where
  -- k words from word j that are no terms, and k that are
  no_terms : (j k : ℕ) → ((m : ℕ) → j ≤ m → m < j + k → is_term_role (role ars qs i m) ≡ false) → inked_words ars qs i j k ≡ []
  unfolding inked_words
  no_terms j zero h = refl
  no_terms j (suc k) h = rw (h j (omega arith) (omega arith)) (no_terms (suc j) k (λ m a b. h m (omega arith) (omega arith)))

  all-terms : (j k : ℕ) → ((m : ℕ) → j ≤ m → m < j + k → is_term_role (role ars qs i m) ≡ true) → inked_words ars qs i j k ≡ inked_at qs i j k
  unfolding inked_words inked_at
  all-terms j zero h = refl
  all-terms j (suc k) h = rw (h j (omega arith) (omega arith), all-terms (suc j) k (λ m a b. h m (omega arith) (omega arith))) refl

  words_append : (j a b : ℕ) → inked_words ars qs i j (a + b) ≡ inked_words ars qs i j a ++ inked_words ars qs i (j + a) b
  unfolding inked_words
  words_append j zero b = let e : j + 0 ≡ j = omega arith in let f : 0 + b ≡ b = omega arith in rw (e, f) refl
  words_append j (suc a) b =
      let e : suc a + b ≡ suc (a + b) = omega arith in
      let f : j + suc a ≡ suc j + a = omega arith in
      rw (e, f) (go (is_term_role (role ars qs i j) && ltb (word qs i j) 1000000) (words_append (suc j) a b))
    where
      go :
          (t : Bool) → inked_words ars qs i (suc j) (a + b) ≡ inked_words ars qs i (suc j) a ++ inked_words ars qs i (suc j + a) b →
          cond t (word qs i j ∷ inked_words ars qs i (suc j) (a + b)) (inked_words ars qs i (suc j) (a + b)) ≡
          cond t (word qs i j ∷ inked_words ars qs i (suc j) a) (inked_words ars qs i (suc j) a) ++ inked_words ars qs i (suc j + a) b
      go true ih = ap (λ (l : List ℕ). word qs i j ∷ l) ih
      go false ih = ih

  -- the words from f to f + t are the terms
  terms-between :
      (f t : ℕ) → f + t ≤ 8 → ((m : ℕ) → m < f → is_term_role (role ars qs i m) ≡ false) →
      ((m : ℕ) → f ≤ m → m < f + t → is_term_role (role ars qs i m) ≡ true) → ((m : ℕ) → f + t ≤ m → is_term_role (role ars qs i m) ≡ false) →
      inked_words ars qs i 0 8 ≡ inked_at qs i f t
  terms-between f t l before within after =
      let rest = 8 - (f + t) in
      let whole : f + (t + rest) ≡ 8 = omega arith in
      let start : 0 + f ≡ f = omega arith in
      ap (inked_words ars qs i 0) (sym whole) ∙ words_append 0 f (t + rest) ∙
      ap₂ (λ (a b : List ℕ). a ++ b) (no_terms 0 f (λ m a b. before m (omega arith)))
      (ap (λ (n : ℕ). inked_words ars qs i n (t + rest)) start ∙ words_append f t rest ∙
      ap₂ (λ (a b : List ℕ). a ++ b) (all-terms f t within) (no_terms (f + t) rest (λ m a b. after m a)) ∙
      append-nil (inked_at qs i f t))

  -- the arity of the relation that word 1 names
  abbrev a : ℕ
  a = arity_of ars (word qs i 1)

  no_term_zero : is_term_role (role ars qs i 0) ≡ false
  no_term_zero = ap is_term_role (role_zero ars qs i)

  -- no word of such a node is read as a term
  none_read : (k : Kind) → kind_of (word qs i 0) ≡ k → all (λ r. not (is_term_role r)) (row_of k a) ≡ true → inked_words ars qs i 0 8 ≡ []
  none_read k e others = no_terms 0 8 (λ m a b. none m)
    where
      none : (m : ℕ) → is_term_role (role ars qs i m) ≡ false
      none zero = no_term_zero
      none (suc m) =
          ap is_term_role (role-is ars qs i m k e) ∙
          not-true (is_term_role (get_or (row_of k a) m unnamed)) (all_get_d (λ r. not (is_term_role r)) (row_of k a) m unnamed refl others)

  node_words_lem : ((r : ℕ) → get_or ars r 0 ≤ 6) → (k : Kind) → kind_of (word qs i 0) ≡ k → inked_words ars qs i 0 8 ≡ named_by ars qs i k
  unfolding all inked_at
  node_words_lem narrow row_stands e = terms-between 2 a (omega (arith, narrow (word qs i 1))) before within after
    where
      at : (m : ℕ) → role ars qs i (suc m) ≡ get_or (relation ∷ replicate a term) m unnamed
      at m = role-is ars qs i m row_stands e

      before : (m : ℕ) → m < 2 → is_term_role (role ars qs i m) ≡ false
      before zero l = no_term_zero
      before (suc zero) l = ap is_term_role (at 0)
      before (suc (suc m)) l = absurd (omega arith)

      within : (m : ℕ) → 2 ≤ m → m < 2 + a → is_term_role (role ars qs i m) ≡ true
      within zero l h = absurd (omega arith)
      within (suc zero) l h = absurd (omega arith)
      within (suc (suc m)) l h = ap is_term_role (at (suc m) ∙ get_or-replicate a m term unnamed (omega arith))

      after : (m : ℕ) → 2 + a ≤ m → is_term_role (role ars qs i m) ≡ false
      after zero l = absurd (omega arith)
      after (suc zero) l = absurd (omega arith)
      after (suc (suc m)) l =
          ap is_term_role (at (suc m) ∙ get_or-eq_default (replicate a term) unnamed {n = m} (omega (arith, length-replicate {A = Role} a term)))
  node_words_lem narrow equals e = terms-between 1 2 (omega arith) before within after
    where
      before : (m : ℕ) → m < 1 → is_term_role (role ars qs i m) ≡ false
      before zero l = no_term_zero
      before (suc m) l = absurd (omega arith)

      within : (m : ℕ) → 1 ≤ m → m < 1 + 2 → is_term_role (role ars qs i m) ≡ true
      within zero l h = absurd (omega arith)
      within (suc zero) l h = ap is_term_role (role-is ars qs i 0 equals e)
      within (suc (suc zero)) l h = ap is_term_role (role-is ars qs i 1 equals e)
      within (suc (suc (suc m))) l h = absurd (omega arith)

      after : (m : ℕ) → 1 + 2 ≤ m → is_term_role (role ars qs i m) ≡ false
      after zero l = absurd (omega arith)
      after (suc zero) l = absurd (omega arith)
      after (suc (suc zero)) l = absurd (omega arith)
      after (suc (suc (suc m))) l = ap is_term_role (role-is ars qs i (suc (suc m)) equals e)
  node_words_lem narrow negates e = none_read negates e refl
  node_words_lem narrow (joins j) e = none_read (joins j) e refl
  node_words_lem narrow (ranges j) e = none_read (ranges j) e refl
  node_words_lem narrow no_such_kind e = none_read no_such_kind e refl

pub named-words : NamedWords
unfolding named_from inked_nodes
named-words ars qs narrow = from 0 (nodes qs)
  where
    from : (i k : ℕ) → named_from ars qs i k ≡ inked_nodes ars qs i k
    from i zero = refl
    from i (suc k) = ap₂ (λ (a b : List ℕ). a ++ b) (sym (node_words_lem ars qs i narrow (kind_of (word qs i 0)) refl)) (from (suc i) k)
