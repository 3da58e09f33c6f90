-- The words of a node's terms, and the constants among them. Assumes nothing.
use Prim.Native.Nat.{ℕ, zero, suc, ◌+◌, ◌-◌, ◌*◌, ◌≤◌, ◌<◌}
use mathlib.Core.Path.{◌≡◌, refl, sym, ap, ◌∙◌}
use mathlib.Core.Bool.{Bool, true, false, cond}
use mathlib.Core.List.{List, [], ◌∷◌, ◌++◌, append-nil}
use native.Mathlib.Numerals.{add-one}
use native.Mathlib.Omega.{arith}
use borrow.Author.Tests.{lt-ltb, le-ltb}
use lib.ListN.{length, get_or, take, drop}
use lib.Seq.{take-suc}
use Rattle.std.specs.List.{count_by}
use Rattle.std.proofs.lemmas.List.Recursion.{is_count_by}
use Rattle.calculus.specs.Cell.{is_constant}
use Rattle.calculus.proofs.Lists.{drop_step}
use Rattle.query.specs.Words.{Kind, row_stands, equals, negates, no_such_kind, joins, ranges, kind_of, word_at, node_words, node_count}
use Rattle.query.specs.Named.{inked_at, named_by, named_from, first_term, term_count, start_of, count_at, terms_of, constants_among, HasTerms}

pub first_word : (qs : List ℕ) (i : ℕ) → word_at qs i 0 ≡ get_or qs (i * node_words) 0
first_word qs i = ap (λ (n : ℕ). get_or qs n 0) (let e : i * node_words + 0 ≡ i * node_words = omega arith in e)

-- kinds 1 and 2 have terms, and no other
pub kind_one : (w : ℕ) → w ≡ 1 → kind_of w ≡ row_stands
unfolding kind_of
kind_one w e = rw e

pub kind-two : (w : ℕ) → w ≡ 2 → kind_of w ≡ equals
unfolding kind_of
kind-two w e = rw e

pub other-kind :
    (ars qs : List ℕ) (i w : ℕ) → (w ≡ 1 → ⊥) → (first_term (kind_of w) ≡ 1) × ((w ≡ 2 → ⊥) → term_count ars qs i (kind_of w) ≡ 0)
unfolding kind_of
other-kind ars qs i zero n = (refl, λ m. refl)
other-kind ars qs i (suc zero) n = absurd (n refl)
other-kind ars qs i (suc (suc zero)) n = (refl, λ m. absurd (m refl))
other-kind ars qs i (suc (suc (suc zero))) n = (refl, λ m. refl)
other-kind ars qs i (suc (suc (suc (suc zero)))) n = (refl, λ m. refl)
other-kind ars qs i (suc (suc (suc (suc (suc zero))))) n = (refl, λ m. refl)
other-kind ars qs i (suc (suc (suc (suc (suc (suc zero)))))) n = (refl, λ m. refl)
other-kind ars qs i (suc (suc (suc (suc (suc (suc (suc zero))))))) n = (refl, λ m. refl)
other-kind ars qs i (suc (suc (suc (suc (suc (suc (suc (suc w)))))))) n = (refl, λ m. refl)

pub among_append : (xs ys : List ℕ) → constants_among (xs ++ ys) ≡ constants_among xs ++ constants_among ys
unfolding constants_among
among_append [] ys = refl
among_append (x ∷ xs) ys = go (is_constant x) (among_append xs ys)
  where
    go :
        (b : Bool) → constants_among (xs ++ ys) ≡ constants_among xs ++ constants_among ys →
        cond b (x ∷ constants_among (xs ++ ys)) (constants_among (xs ++ ys)) ≡ cond b (x ∷ constants_among xs) (constants_among xs) ++ constants_among ys
    go true e = ap (λ (l : List ℕ). x ∷ l) e
    go false e = e

-- their number
pub among_count : (ws : List ℕ) → count_by is_constant ws ≡ length (constants_among ws)
unfolding constants_among
among_count ws = sym (is_count_by (λ l. length (constants_among l)) is_constant refl (λ x xs. go x xs (is_constant x)) ws)
  where
    go : (x : ℕ) (xs : List ℕ) (b : Bool) → length (cond b (x ∷ constants_among xs) (constants_among xs)) ≡ cond b (1 + length (constants_among xs)) (length (constants_among xs))
    go x xs true = omega arith
    go x xs false = refl

-- the constants among words, one word more
pub among_next : (ws : List ℕ) (i : ℕ) → i < length ws → constants_among (take (i + 1) ws) ≡ constants_among (take i ws) ++ cond (is_constant (get_or ws i 0)) (get_or ws i 0 ∷ []) []
unfolding constants_among
among_next ws i l =
    ap (λ (n : ℕ). constants_among (take n ws)) (add-one i) ∙ ap constants_among (take-suc ws i 0 l) ∙ among_append (take i ws) (get_or ws i 0 ∷ [])

pub among_more : (ws : List ℕ) (i : ℕ) → i < length ws → get_or ws i 0 < 1000000 → constants_among (take (i + 1) ws) ≡ constants_among (take i ws) ++ get_or ws i 0 ∷ []
among_more ws i l k = among_next ws i l ∙ rw (lt-ltb (get_or ws i 0) 1000000 k) refl

pub among_same : (ws : List ℕ) (i : ℕ) → i < length ws → 1000000 ≤ get_or ws i 0 → constants_among (take (i + 1) ws) ≡ constants_among (take i ws)
among_same ws i l k = among_next ws i l ∙ rw (le-ltb (get_or ws i 0) 1000000 (omega (arith, k))) (append-nil (constants_among (take i ws)))

-- the inked terms in k words are the constants among these
pub inked_among : (qs : List ℕ) (i j k : ℕ) → i * node_words + j + k ≤ length qs → inked_at qs i j k ≡ constants_among (take k (drop (i * node_words + j) qs))
unfolding inked_at constants_among
inked_among qs i j zero l = refl
inked_among qs i j (suc k) l =
    let here : drop (i * node_words + j) qs ≡ word_at qs i j ∷ drop (i * node_words + suc j) qs =
    drop_step qs (i * node_words + j) (omega arith) ∙ ap (λ (n : ℕ). word_at qs i j ∷ drop n qs) (let e : i * node_words + j + 1 ≡ i * node_words + suc j = omega arith in e)
    in
    rw (here, inked_among qs i (suc j) k (omega arith)) refl

-- a part of the question, by its first word and its length
pub part_lent : (qs : List ℕ) (s t a n : ℕ) → s ≡ a → t ≡ n → take (s + t - s) (drop s qs) ≡ take n (drop a qs)
part_lent qs s t a n e f = let g : s + t - s ≡ n = omega arith in rw (g, e) refl

module _ (ars qs : List ℕ) where
  module _ (terms : HasTerms ars qs) where
    within-kind : (i : ℕ) (k : Kind) → first_term k + term_count ars qs i k ≤ node_words
    within-kind i row_stands = omega (arith, terms.narrow (word_at qs i 1))
    within-kind i equals = omega arith
    within-kind i negates = omega arith
    within-kind i (joins j) = omega arith
    within-kind i (ranges j) = omega arith
    within-kind i no_such_kind = omega arith

    -- a node's terms are within the node
    pub terms-within : (i : ℕ) → start_of ars qs i + count_at ars qs i ≤ i * node_words + node_words
    terms-within i = omega (arith, within-kind i (kind_of (word_at qs i 0)))

    pub node_end : (i : ℕ) → i < node_count qs → i * node_words + node_words ≤ length qs
    node_end i l = let w = terms.whole in omega arith

    pub named-node : (i : ℕ) → i < node_count qs → named_by ars qs i (kind_of (word_at qs i 0)) ≡ constants_among (terms_of ars qs i)
    named-node i l =
        inked_among qs i (first_term (kind_of (word_at qs i 0))) (count_at ars qs i) (omega (arith, terms-within i, node_end i l))

    -- the nodes from i: node i, and those after it
    pub named_rest : (i : ℕ) → i < node_count qs → named_from ars qs i (node_count qs - i) ≡ constants_among (terms_of ars qs i) ++ named_from ars qs (i + 1) (node_count qs - (i + 1))
    unfolding named_from
    named_rest i l =
        let e : node_count qs - i ≡ suc (node_count qs - (i + 1)) = omega arith in
        rw (e, named-node i l, add-one) refl
