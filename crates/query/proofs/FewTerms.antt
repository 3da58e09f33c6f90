-- A question that passed has at most 300 inked terms: only a node without a child has terms, at most six, and of 100 nodes at most 50 have no child, since
-- every node but the top is the child of one other. Assumes nothing.
use Prim.Native.Nat.{ℕ, zero, suc, ◌+◌, ◌*◌, ◌≤◌, ◌<◌}
use mathlib.Core.Path.{◌≡◌, refl, ap}
use mathlib.Core.Bool.{Bool, true, false, not, ◌&&◌}
use mathlib.Core.List.{List, [], ◌∷◌}
use native.Mathlib.Nat.{le_of_suc-le-suc}
use native.Mathlib.Omega.{arith}
use borrow.Author.Tests.{ltb-true, not-true}
use lib.ListN.{length, get_or, set}
use lib.Dec.{ltb}
use Rattle.calculus.proofs.From.{first_or_later}
use Rattle.calculus.proofs.Bools.{and_parts, false_not_true}
use Rattle.calculus.specs.Formula.{variables}
use Rattle.instance.specs.Header.{arity_of, max_columns}
use Rattle.query.specs.Words.{Kind, row_stands, equals, negates, no_such_kind, joins, ranges, kind_of, word_at, node_count, max_nodes, right_length}
use Rattle.query.specs.Named.{named_in, max_terms}
use Rattle.query.specs.declared.scopes.Scopes.{Scopes}
use Rattle.query.specs.Scope.{naming, binding, at_the_top}
use Rattle.query.specs.Answers.{Long}
use Rattle.query.specs.Check.{passed, rest_is_zero, is_child, check_child, check_by, check_node, check_nodes, check_query}
use Rattle.query.proofs.Parts.{terms-passed, child-passed, node-passed, nodes-passed}
use Rattle.calculus.proofs.Reading.{demand-read, then_read, refused-read}
use Rattle.query.proofs.Named.{leaf_count, leaves_from, from_few}
use Rattle.query.proofs.Passed.{parts, count-within}

-- ---- sums

flag : Bool → ℕ
flag false = 0
flag true = 1

-- how many flags are set
sum : List Bool → ℕ
sum [] = 0
sum (x ∷ xs) = flag x + sum xs

sum_set : (xs : List Bool) (i : ℕ) (v : Bool) → i < length xs → sum (set xs i v) + flag (get_or xs i false) ≡ sum xs + flag v
unfolding sum
sum_set [] i v l = absurd (omega arith)
sum_set (x ∷ xs) zero v l = omega arith
sum_set (x ∷ xs) (suc i) v l = omega (arith, sum_set xs i v (le_of_suc-le-suc l))

sum_ones : (n : ℕ) (xs : List Bool) → ((j : ℕ) → j < n → get_or xs j false ≡ true) → n ≤ sum xs
unfolding sum flag
sum_ones zero xs all = omega arith
sum_ones (suc n) [] all = false_not_true (all 0 (omega arith))
sum_ones (suc n) (x ∷ xs) all =
    let one : flag x ≡ 1 = ap flag (all 0 (omega arith)) in
    omega (arith, one, sum_ones n xs (λ j l. all (suc j) (omega arith)))

-- ---- children

child_count : Kind → ℕ
child_count row_stands = 0
child_count equals = 0
child_count negates = 1
child_count (joins j) = 2
child_count (ranges j) = 1
child_count no_such_kind = 0

kind-leaves : (k : Kind) → 2 * leaf_count k + child_count k ≤ 2
unfolding leaf_count child_count
kind-leaves row_stands = omega arith
kind-leaves equals = omega arith
kind-leaves negates = omega arith
kind-leaves (joins j) = omega arith
kind-leaves (ranges j) = omega arith
kind-leaves no_such_kind = omega arith

passed-same : {s t : Scopes} → passed s ≡ passed t → t ≡ s
passed-same e = cc

child_sum : (count : ℕ) → count ≤ max_nodes → (mask i child : ℕ) (s t : Scopes) → Long s → check_child count mask i child s ≡ passed t → sum t.named ≡ suc (sum s.named)
unfolding check_child flag
child_sum count few mask i child s t l e =
    let p = demand-read (is_child count i child s) _ _ e in
    let q = and_parts (ltb i child && ltb child count) (not (get_or s.named child false)) p.0 in
    let below = ltb-true child count (and_parts (ltb i child) (ltb child count) q.0).1 in
    let z : flag (get_or s.named child false) ≡ 0 = ap flag (not-true (get_or s.named child false) q.1) in
    let m : t ≡ naming s child mask = passed-same p.1 in
    rw m (omega (arith, sum_set s.named child true (omega (arith, l.named)), z))

module _ (n : ℕ) (ars qs : List ℕ) (few : node_count qs ≤ max_nodes) where
  by_sum : (i mask : ℕ) (s t : Scopes) → Long s → (k : Kind) → check_by n ars qs i mask s k ≡ passed t → sum t.named ≡ sum s.named + child_count k
  unfolding child_count
  by_sum i mask s t l row_stands e =
      let p = demand-read (ltb (word_at qs i 1) n) _ _ e in
      let q = demand-read (rest_is_zero qs i (2 + arity_of ars (word_at qs i 1))) _ _ p.1 in
      rw (terms-passed qs mask i 2 (arity_of ars (word_at qs i 1)) s q.1).1 (omega arith)
  by_sum i mask s t l equals e =
      let p = demand-read (rest_is_zero qs i 3) _ _ e in
      rw (terms-passed qs mask i 1 2 s p.1).1 (omega arith)
  by_sum i mask s t l negates e =
      let p = demand-read (rest_is_zero qs i 2) _ _ e in
      omega (arith, child_sum (node_count qs) few mask i (word_at qs i 1) s t l p.1)
  by_sum i mask s t l (joins j) e =
      let p = demand-read (rest_is_zero qs i 3) _ _ e in
      let b = then_read (check_child (node_count qs) mask i (word_at qs i 1) s) (λ first. check_child (node_count qs) mask i (word_at qs i 2)) p.1 in
      let c = child-passed (node_count qs) few mask i (word_at qs i 1) s l b.first in
      omega (
        arith,
        child_sum (node_count qs) few mask i (word_at qs i 1) s b.state l b.first,
        child_sum (node_count qs) few mask i (word_at qs i 2) b.state t c.long b.second,
      )
  by_sum i mask s t l (ranges j) e =
      let q = demand-read (rest_is_zero qs i 3) _ _ e in
      let p = demand-read (ltb (word_at qs i 1) variables) _ _ q.1 in
      omega (arith, child_sum (node_count qs) few (binding mask (word_at qs i 1)) i (word_at qs i 2) s t l p.1)
  by_sum i mask s t l no_such_kind e = refused-read e

  -- a node without a child stands against two children that another may have
  nodes-leaves : (i k : ℕ) (s t : Scopes) → Long s → check_nodes n ars qs i k s ≡ passed t → 2 * leaves_from qs i k + sum t.named ≤ 2 * k + sum s.named
  unfolding check_nodes check_node leaves_from
  nodes-leaves i zero s t l e = rw (passed-same e) (omega arith)
  nodes-leaves i (suc k) s t l e =
      let b = then_read (check_node n ars qs i s) (λ first. check_nodes n ars qs (suc i) k) e in
      let p = node-passed n ars qs few s l i b.first in
      let here = by_sum i (get_or s.masks i 0) s b.state l (kind_of (word_at qs i 0)) (demand-read (get_or s.named i false) _ _ b.first).1 in
      omega (arith, here, nodes-leaves (suc i) k b.state t p.1.long b.second, kind-leaves (kind_of (word_at qs i 0)))

  -- every node is named at the end
  all_named : (i k : ℕ) (s t : Scopes) → Long s → check_nodes n ars qs i k s ≡ passed t → (j : ℕ) → i ≤ j → j < i + k → get_or t.named j false ≡ true
  unfolding check_nodes
  all_named i zero s t l e j a b = absurd (omega arith)
  all_named i (suc k) s t l e j a m =
      let b = then_read (check_node n ars qs i s) (λ first. check_nodes n ars qs (suc i) k) e in
      let p = node-passed n ars qs few s l i b.first in
      let r = nodes-passed n ars qs few (suc i) k b.state p.1.long b.second in
      let here : get_or t.named i false ≡ true = (r.0 i (get_or s.masks i 0) (p.1.kept i (get_or s.masks i 0) (record { named = p.0; scope = refl }))).named in
      first_or_later (λ j. get_or t.named j false ≡ true) i k j here
      (λ q o. all_named (suc i) k b.state t p.1.long b.second j q o) a m

top_long : (k : ℕ) → Long (at_the_top k)
top_long k = record { named = refl; masks = refl }

top_sum : (k : ℕ) → sum (at_the_top k).named ≡ 1
unfolding sum flag
top_sum k = refl

pub few-terms :
    (n : ℕ) (ars qs cs : List ℕ) → right_length qs ≡ true → (s : Scopes) → check_query n ars qs cs ≡ passed s → ((r : ℕ) → arity_of ars r ≤ max_columns) →
    length (named_in ars qs) ≤ max_terms
few-terms n ars qs cs right s e narrow =
    let few = (count-within qs right).1 in
    let nodes = (parts n ars qs cs right s e).2 in
    let top = top_long (length cs) in
    let leaves = nodes-leaves n ars qs few 0 (node_count qs) (at_the_top (length cs)) s top nodes in
    let named = sum_ones (node_count qs) s.named (λ j l. all_named n ars qs few 0 (node_count qs) (at_the_top (length cs)) s top nodes j (omega arith) (omega arith)) in
    omega (arith, leaves, named, top_sum (length cs), from_few ars qs narrow 0 (node_count qs))
