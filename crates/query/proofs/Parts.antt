-- What a passed check says of each node: its tests hold, and its children are named, each with its scope. Assumes nothing.
use Prim.Native.Nat.{ℕ, zero, suc, ◌+◌, ◌<◌, ◌≤◌}
use mathlib.Core.Path.{◌≡◌, refl, sym, ◌∙◌}
use mathlib.Core.Bool.{Bool, true, false, not, ◌&&◌}
use mathlib.Core.List.{List}
use native.Mathlib.Nat.{add-zero}
use native.Mathlib.Omega.{arith}
use borrow.Author.Tests.{ltb-true, eqb-true, eqb-false, not-true}
use lib.ListN.{length-set, get_or}
use lib.Seq.{get_or-set_same, get_or-set_other}
use lib.Dec.{ltb, eqb}
use Rattle.calculus.proofs.Bools.{and_parts, false_not_true}
use Rattle.calculus.specs.Formula.{variables}
use Rattle.instance.specs.Header.{arity_of}
use Rattle.query.specs.Words.{Kind, row_stands, equals, negates, no_such_kind, joins, ranges, kind_of, word_at, node_count, max_nodes}
use Rattle.query.specs.declared.scopes.Scopes.{Scopes}
use Rattle.query.specs.Scope.{naming, binding}
use Rattle.query.specs.Answers.{Long}
use Rattle.query.specs.Check.{passed, rest_is_zero, is_term, is_bound, is_child, check_terms, check_child, check_by, check_node, check_nodes}
use Rattle.calculus.proofs.Reading.{demand-read, then_read, refused-read}

-- node i is named, in a scope
pub record NamedIn (s : Scopes) (i mask : ℕ) : Type 0 where
  pub named : get_or s.named i false ≡ true
  pub scope : get_or s.masks i 0 ≡ mask

-- a node that is named stays so, in its scope
abbrev pub Kept : Scopes → Scopes → Type 0
Kept s t = (i mask : ℕ) → NamedIn s i mask → NamedIn t i mask

-- a child of node i, in a scope
pub record ChildIn (count : ℕ) (s : Scopes) (i child mask : ℕ) : Type 0 where
  pub above : i < child
  pub below : child < count
  pub named : NamedIn s child mask

child-kept : {count : ℕ} {s t : Scopes} {i child mask : ℕ} → Kept s t → ChildIn count s i child mask → ChildIn count t i child mask
child-kept k c = record { above = c.above; below = c.below; named = k _ _ c.named }

-- what a passed check of a child says
pub record ChildPassed (count mask i child : ℕ) (s t : Scopes) : Type 0 where
  pub named : ChildIn count t i child mask
  pub kept : Kept s t
  pub long : Long t

module _ (count : ℕ) (few : count ≤ max_nodes) (mask i child : ℕ) (s : Scopes) (l : Long s) where
  naming-long : Long (naming s child mask)
  naming-long = record { named = rw length-set l.named; masks = rw length-set l.masks }

  naming-kept : get_or s.named child false ≡ false → Kept s (naming s child mask)
  naming-kept z j m k =
      let other : (j ≡ child → ⊥) = λ e. let o : get_or s.named child false ≡ true = rw (← e) k.named in false_not_true (sym z ∙ o) in
      record {
        named = get_or-set_other s.named child j true false other ∙ k.named;
        scope = get_or-set_other s.masks child j mask 0 other ∙ k.scope;
      }

  pub child-passed : {t : Scopes} → check_child count mask i child s ≡ passed t → ChildPassed count mask i child s t
  unfolding check_child
  child-passed {t} e =
      let p = demand-read (is_child count i child s) _ _ e in
      let q = and_parts (ltb i child && ltb child count) (not (get_or s.named child false)) p.0 in
      let o = and_parts (ltb i child) (ltb child count) q.0 in
      let b = ltb-true i child o.0 in
      let a = ltb-true child count o.1 in
      let z = not-true (get_or s.named child false) q.1 in
      let m : t ≡ naming s child mask = cc in
      rw m
      (record {
        named = record {
          above = b;
          below = a;
          named = record {
            named = get_or-set_same s.named child true false (omega (arith, l.named));
            scope = get_or-set_same s.masks child mask 0 (omega (arith, l.masks));
          };
        };
        kept = naming-kept z;
        long = naming-long;
      })

-- k words from word j of node i are terms: constants, or variables that are bound
abbrev pub BoundTerms : List ℕ → ℕ → ℕ → ℕ → ℕ → Type 0
BoundTerms qs mask i j k = (m : ℕ) → m < k → (is_term (word_at qs i (j + m)) ≡ true) × (is_bound mask (word_at qs i (j + m)) ≡ true)

terms_more : (qs : List ℕ) (mask i j k : ℕ) → is_term (word_at qs i j) ≡ true → is_bound mask (word_at qs i j) ≡ true → BoundTerms qs mask i (suc j) k
    → BoundTerms qs mask i j (suc k)
terms_more qs mask i j k p q r zero l = rw add-zero (p, q)
terms_more qs mask i j k p q r (suc m) l = let f : suc j + m ≡ j + suc m = omega arith in rw f at (r m (omega arith))

pub terms-passed : (qs : List ℕ) (mask i j k : ℕ) (s : Scopes) {t : Scopes} → check_terms qs mask i j k s ≡ passed t → BoundTerms qs mask i j k × (t ≡ s)
unfolding check_terms
terms-passed qs mask i j zero s e = (λ m l. absurd (omega arith), cc)
terms-passed qs mask i j (suc k) s {t} e =
    let p = demand-read (is_term (word_at qs i j)) _ _ e in
    let q = demand-read (is_bound mask (word_at qs i j)) _ _ p.1 in
    let r = terms-passed qs mask i (suc j) k s q.1 in
    (terms_more qs mask i j k p.0 q.0 r.0, r.1)

module _ (n : ℕ) (ars qs : List ℕ) where
  -- node i is well formed in its scope, by its kind; s tells which nodes are named
  abbrev pub WellFormedIn : Scopes → ℕ → ℕ → Kind → Type 0
  WellFormedIn s i mask row_stands = (word_at qs i 1 < n) × BoundTerms qs mask i 2 (arity_of ars (word_at qs i 1))
  WellFormedIn s i mask equals = BoundTerms qs mask i 1 2
  WellFormedIn s i mask negates = ChildIn (node_count qs) s i (word_at qs i 1) mask
  WellFormedIn s i mask (joins j) = ChildIn (node_count qs) s i (word_at qs i 1) mask × ChildIn (node_count qs) s i (word_at qs i 2) mask
  WellFormedIn s i mask (ranges j) = (word_at qs i 1 < variables) × ChildIn (node_count qs) s i (word_at qs i 2) (binding mask (word_at qs i 1))
  WellFormedIn s i mask no_such_kind = ⊥

  well_formed-kept : {s t : Scopes} (i mask : ℕ) (k : Kind) → Kept s t → WellFormedIn s i mask k → WellFormedIn t i mask k
  well_formed-kept i mask row_stands κ p = p
  well_formed-kept i mask equals κ p = p
  well_formed-kept i mask negates κ p = child-kept κ p
  well_formed-kept i mask (joins j) κ p = (child-kept κ p.0, child-kept κ p.1)
  well_formed-kept i mask (ranges j) κ p = (p.0, child-kept κ p.1)
  well_formed-kept i mask no_such_kind κ p = p

  -- what a passed check of a node says
  pub record NodePassed (s : Scopes) (i mask : ℕ) (k : Kind) (t : Scopes) : Type 0 where
    pub well_formed : WellFormedIn t i mask k
    pub kept : Kept s t
    pub long : Long t

  module _ (few : node_count qs ≤ max_nodes) (s : Scopes) (l : Long s) where
    unchanged : {t : Scopes} (i mask : ℕ) (k : Kind) → WellFormedIn s i mask k → t ≡ s → NodePassed s i mask k t
    unchanged i mask k p e = rw e (record { well_formed = p; kept = λ j m h. h; long = l })

    by_passed : {t : Scopes} (i mask : ℕ) (k : Kind) → check_by n ars qs i mask s k ≡ passed t → NodePassed s i mask k t
    by_passed i mask row_stands e =
        let p = demand-read (ltb (word_at qs i 1) n) _ _ e in
        let q = demand-read (rest_is_zero qs i (2 + arity_of ars (word_at qs i 1))) _ _ p.1 in
        let r = terms-passed qs mask i 2 (arity_of ars (word_at qs i 1)) s q.1 in
        unchanged i mask row_stands (ltb-true _ _ p.0, r.0) r.1
    by_passed i mask equals e =
        let p = demand-read (rest_is_zero qs i 3) _ _ e in
        let r = terms-passed qs mask i 1 2 s p.1 in
        unchanged i mask equals r.0 r.1
    by_passed i mask negates e =
        let p = demand-read (rest_is_zero qs i 2) _ _ e in
        let c = child-passed (node_count qs) few mask i (word_at qs i 1) s l p.1 in
        record { well_formed = c.named; kept = c.kept; long = c.long }
    by_passed i mask (joins j) e =
        let p = demand-read (rest_is_zero qs i 3) _ _ e in
        let b = then_read (check_child (node_count qs) mask i (word_at qs i 1) s) (λ first. check_child (node_count qs) mask i (word_at qs i 2)) p.1 in
        let c = child-passed (node_count qs) few mask i (word_at qs i 1) s l b.first in
        let d = child-passed (node_count qs) few mask i (word_at qs i 2) b.state c.long b.second in
        record {
          well_formed = (child-kept d.kept c.named, d.named);
          kept = λ j m h. d.kept j m (c.kept j m h);
          long = d.long;
        }
    by_passed i mask (ranges j) e =
        let p = demand-read (rest_is_zero qs i 3) _ _ e in
        let q = demand-read (ltb (word_at qs i 1) variables) _ _ p.1 in
        let c = child-passed (node_count qs) few (binding mask (word_at qs i 1)) i (word_at qs i 2) s l q.1 in
        record { well_formed = (ltb-true _ _ q.0, c.named); kept = c.kept; long = c.long }
    by_passed i mask no_such_kind e = refused-read e

    -- the node is named, and well formed by its kind in its scope
    pub node-passed : {t : Scopes} (i : ℕ) → check_node n ars qs i s ≡ passed t
        → (get_or s.named i false ≡ true) × NodePassed s i (get_or s.masks i 0) (kind_of (word_at qs i 0)) t
    unfolding check_node
    node-passed i e =
        let p = demand-read (get_or s.named i false) _ _ e in
        (p.0, by_passed i (get_or s.masks i 0) (kind_of (word_at qs i 0)) p.1)

  -- each of the k nodes from i is well formed in its scope
  abbrev pub AllWellFormed : Scopes → ℕ → ℕ → Type 0
  AllWellFormed t i k = (j : ℕ) → i ≤ j → j < i + k → WellFormedIn t j (get_or t.masks j 0) (kind_of (word_at qs j 0))

  one_more : {s t : Scopes} (i k : ℕ) → get_or s.named i false ≡ true → NodePassed s i (get_or s.masks i 0) (kind_of (word_at qs i 0)) t → (u : Scopes) → Kept t u
      → AllWellFormed u (suc i) k → AllWellFormed u i (suc k)
  one_more {s} {t} i k named p u κ all j l m = go (eqb j i) refl
    where
      go : (b : Bool) → eqb j i ≡ b → WellFormedIn u j (get_or u.masks j 0) (kind_of (word_at qs j 0))
      go true e =
          let f = eqb-true j i e in
          let same = (κ i _ (p.kept i (get_or s.masks i 0) (record { named = named; scope = refl }))).scope in
          rw (f, same) (well_formed-kept i (get_or s.masks i 0) (kind_of (word_at qs i 0)) κ p.well_formed)
      go false e = let n = eqb-false j i e in all j (omega arith) (omega arith)

  -- if the check of nodes is passed, those that were named stay so, and each node is well formed
  pub nodes-passed : node_count qs ≤ max_nodes → (i k : ℕ) (s : Scopes) {t : Scopes} → Long s → check_nodes n ars qs i k s ≡ passed t
      → Kept s t × AllWellFormed t i k
  unfolding check_nodes
  nodes-passed few i zero s {t} l e = let z : t ≡ s = cc in (λ j m h. rw z h, λ j a b. absurd (omega arith))
  nodes-passed few i (suc k) s {t} l e =
      let b = then_read (check_node n ars qs i s) (λ first. check_nodes n ars qs (suc i) k) e in
      let p = node-passed few s l i b.first in
      let r = nodes-passed few (suc i) k b.state p.1.long b.second in
      (λ j m h. r.0 j m (p.1.kept j m h), one_more i k p.0 p.1 t r.0 r.1)
