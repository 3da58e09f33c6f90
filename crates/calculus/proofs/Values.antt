-- The values of a list of cells are each of its cells and nothing else, once, in the order of first standing. Assumes nothing.
use Prim.Native.Nat.{ℕ}
use mathlib.Core.Path.{◌≡◌, refl, sym, ap, ◌∙◌}
use mathlib.Core.Logic.{⊎_elim}
use mathlib.Core.Bool.{Bool, true, false, cond}
use mathlib.Core.List.Memᴰ
use mathlib.Core.List.{List, [], ◌∷◌, ◌++◌, Memᴰ}
use lib.Dec.{eqb}
use Rattle.calculus.specs.Row.{cells_of}
use Rattle.calculus.specs.Domain.{without, distinct}
use Rattle.calculus.specs.Values.{Before, ValuesOf, DomainIsValues, RangeIsValues, ValuesSettled}
use Rattle.calculus.proofs.Distinct.{member_without, distinct_member}

-- v is another cell than w, and is first met before it
First : List ℕ → ℕ → ℕ → Type 0
First cs v w = (v ≡ w → ⊥) × Before cs v w

-- each value comes before every later one of the list
unfoldable Ordered : List ℕ → List ℕ → Type 0
Ordered cs [] = Unit
Ordered cs (v ∷ vs) = ((w : ℕ) → Memᴰ w vs → First cs v w) × Ordered cs vs

ordered_at : (cs vs : List ℕ) → Ordered cs vs → (before after : List ℕ) (v w : ℕ) → vs ≡ before ++ (v ∷ after) → Memᴰ w after → First cs v w
unfolding Ordered
ordered_at cs vs o [] after v w e m = let p : Ordered cs (v ∷ after) = rw e at o in p.0 w m
ordered_at cs vs o (b ∷ before) after v w e m =
    let p : Ordered cs (b ∷ (before ++ (v ∷ after))) = rw e at o in
    ordered_at cs (before ++ (v ∷ after)) p.1 before after v w refl m

-- ---- the values that are listed

before_more : (c : ℕ) (cs : List ℕ) (v w : ℕ) → (w ≡ c → ⊥) → Before cs v w → Before (c ∷ cs) v w
before_more c cs v w ne b = record {
  before = c ∷ b.before;
  after = b.after;
  stands = ap (λ (l : List ℕ). c ∷ l) b.stands;
  not_yet = λ m. ⊎_elim ne b.not_yet (Memᴰ.cases_cons m);
}

ordered_without : (c : ℕ) (cs vs : List ℕ) → Ordered cs vs → Ordered (c ∷ cs) (without c vs)
unfolding First Ordered without
ordered_without c cs [] o = o
ordered_without c cs (v ∷ vs) o = go (eqb v c) (ordered_without c cs vs o.1)
  where
    go : (b : Bool) → Ordered (c ∷ cs) (without c vs) → Ordered (c ∷ cs) (cond b (without c vs) (v ∷ without c vs))
    go true ih = ih
    go false ih = ((λ w m. let r = member_without c vs m in let f = o.0 w r.1 in (f.0, before_more c cs v w r.0 f.1)), ih)

ordered : (cs : List ℕ) → Ordered cs (distinct cs)
unfolding First Ordered distinct
ordered [] = tt
ordered (c ∷ cs) = (
  (λ w m. ((λ e. (member_without c (distinct cs) m).0 (sym e)), record { before = []; after = cs; stands = refl; not_yet = Memᴰ.not-nil })),
  ordered_without c cs (distinct cs) (ordered cs),
)

distinct-is-values : (cs : List ℕ) → ValuesOf cs (distinct cs)
unfolding First
distinct-is-values cs =
    let at = ordered_at cs (distinct cs) (ordered cs) in
    record {
      cells = λ c. distinct_member cs;
      once = λ before after v e m. (at before after v v e m).0 refl;
      order = λ before after v w e m. (at before after v w e m).1;
    }

pub domain-is-values : DomainIsValues
domain-is-values rs = distinct-is-values (cells_of rs)

pub range-is-values : RangeIsValues
range-is-values named rs = distinct-is-values (cells_of rs ++ named)

-- ---- no other list has that meaning

-- of two cells only one is first met before the other
module _ (v w : ℕ) (other : v ≡ w → ⊥) (a b : List ℕ) where
  not_both : (p q : List ℕ) → p ++ (v ∷ a) ≡ q ++ (w ∷ b) → (Memᴰ w p → ⊥) → (Memᴰ v q → ⊥) → ⊥
  not_both [] [] e n m = other (cc)
  not_both [] (y ∷ q) e n m = m (Memᴰ.head (cc))
  not_both (x ∷ p) [] e n m = n (Memᴰ.head (let f : x ≡ w = cc in sym f))
  not_both (x ∷ p) (y ∷ q) e n m = not_both p q (cc) (λ h. n (Memᴰ.tail h)) (λ h. m (Memᴰ.tail h))

one_first : (cs : List ℕ) (v w : ℕ) → First cs v w → First cs w v → ⊥
unfolding First
one_first cs v w (ne, p) (_, q) = not_both v w ne p.after q.after p.before q.before (sym p.stands ∙ q.stands) p.not_yet q.not_yet

ordered_by : (cs vs : List ℕ) → ((before after : List ℕ) (v w : ℕ) → vs ≡ before ++ (v ∷ after) → Memᴰ w after → First cs v w) → Ordered cs vs
unfolding Ordered
ordered_by cs [] at = tt
ordered_by cs (v ∷ vs) at =
    ((λ w m. at [] vs v w refl m), ordered_by cs vs (λ before after x w e m. at (v ∷ before) after x w (ap (λ (l : List ℕ). v ∷ l) e) m))

values_ordered : (cs vs : List ℕ) → ValuesOf cs vs → Ordered cs vs
unfolding First
values_ordered cs vs p =
    ordered_by cs vs (λ before after v w e m. ((λ q. p.once before after v e (rw (sym q) at m)), p.order before after v w e m))

module _ (cs : List ℕ) where
  same-members :
      (vs us : List ℕ) → Ordered cs vs → Ordered cs us → ((c : ℕ) → Memᴰ c vs → Memᴰ c us) →
      ((c : ℕ) → Memᴰ c us → Memᴰ c vs) → vs ≡ us
  unfolding First Ordered
  same-members [] [] o p to from = refl
  same-members [] (u ∷ us) o p to from = absurd (Memᴰ.not-nil (from u (Memᴰ.head refl)))
  same-members (v ∷ vs) [] o p to from = absurd (Memᴰ.not-nil (to v (Memᴰ.head refl)))
  same-members (v ∷ vs) (u ∷ us) o p to from =
      let e : v ≡ u =
      ⊎_elim (λ q. q) (λ m. ⊎_elim (λ q. sym q) (λ n. absurd (one_first cs v u (o.0 u n) (p.0 v m))) (Memᴰ.cases_cons (from u (Memᴰ.head refl))))
      (Memᴰ.cases_cons (to v (Memᴰ.head refl)))
      in
      let to' : (c : ℕ) → Memᴰ c vs → Memᴰ c us =
      λ c m. ⊎_elim (λ q. absurd ((o.0 c m).0 (e ∙ sym q))) (λ n. n) (Memᴰ.cases_cons (to c (Memᴰ.tail m)))
      in
      let from' : (c : ℕ) → Memᴰ c us → Memᴰ c vs =
      λ c m. ⊎_elim (λ q. absurd ((p.0 c m).0 (sym e ∙ sym q))) (λ n. n) (Memᴰ.cases_cons (from c (Memᴰ.tail m)))
      in
      let rest = same-members vs us o.1 p.1 to' from' in
      cc

pub values_settled : ValuesSettled
values_settled cs vs us p q =
    same-members cs vs us (values_ordered cs vs p) (values_ordered cs us q) (λ c m. (q.cells c).1 ((p.cells c).0 m)) (λ c m. (p.cells c).1 ((q.cells c).0 m))
