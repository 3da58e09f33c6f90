-- Counting in one pass: for each kind, the counter plus the number still to come is the total. Assumes nothing.
use Prim.Native.Nat.{ℕ, suc, ◌+◌, ◌<◌}
use mathlib.Core.Path.{◌≡◌, refl, sym, ◌∙◌}
use mathlib.Core.Bool.{Bool, true, false}
use mathlib.Core.List.{List}
use native.Mathlib.Omega.{arith}
use borrow.Author.Tests.{eqb-true, eqb-false}
use lib.ListN.{length, get_or, set, replicate, length-replicate, get_or-replicate, length-set}
use lib.Seq.{get_or-set_same, get_or-set_other, ext_get_or}
use lib.Dec.{eqb}
use Rattle.calculus.specs.Table.{table}
use Rattle.calculus.proofs.Table.{table-size, table_at}

-- n counters, one for each kind below n; `whole` gives the total of each kind, and `more` the number still to come
pub record Counting (n : ℕ) (whole more : ℕ → ℕ) (counts : List ℕ) : Type 0 where
  pub size : length counts ≡ n
  pub each : (k : ℕ) → k < n → get_or counts k 0 + more k ≡ whole k

module _ (n : ℕ) (whole : ℕ → ℕ) where
  pub counting_starts : Counting n whole whole (replicate n 0)
  counting_starts = record {
    size = length-replicate {A = ℕ} n 0;
    each = λ k l. omega (arith, get_or-replicate {A = ℕ} n k 0 0 l);
  }

  module _ (more less : ℕ → ℕ) (counts : List ℕ) where
    -- one of kind k comes, and none of any other kind
    pub counting-one :
        (k : ℕ) → k < n → more k ≡ suc (less k) → ((j : ℕ) → (j ≡ k → ⊥) → more j ≡ less j) →
        Counting n whole more counts → Counting n whole less (set counts k (get_or counts k 0 + 1))
    counting-one k l one others s = record {
      size = length-set counts k _ ∙ s.size;
      each = λ j i. go j i (eqb j k) refl;
    }
      where
        go : (j : ℕ) → j < n → (b : Bool) → eqb j k ≡ b → get_or (set counts k (get_or counts k 0 + 1)) j 0 + less j ≡ whole j
        go j i true q =
            let e : j ≡ k = eqb-true j k q in
            rw e (rw (get_or-set_same counts k _ 0 (omega (arith, s.size))) (omega (arith, s.each k l)))
        go j i false q =
            let ne = eqb-false j k q in
            rw (get_or-set_other counts k j _ 0 ne) (omega (arith, s.each j i, others j ne))

    -- none of any kind comes
    pub counting_none : ((k : ℕ) → k < n → more k ≡ less k) → Counting n whole more counts → Counting n whole less counts
    counting_none same s = record { size = s.size; each = λ k l. omega (arith, s.each k l, same k l) }

  -- nothing is still to come: the counters are the totals
  pub counting_ends : (more : ℕ → ℕ) (counts : List ℕ) → ((k : ℕ) → more k ≡ 0) → Counting n whole more counts → counts ≡ table whole n
  counting_ends more counts none s =
      ext_get_or 0 counts (table whole n) (s.size ∙ sym (table-size whole n))
      (λ k l. let i : k < n = omega (arith, s.size) in omega (arith, s.each k i, none k, table_at whole n k i))
