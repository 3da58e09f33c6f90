-- Reading n items, one after the other. Assumes nothing.
use Prim.Native.Nat.{ℕ, zero, suc, ◌≤◌}
use mathlib.Core.Path.{◌≡◌, refl, ap, ◌∙◌}
use mathlib.Core.Bool.{true}
use mathlib.Core.List.{List, [], ◌∷◌}
use native.Mathlib.Omega.{arith}
use lib.ListN.{length}
use Rattle.calculus.specs.Reading.{read, refused, and_then}
use Rattle.calculus.proofs.Bools.{false_not_true}
use Rattle.calculus.proofs.Reading.{then_read}
use Rattle.parse.specs.Parse.{Parsed, read_each, is_read, got}

module _ {A : Type 0} where
  -- an item before other items
  abbrev consed : A → Parsed (List A) → Parsed (List A)
  consed x p = and_then p (λ xs bs. read (x ∷ xs) bs)

  read_consed : (x : A) (p : Parsed (List A)) → is_read p ≡ true → is_read (consed x p) ≡ true
  read_consed x (read xs bs) e = refl
  read_consed x (refused r) e = e

  -- items, the first of which p reads and the others `next`
  pub record First (p : Parsed A) (next : List ℕ → Parsed (List A)) (items : Parsed (List A)) : Type 0 where
    pub one : A
    pub between : List ℕ
    pub was_read : p ≡ read one between
    pub reads : is_read (next between) ≡ true
    pub all : got [] items ≡ one ∷ got [] (next between)

  pub first_read : (p : Parsed A) (next : List ℕ → Parsed (List A)) → is_read (and_then p (λ x bs. consed x (next bs))) ≡ true
      → First p next (and_then p (λ x bs. consed x (next bs)))
  first_read (read x between) next h =
      let c = parts (next between) h in
      record { one = x; between = between; was_read = refl; reads = c.0; all = c.1 }
    where
      parts : (p : Parsed (List A)) → is_read (consed x p) ≡ true → (is_read p ≡ true) × (got [] (consed x p) ≡ x ∷ got [] p)
      parts (read xs bs) e = (refl, refl)
      parts (refused r) e = false_not_true e
  first_read (refused r) next h = false_not_true h

module _ {A : Type 0} (item : List ℕ → Parsed A) where
  -- What holds of no items, and of an item before others if it holds of those, holds of all items that are read. P is about their number, the bytes, the
  -- items and the bytes after them.
  pub each_read :
      (P : ℕ → List ℕ → List A → List ℕ → Type 0) → ((bs : List ℕ) → P 0 bs [] bs) →
      ((n : ℕ) (bs : List ℕ) (x : A) (between : List ℕ) (xs : List A) (rest : List ℕ) → item bs ≡ read x between → P n between xs rest → P (suc n) bs (x ∷ xs) rest) →
      (n : ℕ) (bs : List ℕ) {xs : List A} {rest : List ℕ} → read_each item n bs ≡ read xs rest → P n bs xs rest
  unfolding read_each
  each_read P none more zero bs {xs} {rest} e =
      let empty : xs ≡ [] = cc in
      let all : rest ≡ bs = cc in
      rw (empty, all) (none bs)
  each_read P none more (suc n) bs {xs} {rest} e =
      let a = then_read (item bs) _ e in
      let b = then_read (read_each item n a.state) _ a.second in
      let items : a.value ∷ b.value ≡ xs = cc b.second in
      let end : b.state ≡ rest = cc b.second in
      rw (items, end) at (more n bs _ _ _ _ a.first (each_read P none more n a.state b.first))

  pub each_first : (n : ℕ) (bs : List ℕ) → is_read (read_each item (suc n) bs) ≡ true → First (item bs) (read_each item n) (read_each item (suc n) bs)
  unfolding read_each
  each_first n bs h = first_read (item bs) (read_each item n) h

  pub each_length : (n : ℕ) (bs : List ℕ) → is_read (read_each item n bs) ≡ true → length (got [] (read_each item n bs)) ≡ n
  unfolding read_each
  each_length zero bs e = refl
  each_length (suc n) bs e = let f = each_first n bs e in ap length f.all ∙ ap suc (each_length n f.between f.reads)

  -- if n items are read, so are fewer
  pub each_fewer : (few n : ℕ) (bs : List ℕ) → few ≤ n → is_read (read_each item n bs) ≡ true → is_read (read_each item few bs) ≡ true
  unfolding read_each
  each_fewer zero n bs l e = refl
  each_fewer (suc few) zero bs l e = absurd (omega arith)
  each_fewer (suc few) (suc n) bs l e =
      let f = each_first n bs e in
      rw f.was_read (read_consed f.one (read_each item few f.between) (each_fewer few n f.between (omega arith) f.reads))
