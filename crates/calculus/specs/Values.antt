-- The plot's values by their meaning. Document 01: "The plot's values are its cells, marks included, each once, in
-- order of first standing."
use Rattle.std.specs.Prelude.{ℕ, ◌≡◌, ◌↔◌}
use mathlib.Core.List.{List, ◌∷◌, ◌++◌, Memᴰ}
use Rattle.calculus.specs.Row.{Row, cells_of}
use Rattle.calculus.specs.Domain.{domain, range_over}

-- v stands in cs where no w stood yet
pub record Before (cs : List ℕ) (v w : ℕ) : Type 0 where
  pub before : List ℕ
  pub after : List ℕ
  pub stands : cs ≡ before ++ (v ∷ after)
  pub not_yet : Memᴰ w before → ⊥

-- vs are the values of the cells cs: each cell is listed, and nothing else is; once; in the order of first standing
pub record ValuesOf (cs vs : List ℕ) : Type 0 where
  pub cells : (c : ℕ) → Memᴰ c vs ↔ Memᴰ c cs
  pub once : (before after : List ℕ) (v : ℕ) → vs ≡ before ++ (v ∷ after) → Memᴰ v after → ⊥
  pub order : (before after : List ℕ) (v w : ℕ) → vs ≡ before ++ (v ∷ after) → Memᴰ w after → Before cs v w

abbrev pub DomainIsValues : Type 0
DomainIsValues = (rs : List Row) → ValuesOf (cells_of rs) (domain rs)

-- document 02, request 6: the plot's cells and then the question's inked terms
abbrev pub RangeIsValues : Type 0
RangeIsValues = (named : List ℕ) (rs : List Row) → ValuesOf (cells_of rs ++ named) (range_over named rs)

-- no other list has that meaning
abbrev pub ValuesSettled : Type 0
ValuesSettled = (cs vs us : List ℕ) → ValuesOf cs vs → ValuesOf cs us → vs ≡ us
