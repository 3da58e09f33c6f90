-- `range::pass::pass_again` meets its contract. Assumes nothing.
use Prim.Native.Nat.{ℕ, ◌+◌, ◌/◌}
use mathlib.Core.Path.{◌≡◌, refl, sym, ◌∙◌, ap}
use mathlib.Core.List.{List}
use native.Mathlib.Omega.{arith}
use lib.ListN.{get_or, set}
use Rattle.known.specs.declared.Known.{Known}
use Rattle.calculus.specs.Listed.{listed}
use Rattle.range.specs.Cache.{head_of, Head, Cached}
use Rattle.known.specs.Known.{Flagged}
use Rattle.range.specs.Flagged.{stood_before}
use Rattle.known.proofs.Setting.{kept_same}
use Rattle.range.proofs.Cache.{cached-cell}
use Rattle.range.proofs.pass.pass_again.Goals as goal
use Rattle.range.proofs.pass.pass_again.Goals.{After-bucket_of-bucket, Start}

by_flags_cached : {A B : Type 0} → A × B → record { flags : A; cached : B }
by_flags_cached p = record { flags = p.0; cached = p.1 }

module _ (c : Start) where
  abbrev ws : List ℕ
  ws = c.args.words.now

  abbrev known : Known
  known = c.args.known.now

  abbrev heads : List ℕ
  heads = c.args.heads.now

  abbrev place : ℕ
  place = c.args.place

  abbrev cell : ℕ
  cell = get_or ws place 0

  abbrev vs : List ℕ
  vs = stood_before known ws place

  -- the cell's head
  head_at : (bucket : ℕ) → bucket ≡ head_of cell → Head ws vs place cell (get_or heads bucket 0)
  head_at bucket e = rw e (c.requires.cached_before.heads_of cell)

  -- what is promised, once the flag is right
  done : (bucket : ℕ) → bucket ≡ head_of cell → (after : Known) → Flagged known place (listed cell vs) after
      → Flagged known place (listed cell vs) after × Cached (set heads bucket (place + 1)) ws (stood_before after ws (place + 1)) (place + 1)
  done bucket e after f = (f, cached-cell bucket e c.requires.place_in.0 c.requires.cached_before f)

abbrev from : After-bucket_of-bucket → Start
from c = c.before.before.before.before

-- two buckets share a head
half : (c : After-bucket_of-bucket) → c.bucket_of-bucket.result / 2 ≡ head_of (cell (from c))
half c = ap (λ (k : ℕ). k / 2) c.bucket_of-bucket.ensures

abbrev found : (c : After-bucket_of-bucket) → Head (ws (from c)) (vs (from c)) (place (from c)) (cell (from c)) (get_or (heads (from c)) (c.bucket_of-bucket.result / 2) 0)
found c = head_at (from c) (c.bucket_of-bucket.result / 2) (half c)

pub stood_earlier-requires : goal.stood_earlier-requires
stood_earlier-requires c =
    let b = (goal.at.stood_earlier-requires c).After-bucket_of-bucket in
    let p = b.requires.place_in in record {
      place_in = (omega (arith, p.0), p.1);
      head = rw c.from-head.ensures (found b);
    }

pub returns-then-stood_earlier : goal.returns-then-stood_earlier
returns-then-stood_earlier c =
    let b = (goal.at.returns-then-stood_earlier c).After-bucket_of-bucket in
    let f = c.pass.ensures in by_flags_cached (done (from b) (c.bucket_of-bucket.result / 2) (half b) _
    (record { kept = f.kept; here = f.here ∙ sym c.if-stood_earlier.true ∙ c.stood_earlier.ensures; other = f.other }))

pub returns-else-stood_earlier : goal.returns-else-stood_earlier
returns-else-stood_earlier c =
    let b = (goal.at.returns-else-stood_earlier c).After-bucket_of-bucket in by_flags_cached (done (from b) (c.bucket_of-bucket.result / 2) (half b) _
    (record { kept = kept_same; here = b.requires.place_in.2 ∙ sym c.if-stood_earlier.false ∙ c.stood_earlier.ensures; other = λ q ne. refl }))
