-- `domain::chain::Chains::add_value` meets its contract: the cell is found in the chain of its bucket, or added to it. Assumes nothing.
use Prim.Native.Nat.{ℕ, ◌+◌, ◌*◌}
use mathlib.Core.Path.{◌≡◌, sym, ◌∙◌}
use mathlib.Core.Bool.{false}
use mathlib.Core.List.{List, [], ◌∷◌}
use native.Mathlib.Omega.{arith}
use lib.ListN.{get_or, set}
use Rattle.calculus.specs.Listed.{listed}
use Rattle.domain.specs.Bucket.{bucket_of}
use Rattle.domain.specs.Chains.{link_unit, values_of, Chain, Chained, Added}
use Rattle.domain.proofs.Chains.{chained_more, added_new, added_old}
use Rattle.domain.proofs.chain.Chains.add_value.Goals as goal
use Rattle.domain.proofs.chain.Chains.add_value.Goals.{After-bucket_of-bucket}

by_chained_added : {A B : Type 0} → A × B → record { chained : A; added : B }
by_chained_added p = record { chained = p.0; added = p.1 }

module _ (c : After-bucket_of-bucket) where
  abbrev list : List ℕ
  list = c.args.list.now

  abbrev heads : List ℕ
  heads = c.args.self.now.heads

  abbrev n : ℕ
  n = c.args.self.now.count

  abbrev cell : ℕ
  cell = c.args.cell

  -- the start of the chain of the cell's bucket
  start : (bucket : ℕ) → bucket ≡ bucket_of cell → Chain list cell n (get_or heads bucket 0)
  start bucket e = rw e (c.requires.3.starts cell)

  -- what was added to it
  more : (bucket : ℕ) → bucket ≡ bucket_of cell → listed cell (values_of n list) ≡ false
      → Chained (set heads bucket (n + 1)) (set list n (cell + link_unit * get_or heads bucket 0)) (n + 1)
      × Added list n (cell ∷ []) (set list n (cell + link_unit * get_or heads bucket 0)) (n + 1)
  more bucket e new = rw e (chained_more c.requires.3 c.requires.0 cell c.requires.2, added_new c.requires.3 c.requires.0 cell c.requires.2 new)

  found : Chain list cell n (get_or heads c.bucket_of-bucket.result 0)
  found = start c.bucket_of-bucket.result c.bucket_of-bucket.ensures

pub find-requires : goal.find-requires
find-requires c =
    let s = (goal.at.find-requires c).After-bucket_of-bucket in
    let l = (found s).within in
    rw c.from.ensures (omega arith, λ i d m e. c.requires.3.links i d (omega arith) e, (found s).bucket)

pub returns-then-find : goal.returns-then-find
returns-then-find c =
    let b = (goal.at.returns-then-find c).After-bucket_of-bucket in record {
      chained = c.requires.3;
      added = added_old (list b) (n b) (cell b) ((found b).same ∙ rw c.from.ensures at (sym c.find.ensures ∙ c.if-find.true));
    }

pub returns : goal.returns
returns c =
    let b = (goal.at.returns c).After-bucket_of-bucket in
    rw c.from-2.ensures (by_chained_added (more b c.bucket_of-bucket.result c.bucket_of-bucket.ensures ((found b).same ∙ rw c.from.ensures at (sym c.find.ensures ∙ c.if-find.false))))
