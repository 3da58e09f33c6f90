-- `domain::list_range` meets its contract: the cells are added to the list, then the inked terms. Assumes nothing.
use Prim.Native.Nat.{ℕ, ◌≤◌}
use mathlib.Core.Path.{ap, ◌∙◌}
use mathlib.Core.List.{List, ◌++◌}
use native.Mathlib.Omega.{arith}
use lib.ListN.{length, take, drop, length-map, length-append}
use lib.Seq.{length_front}
use Rattle.calculus.specs.Row.{cells_of}
use Rattle.instance.specs.Rows.{rows_from}
use Rattle.query.specs.Named.{named_in}
use Rattle.domain.specs.declared.chain.Chains.{Chains}
use Rattle.domain.specs.Chains.{word_value, Added}
use Rattle.domain.proofs.Chains.{chained_starts, added_then}
use Rattle.domain.proofs.Listing.{added_number, added_ends}
use Rattle.domain.proofs.list_range.Goals as goal
use Rattle.domain.proofs.list_range.Goals.{After-add_named}

pub list_cells-requires : goal.list_cells-requires
list_cells-requires c =
    let ars = c.args.terms.now.arities.now in record {
      instance_of = (c.requires.instance_of, rw c.new-chains.ensures (chained_starts _), ap (λ (k : Chains). k.count) c.new-chains.ensures);
      words_in_bounds = omega (arith, c.requires.query_in_bounds, length-append (cells_of (rows_from ars 0 c.args.words.now)) (named_in ars c.args.terms.now.query.now));
    }

pub add_named-requires : goal.add_named-requires
add_named-requires c =
    let call = c.list_cells in
    let ars = c.args.terms.now.arities.now in
    let both = length-append (cells_of (rows_from ars 0 c.args.words.now)) (named_in ars c.args.terms.now.query.now) in record {
      chained = call.ensures.chained;
      query_in_bounds = (omega (arith, both, c.requires.query_in_bounds, call.ensures.added.most, call.ensures.added.long), omega (arith, both, c.requires.query_len_bound, call.ensures.added.most));
    }

-- cells and terms are added
module _ (c : After-add_named) where
  abbrev all : List ℕ
  all = cells_of (rows_from c.args.terms.now.arities.now 0 c.args.words.now) ++ named_in c.args.terms.now.arities.now c.args.terms.now.query.now

  added : Added c.args.buffer.now 0 all c.add_named.new.list c.add_named.new.self.count
  added = added_then c.list_cells.ensures.added c.add_named.ensures.added

  room : length all ≤ length c.args.buffer.now
  room = c.requires.query_in_bounds

pub shape_of-buffer : goal.shape_of-buffer
shape_of-buffer c =
    let b = (goal.at.shape_of-buffer c).After-add_named in
    let l = ap length c.unlink.ensures ∙ length-map (take c.add_named.new.self.count c.add_named.new.list) word_value in
    length_front c.add_named.new.list c.unlink.new.list c.add_named.new.self.count l ∙ (added b).long

pub returns : goal.returns
returns c =
    let b = (goal.at.returns c).After-add_named in record {
      number = added_number (added b) (room b);
      values = ap (λ (l : List ℕ). l ++ drop c.add_named.new.self.count c.add_named.new.list) c.unlink.ensures ∙ added_ends (added b) (room b);
    }
