-- `exports::words::read_header` meets its contract: the arities and the counts are each eight words from their place. Assumes nothing.
use Prim.Native.Nat.{ℕ}
use mathlib.Core.Path.{ap₂, ◌∙◌}
use mathlib.Core.List.{List}
use native.Mathlib.Omega.{arith}
use lib.ListN.{get_or}
use Rattle.instance.specs.Header.{header_with}
use Rattle.exports.specs.Words.{relations_at, used_at, header_of}
use Rattle.exports.proofs.words.read_header.Goals as goal

pub eight-arities-requires : goal.eight-arities-requires
eight-arities-requires c = omega (arith, c.requires)

pub eight-counts-requires : goal.eight-counts-requires
eight-counts-requires c = omega (arith, c.requires)

pub returns : goal.returns
unfolding header_of
returns c =
    let ws = c.args.words.now in
    c.header_with.ensures ∙
    ap₂ (λ (ars counts : List ℕ). header_with (get_or ws relations_at 0) ars (get_or ws used_at 0) counts) c.eight-arities.ensures c.eight-counts.ensures
