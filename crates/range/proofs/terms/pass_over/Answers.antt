-- `range::terms::pass_over` meets its contract. Assumes nothing.
use Prim.Native.Nat.{ℕ}
use mathlib.Core.Path.{refl, ap, ◌∙◌}
use mathlib.Core.List.{List, []}
use Rattle.calculus.specs.Domain.{listing}
use Rattle.calculus.specs.Row.{cells_of}
use Rattle.instance.specs.Rows.{rows_from}
use Rattle.known.proofs.Setting.{kept_then}
use Rattle.query.specs.Named.{named_in}
use Rattle.range.specs.Walked.{walked}
use Rattle.range.proofs.Walked.{unpassed-walked, walked_more}
use Rattle.range.proofs.Asked.{none-behind, passed-whole}
use Rattle.range.proofs.terms.pass_over.Goals as goal

pub pass_cells-requires : goal.pass_cells-requires
pass_cells-requires c =
    record {
      instance_of = (c.requires.instance_of.0, refl);
      no_flags = c.requires.no_flags;
    }

pub pass_terms-requires : goal.pass_terms-requires
pass_terms-requires c =
    let done = c.pass_cells.ensures in (
      record { short = c.requires.instance_of.0.well_formed.few; few = c.requires.instance_of.2; cached = done.cached },
      λ q l. done.flags q ∙ none-behind _ c.args.words.now q l,
    )

pub returns : goal.returns
returns c =
    let ws = c.args.words.now in
    let ars = c.args.terms.now.arities.now in
    let cells = c.pass_cells in
    let done = cells.ensures in
    let named = named_in ars c.args.terms.now.query.now in
    let all = c.pass_terms.ensures in record {
      kept = kept_then done.kept all.kept;
      walked = passed-whole all ∙
          ap (λ (l : List ℕ). listing l named) (unpassed-walked _ ws cells.new.known done.flags) ∙
          ap (λ (l : List ℕ). listing (walked [] (cells_of (rows_from l 0 ws))) named) c.requires.instance_of.1 ∙
          walked_more (cells_of (rows_from ars 0 ws)) named;
    }
