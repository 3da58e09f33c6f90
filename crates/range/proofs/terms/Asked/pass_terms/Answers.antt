-- `range::terms::Asked::pass_terms` meets its contract: the nodes before `node` are walked. Assumes nothing.
use Prim.Native.Nat.{ℕ, ◌+◌, ◌-◌, ◌*◌, ◌≤◌, ◌<◌}
use mathlib.Core.Path.{◌≡◌, refl, sym, ap, ◌∙◌}
use mathlib.Core.List.{List, [], ◌++◌, append_assoc, append-nil}
use native.Mathlib.Nat.{sub-zero}
use native.Mathlib.Omega.{arith}
use lib.ListN.{length, take, drop}
use Rattle.query.specs.Words.{node_count, node_words}
use Rattle.query.specs.Named.{named_from, named_in, start_of, count_at, terms_of, constants_among, HasTerms}
use Rattle.query.proofs.KindTerms.{part_lent, terms-within, node_end, named_rest}
use Rattle.range.proofs.Asked.{passed-starts, passed_then, asking-kept}
use Rattle.range.proofs.terms.Asked.pass_terms.Goals as goal
use Rattle.range.proofs.terms.Asked.pass_terms.Goals.{After-count}

pub loop-node-init : goal.loop-node-init
loop-node-init c = (
  [],
  omega arith,
  rw sub-zero refl,
  passed-starts c.args.self.now.words.now c.args.self.now.terms.now.query.now c.args.known.now 0 (λ q l. c.requires.1 q (omega arith)),
)

pub terms_start-start-requires : goal.terms_start-start-requires
terms_start-start-requires c = (c.args.self.now.terms.now.has_terms.whole, omega arith)

-- the node
module _ (c : After-count) where
  abbrev qs : List ℕ
  qs = c.args.self.now.terms.now.query.now

  abbrev ars : List ℕ
  ars = c.args.self.now.terms.now.arities.now

  abbrev terms : HasTerms ars qs
  terms = c.args.self.now.terms.now.has_terms

  abbrev node : ℕ
  node = c.loop-node.node

  below : node < node_count qs
  below = omega arith

  starts : c.terms_start-start.result ≡ start_of ars qs node
  starts = c.terms_start-start.ensures

  counts : c.count.result ≡ count_at ars qs node
  counts = c.count.ensures

  ends : c.terms_start-start.result + c.count.result ≤ node * node_words + node_words
  ends = omega (arith, starts, counts, terms-within ars qs terms node)

  lent : take (c.terms_start-start.result + c.count.result - c.terms_start-start.result) (drop c.terms_start-start.result qs) ≡ terms_of ars qs node
  lent = part_lent qs _ _ _ _ starts counts

pub pass_node-requires : goal.pass_node-requires
pass_node-requires c =
    let b = (goal.at.pass_node-requires c).After-count in
    let so_far = c.loop-node.invariant.3 in record {
      asking = (asking-kept b.requires.0 so_far, so_far.later);
      first_le_start = (omega (arith, starts b), omega arith, ends b, node_end (ars b) (qs b) (terms b) (node b) (below b));
    }

pub loop-node-preserved : goal.loop-node-preserved
loop-node-preserved c =
    let b = (goal.at.loop-node-preserved c).After-count in
    let inv = c.loop-node.invariant in
    let here = constants_among (terms_of (ars b) (qs b) (node b)) in
    let rest = named_from (ars b) (qs b) (node b + 1) (node_count (qs b) - (node b + 1)) in
    let next : node b * node_words + node_words ≡ (node b + 1) * node_words = omega arith in (
      inv.0 ++ here,
      omega arith,
      append_assoc inv.0 here rest ∙ ap (λ (l : List ℕ). inv.0 ++ l) (sym (named_rest (ars b) (qs b) (terms b) (node b) (below b))) ∙ inv.2,
      rw next at (passed_then inv.3 (rw (lent b) at c.pass_node.ensures)),
    )

pub returns : goal.returns
unfolding named_from
returns c =
    let qs = c.args.self.now.terms.now.query.now in
    let inv = c.loop-node.invariant in
    let e : node_count qs - c.loop-node.node ≡ 0 = omega arith in
    let whole : c.loop-node.node * node_words ≡ length qs = omega (arith, c.args.self.now.terms.now.has_terms.whole, inv.1) in
    let all : inv.0 ≡ named_in c.args.self.now.terms.now.arities.now qs = sym (append-nil inv.0) ∙ (rw e at inv.2) in
    rw (all, whole) at inv.3
