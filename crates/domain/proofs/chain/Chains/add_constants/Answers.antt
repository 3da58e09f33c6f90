-- `domain::chain::Chains::add_constants` meets its contract: the constants before the index are added. Assumes nothing.
use Prim.Native.Nat.{◌+◌, ◌≤◌}
use mathlib.Core.Path.{ap}
use mathlib.Core.List.{[], ◌∷◌}
use native.Mathlib.Omega.{arith}
use lib.ListN.{length, take, get_or, length-append}
use Rattle.query.specs.Named.{constants_among}
use Rattle.query.proofs.KindTerms.{among_more, among_same}
use Rattle.domain.proofs.Chains.{added_none, added_then}
use Rattle.domain.proofs.Listing.{among_room}
use Rattle.domain.proofs.chain.Chains.add_constants.Goals as goal
use Rattle.domain.proofs.chain.Chains.add_constants.Goals.{else-word-lt-CONSTANTS, then-word-lt-CONSTANTS}

pub loop-word-init : goal.loop-word-init
unfolding constants_among
loop-word-init c = (c.requires.2, added_none _ _)

pub add_value-requires : goal.add_value-requires
add_value-requires c =
    let ws = c.args.words.now in
    let i = c.loop-word.word-index in
    let inv = c.loop-word.invariant in
    let word = c.if-word-lt-CONSTANTS.true in
    let room : c.loop-word.self.count + 1 ≤ c.args.self.now.count + length (constants_among ws) =
    omega (arith, inv.1.most, among_room ws (i + 1), ap length (among_more ws i c.loop-word-test.true (omega (arith, word))), length-append (constants_among (take i ws)) (get_or ws i 0 ∷ []))
    in
    (omega (arith, room, c.requires.0), omega (arith, room, c.requires.1), omega (arith, word), inv.0)

pub loop-word-preserved : goal.loop-word-preserved
loop-word-preserved c =
    let ws = c.args.words.now in
    let i = c.loop-word.word-index in
    let inv = c.loop-word.invariant in
    elim c.if-word-lt-CONSTANTS.branch [
      | then-word-lt-CONSTANTS w ↦ rw (w.self-is, w.list-is, among_more ws i c.loop-word-test.true (omega (arith, w.if-word-lt-CONSTANTS.true)))
          (w.add_value.ensures.chained, added_then inv.1 w.add_value.ensures.added)
      | else-word-lt-CONSTANTS w ↦ rw (w.self-is, w.list-is, among_same ws i c.loop-word-test.true (omega (arith, w.if-word-lt-CONSTANTS.false))) inv
    ]
