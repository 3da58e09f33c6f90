-- `range::terms::Asked::is_new` meets its contract. Assumes nothing.
use Prim.Native.Nat.{ℕ, ◌/◌}
use mathlib.Core.Path.{◌≡◌, refl, sym, ap, ◌∙◌}
use mathlib.Core.Bool.{true, false}
use native.Mathlib.Omega.{arith}
use borrow.Author.Tests.{not-true, not-false, le-ltb}
use lib.ListN.{length, get_or}
use lib.Seq.{take-length}
use Rattle.range.specs.Cache.{head_of, Head}
use Rattle.range.specs.Flagged.{stood_before}
use Rattle.range.proofs.Asked.{not_new, new-here}
use Rattle.range.proofs.terms.Asked.is_new.Goals as goal
use Rattle.range.proofs.terms.Asked.is_new.Goals.{After-bucket_of, then-not-term-via-then-not-term, then-not-term-via-else-not-term+then-query-place-ge-CONSTANTS}

pub returns-then-not-term : goal.returns-then-not-term
returns-then-not-term c =
    let a = c.args in
    elim c.then-not-term.branch [
      | then-not-term-via-then-not-term w ↦ let e : a.term ≡ false = not-true _ w.if-not-term.true-raw in rw e refl
      | then-not-term-via-else-not-term+then-query-place-ge-CONSTANTS w ↦ let k = le-ltb (get_or a.self.now.terms.now.query.now a.place 0) 1000000 w.if-query-place-ge-CONSTANTS.true in
          rw (not-false _ w.if-not-term.false-raw, k) refl
    ]

-- the word's head: two buckets share one
module _ (c : After-bucket_of) where
  abbrev w : ℕ
  w = get_or c.args.self.now.terms.now.query.now c.args.place 0

  found : Head c.args.self.now.words.now (stood_before c.args.known.now c.args.self.now.words.now (length c.args.self.now.words.now)) (length c.args.self.now.words.now) w (get_or c.args.self.now.heads.now (c.bucket_of.result / 2) 0)
  found =
      let half : c.bucket_of.result / 2 ≡ head_of w = ap (λ (k : ℕ). k / 2) c.bucket_of.ensures in
      rw (half, take-length c.args.self.now.words.now) (c.requires.0.cached.heads_of w)

pub stood_earlier-requires : goal.stood_earlier-requires
stood_earlier-requires c =
    let b = (goal.at.stood_earlier-requires c).After-bucket_of in record {
      place_in = (omega arith, b.requires.0.short);
      head = rw c.from-head.ensures (found b);
    }

pub returns-then-stood_earlier : goal.returns-then-stood_earlier
returns-then-stood_earlier c =
    let b = (goal.at.returns-then-stood_earlier c).After-bucket_of in
    let a = b.args in
    let t : a.term ≡ true = not-false _ c.if-not-term.false-raw in
    not_new a.known.now a.self.now.words.now a.self.now.terms.now.query.now a.place a.term t (omega (arith, c.if-query-place-ge-CONSTANTS.false)) (sym c.stood_earlier.ensures ∙ c.if-stood_earlier.true)

pub returns : goal.returns
returns c =
    let b = (goal.at.returns c).After-bucket_of in
    let a = b.args in
    let t : a.term ≡ true = not-false _ c.if-not-term.false-raw in
    new-here a.known.now a.self.now.words.now a.self.now.terms.now.query.now a.place a.term t (omega (arith, c.if-query-place-ge-CONSTANTS.false))
    (sym c.stood_earlier.ensures ∙ c.if-stood_earlier.false) c.stood.result c.stood.ensures
