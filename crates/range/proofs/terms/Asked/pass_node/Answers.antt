-- `range::terms::Asked::pass_node` meets its contract: the words before `place` are walked. Assumes nothing.
use Prim.Native.Nat.{ℕ, ◌+◌, ◌-◌, ◌<◌}
use mathlib.Core.Path.{◌≡◌, refl, sym, ◌∙◌}
use mathlib.Core.Bool.{Bool, true, false, not, ◌&&◌}
use mathlib.Core.List.{List}
use native.Mathlib.Omega.{arith}
use lib.Dec.{leb, ltb}
use lib.ListN.{length, take, drop}
use Rattle.std.specs.Ordering.{is_le, is_lt, nat_cmp}
use Rattle.std.proofs.lemmas.Bool.Decides.{nat_tests}
use Rattle.known.specs.declared.Known.{Known}
use Rattle.known.specs.Known.{flag_at, Flagged}
use Rattle.query.specs.Words.{node_words}
use Rattle.query.specs.Named.{constants_among}
use Rattle.range.specs.Flagged.{Passed}
use Rattle.known.proofs.Setting.{kept_same}
use Rattle.range.proofs.Asked.{passed-starts, among_first, among_last, node-step}
use Rattle.range.proofs.terms.Asked.pass_node.Goals as goal
use Rattle.range.proofs.terms.Asked.pass_node.Goals.{After-is_new, Start, else-not-is_new, then-not-is_new}

pub loop-place-init : goal.loop-place-init
loop-place-init c =
    let a = c.args in
    let p = c.requires.first_le_start in
    rw (among_first a.self.now.terms.now.query.now a.start a.end a.first p.1 (omega (arith, p.2, p.3)) p.0)
    (passed-starts a.self.now.words.now a.self.now.terms.now.query.now a.known.now a.first c.requires.asking.1)

-- the flag of a word that is not new is set, and that of a new one stays
not_new_flag : (new : Bool) → not new ≡ true → true ≡ not new
not_new_flag new e = sym e

kept_flag : {known : Known} {p : ℕ} (new : Bool) → not new ≡ false → flag_at known p ≡ false → Flagged known p (not new) known
kept_flag new e clear = record { kept = kept_same; here = clear ∙ sym e; other = λ q ne. refl }

-- what `contains` tells of a range
within_is : (a x b : ℕ) → (is_le (nat_cmp a x) && is_lt (nat_cmp x b)) ≡ (leb a x && ltb x b)
within_is a x b = grind (arith, nat_tests)

-- the word at `place`
module _ (c : After-is_new) where
  abbrev ws : List ℕ
  ws = c.args.self.now.words.now

  abbrev qs : List ℕ
  qs = c.args.self.now.terms.now.query.now

  abbrev place : ℕ
  place = c.loop-place.place-counter

  abbrev known : Known
  known = c.loop-place.known

  inside : place < length qs
  inside = omega (arith, c.loop-place-test.true, c.requires.first_le_start.3)

  -- the flag is set unless the word is new
  next :
      (after : Known) → Flagged known (length ws + place) (not c.is_new.result) after →
      Passed ws qs c.args.known.now c.args.first (constants_among (take (place + 1 - c.args.start) (take (c.args.end - c.args.start) (drop c.args.start qs)))) after (place + 1)
  next after f =
      let p = c.requires.first_le_start in
      node-step c.args.start c.args.end p.1 (omega (arith, p.2, p.3)) inside c.loop-place.invariant c.contains-term.result (c.contains-term.ensures.value ∙ within_is c.args.start place c.args.end)
      c.is_new.result c.is_new.ensures after f

pub loop-place-preserved : goal.loop-place-preserved
loop-place-preserved c =
    let b = (goal.at.loop-place-preserved c).After-is_new in
    elim c.if-not-is_new.branch [
      | then-not-is_new a ↦ rw a.known-is (next b _ (rw (not_new_flag c.is_new.result a.if-not-is_new.true-raw) at a.pass.ensures))
      | else-not-is_new a ↦ rw a.known-is (next b _ (kept_flag c.is_new.result a.if-not-is_new.false-raw (c.loop-place.invariant.later (length (ws b) + place b) (omega arith))))
    ]

pub returns : goal.returns
returns c =
    let a = c.args in
    let p = c.requires.first_le_start in
    let e : c.loop-place.place-counter ≡ a.first + node_words = omega arith in
    let all = rw (among_last a.self.now.terms.now.query.now a.start a.end c.loop-place.place-counter p.1 (omega (arith, p.2, p.3)) (omega (arith, e, p.2))) at c.loop-place.invariant in
    rw e at all
