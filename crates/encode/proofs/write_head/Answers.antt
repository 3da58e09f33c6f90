-- `encode::write_head` meets its contract: the loop writes the arities from the second byte. Assumes nothing.
use Prim.Native.Nat.{ℕ, ◌+◌, ◌-◌, ◌/◌, ◌%◌, ◌≤◌, ◌<◌}
use mathlib.Core.Path.{◌≡◌, refl, sym, ap, ◌∙◌}
use mathlib.Core.Bool.{true}
use mathlib.Core.List.{List, [], ◌∷◌, ◌++◌, append_assoc, append-nil}
use native.Mathlib.Omega.{arith}
use borrow.Author.Rules.{rules}
use borrow.Rule.Slice.PartMut.{put_mid}
use lib.ListN.{length, take, drop, get_or, set, length-append}
use lib.Seq.{drop-set-lt, length-take-le, get_or-take, drop-length}
use mir.Syntax.{w8}
use mir.Val.{Fits}
use Rattle.calculus.proofs.Lists.{drop_step}
use Rattle.calculus.proofs.Stores.{Written, written_begin, written_store, written_part, written_anew, written_finish}
use Rattle.instance.specs.Header.{header_well_formed, max_relations}
use Rattle.instance.proofs.Rows.{headed}
use Rattle.encode.proofs.write_head.Goals as goal
use Rattle.encode.proofs.write_head.Invariants.{counted, whole}

module _ (n count : ℕ) (ars : List ℕ) (formed : header_well_formed n ars ≡ true) (eight : length ars ≡ max_relations) where
  few : n ≤ length ars
  few = omega (arith, (headed n ars formed).few)

  long : length (take n ars) ≡ n
  long = length-take-le n ars few

  -- an arity is a byte
  narrow : (i : ℕ) → i < length (take n ars) → Fits w8 (get_or (take n ars) i 0)
  narrow i l = rw (get_or-take n ars i 0 (omega (arith, long))) (omega (arith, ((headed n ars formed).columns i (omega (arith, long))).1))

  starts : (out : List ℕ) → n + 3 ≤ length out → Written (whole n ars count) (take n ars ++ counted count) (set out 0 n) (set out 0 n) 1
  starts out room = written_anew (written_store 1 refl (written_begin (whole n ars count) out (simp length-append (omega (arith, long)))))

  -- the next arity
  next : (out₀ out : List ℕ) (i : ℕ) → i < length (take n ars) → Written (whole n ars count) (drop i (take n ars) ++ counted count) out₀ out (i + 1)
      → Written (whole n ars count) (drop (i + 1) (take n ars) ++ counted count) out₀ (set out (i + 1) (get_or (take n ars) i 0)) (i + 1 + 1)
  next out₀ out i l w = written_store (i + 1 + 1) refl (rw (drop_step (take n ars) i l) at w)

  -- the number of rows, before the bytes that keep their content
  closing : (out₀ out part : List ℕ) (i : ℕ) → length (take n ars) ≤ i → i ≤ length (take n ars) → part ≡ counted count
      → Written (whole n ars count) (drop i (take n ars) ++ counted count) (set out₀ 0 n) out (i + 1)
      → put_mid (n + 1) (n + 3 - (n + 1)) out part ≡ n ∷ take n ars ++ count / 256 % 256 ∷ count % 256 ∷ drop (n + 3) out₀
  closing out₀ out part i l m is w =
      let i-is : i ≡ n = omega (arith, long) in
      let two : n + 3 - (n + 1) ≡ 2 = omega arith in
      let done : drop n (take n ars) ≡ [] = ap (λ (k : ℕ). drop k (take n ars)) (sym long) ∙ drop-length (take n ars) in
      let size : length (whole n ars count) ≡ n + 3 = simp length-append (omega (arith, long)) in
      let left = rw (i-is, done, ← append-nil (counted count)) at w in
      let finished = written_finish (written_part (counted count) left) in
      rw (two, is) (finished ∙ rw (size, drop-set-lt (n + 3) out₀ 0 n (omega arith), append_assoc (take n ars) (counted count) (drop (n + 3) out₀)))

pub overflow_cast-out : goal.overflow_cast-out
overflow_cast-out c = omega (arith, (headed _ _ c.requires.formed).few)

pub shared_ref_as_front-arity-items : goal.shared_ref_as_front-arity-items
shared_ref_as_front-arity-items c = omega (arith, (headed _ _ c.requires.formed).few)

pub loop-i-init : goal.loop-i-init
loop-i-init c =
    let eight : length c.args.header.now.arities ≡ max_relations = search rules in
    starts _ c.args.count _ c.requires.formed eight c.args.out.now c.requires.room

pub overflow_cast-out-in-loop-i : goal.overflow_cast-out-in-loop-i
overflow_cast-out-in-loop-i c =
    let eight : length c.args.header.now.arities ≡ max_relations = search rules in
    narrow _ c.args.count _ c.requires.formed eight c.loop-i.i c.loop-i-test.true

pub loop-i-preserved : goal.loop-i-preserved
loop-i-preserved c =
    let eight : length c.args.header.now.arities ≡ max_relations = search rules in
    next _ c.args.count _ c.requires.formed eight _ c.loop-i.out c.loop-i.i c.loop-i-test.true c.loop-i.invariant

pub returns : goal.returns
returns c =
    let eight : length c.args.header.now.arities ≡ max_relations = search rules in
    closing _ c.args.count _ c.requires.formed eight c.args.out.now c.loop-i.out c.copy_from_slice.new.self c.loop-i.i c.loop-i-test.false
    (omega (arith, c.loop-i.auto.i-end)) (rw c.to_be_bytes.ensures at c.copy_from_slice.ensures.after) c.loop-i.invariant
