-- `exports::words::write_header` meets its contract: every part is written in its place. Assumes nothing.
use Prim.Native.Nat.{ℕ}
use mathlib.Core.Path.{◌≡◌, ap, ◌∙◌, sym}
use mathlib.Core.List.{List}
use native.Mathlib.Nat.{le_of_eq}
use native.Mathlib.Omega.{arith}
use borrow.Author.Rules.{rules}
use lib.ListN.{length, length-set, set}
use lib.Seq.{length-paste, paste}
use Rattle.instance.specs.Header.{max_relations}
use Rattle.exports.specs.Words.{relations_at, arities_at, used_at, row_counts_at, header_words, header_length}
use Rattle.exports.proofs.HeaderWords.{Eight, words_size, parts_written}
use Rattle.exports.proofs.words.write_header.Goals as goal
use Rattle.exports.proofs.words.write_header.Goals.{After-slice_known-2-1, After-slice_known-3-1}

pub put_eight-requires : goal.put_eight-requires
put_eight-requires c = simp length-set (omega (arith, c.requires))

eight : (c : After-slice_known-2-1) → Eight c.args.header.now
eight c = record { arities = search rules; counts = search rules }

-- the arities are written over the same number of words
long : (c : After-slice_known-2-1) → length c.put_eight.new.words ≡ header_length
long c =
    let h = c.args.header.now in
    let ws = c.args.words.now in
    ap length c.put_eight.ensures ∙
    length-paste (set ws relations_at h.relations) arities_at h.arities max_relations (simp length-set (omega (arith, c.requires))) (le_of_eq (sym (eight c).arities)) ∙
    length-set ws relations_at h.relations ∙ c.requires

pub bounds-words-9 : goal.bounds-words-9
bounds-words-9 c = omega (arith, long c)

pub put_eight-requires-2 : goal.put_eight-requires-2
put_eight-requires-2 c = simp length-set (omega (arith, long (goal.at.put_eight-requires-2 c).After-slice_known-2-1))

written : (c : After-slice_known-3-1) → c.put_eight-2.new.words ≡ header_words c.args.header.now
written c =
    let h = c.args.header.now in
    c.put_eight-2.ensures ∙ ap (λ (l : List ℕ). paste (set l used_at h.used) row_counts_at h.counts max_relations) c.put_eight.ensures ∙
    parts_written h (eight (goal.at.shape_of-words c).After-slice_known-2-1) c.args.words.now c.requires

pub shape_of-words : goal.shape_of-words
shape_of-words c = ap length (written c) ∙ words_size _ (eight (goal.at.shape_of-words c).After-slice_known-2-1) ∙ sym c.requires

pub returns : goal.returns
returns c = written c
