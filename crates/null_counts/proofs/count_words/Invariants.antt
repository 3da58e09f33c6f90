use lib.ListN.{drop}
use Rattle.instance.proofs.Counts.{Census}
use Rattle.null_counts.proofs.count_words.Given as goal

abbrev pub invariant-loop-w : goal.invariant-loop-w
invariant-loop-w l = Census l.words (drop l.w-index l.words) l.counts
