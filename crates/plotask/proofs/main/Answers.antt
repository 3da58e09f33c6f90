use Rattle.std.proofs.Common.{sym, arith}
use Rattle.std.proofs.lemmas.List.{length-take-le}
use Rattle.line.proofs.Fits.{line_fits}
use Rattle.plotask.proofs.main.Goals as goal

pub slice_bounds-out-end : goal.slice_bounds-out-end
slice_bounds-out-end c =
    let l = c.line-end in
    omega (arith, l.ensures.length, l.auto.out, line_fits _ _ _ l.ensures.bytes l.auto.out)

pub slice_bounds-write_all-end : goal.slice_bounds-write_all-end
slice_bounds-write_all-end c =
    let l = c.line-end in
    sym (length-take-le _ _ (omega (arith, l.ensures.length, l.auto.out, line_fits _ _ _ l.ensures.bytes l.auto.out)))
