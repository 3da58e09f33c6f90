-- `line::line` meets its contract: it writes the line of the answer. Assumes nothing.
use mathlib.Core.Path.{sym, ◌∙◌}
use Rattle.line.proofs.Answering.{no_line, one_line}
use Rattle.line.proofs.line.Goals as goal

pub returns-then-out-lt-LINE : goal.returns-then-out-lt-LINE
returns-then-out-lt-LINE c =
    let p = no_line c.args.input.now c.args.out.now c.if-out-lt-LINE.true in record {
      length = sym p.0;
      bytes = sym p.1;
    }

pub returns-in-Ok : goal.returns-in-Ok
returns-in-Ok c =
    let p = one_line c.args.input.now c.args.out.now c.in-Ok.ensures c.if-out-lt-LINE.false in record {
      length = c.write_verdict.ensures.length ∙ sym p.0;
      bytes = c.write_verdict.ensures.bytes ∙ sym p.1;
    }

pub returns-in-Err : goal.returns-in-Err
returns-in-Err c =
    let p = one_line c.args.input.now c.args.out.now c.in-Err.ensures c.if-out-lt-LINE.false in record {
      length = c.write_refused.ensures.length ∙ rw c.from.ensures (sym p.0);
      bytes = c.write_refused.ensures.bytes ∙ rw c.from.ensures (sym p.1);
    }
