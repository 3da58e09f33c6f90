-- `line::text::write_line` meets its contract: the word, then the digits and the line feed. Assumes nothing.
use Rattle.line.proofs.Lines.{room_for_digits, end_inside, line_long, line_bytes}
use Rattle.line.proofs.text.write_line.Goals as goal

pub decimal-requires : goal.decimal-requires
decimal-requires c = room_for_digits c.args.word.now c.args.out.now _ c.args.n c.ranges.n.fits c.requires c.copy_from_slice.ensures.after

pub bounds-out-end : goal.bounds-out-end
bounds-out-end c =
    end_inside c.args.word.now c.args.out.now _ c.args.n c.ranges.n.fits c.requires c.copy_from_slice.ensures.after _ _ c.decimal.ensures.count c.decimal.ensures.bytes

pub returns : goal.returns
returns c = record {
  length = line_long c.args.word.now c.args.out.now _ c.args.n c.ranges.n.fits c.requires c.copy_from_slice.ensures.after _ _ c.decimal.ensures.count c.decimal.ensures.bytes;
  bytes = line_bytes c.args.word.now c.args.out.now _ c.args.n c.ranges.n.fits c.requires c.copy_from_slice.ensures.after _ _ c.decimal.ensures.count c.decimal.ensures.bytes;
}
