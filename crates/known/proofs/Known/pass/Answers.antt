-- `known::Known::pass` meets its contract. Assumes nothing.
use native.Mathlib.Omega.{arith}
use Rattle.known.proofs.Setting.{set_flag}
use Rattle.known.proofs.Known.pass.Goals as goal

pub returns : goal.returns
returns c = set_flag c.args.self.now c.args.place (omega arith)
