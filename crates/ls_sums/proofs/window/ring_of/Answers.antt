use Rattle.std.proofs.Common.{arith}
use Rattle.ls_sums.proofs.WindowLemmas.{holds_start}
use Rattle.ls_sums.proofs.window.ring_of.Goals as goal

pub returns : goal.returns
returns c = holds_start c.args.register (omega arith)
