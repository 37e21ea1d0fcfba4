use Rattle.std.proofs.Common.{arith}
use Rattle.ls_answers.proofs.SayingLemmas.{no_digits}
use Rattle.ls_answers.proofs.reason.digits_of.Goals as goal

pub returns-in-None : goal.returns-in-None
returns-in-None c = no_digits c.args.after (omega (arith, c.in-None.ensures))
