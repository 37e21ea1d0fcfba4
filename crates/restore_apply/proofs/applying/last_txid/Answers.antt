use Rattle.restore_apply.proofs.PlanLemmas.{last_of}
use Rattle.restore_apply.proofs.applying.last_txid.Goals as goal

pub returns : goal.returns
returns c = last_of c.args.plan.now c.index-plan-plan.result c.requires.some
