use Rattle.live_gate.proofs.StopLemmas.{back_step, rest_stop_step}
use Rattle.live_gate.proofs.law.stop_laws.Goals as goal

pub returns-clause-back : goal.returns-clause-back
returns-clause-back c = back_step

pub returns-clause-at_rest : goal.returns-clause-at_rest
returns-clause-at_rest c = rest_stop_step
