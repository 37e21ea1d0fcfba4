use Rattle.live_gate.proofs.StepLemmas.{step_itself, step_join, moves_stay, moves_join}
use Rattle.live_gate.proofs.law.step_laws.Goals as goal

pub returns-clause-stay : goal.returns-clause-stay
returns-clause-stay c = step_itself

pub returns-clause-join : goal.returns-clause-join
returns-clause-join c = step_join

pub returns-clause-told_stay : goal.returns-clause-told_stay
returns-clause-told_stay c = moves_stay

pub returns-clause-told_join : goal.returns-clause-told_join
returns-clause-told_join c = moves_join
