use Rattle.replica_runs.proofs.RunLemmas.{carried_on_keeps, new_ones_stay, new_ones_join, carried_on_extends}
use Rattle.replica_runs.proofs.law.runs_keep.Goals as goal

pub returns-clause-keep : goal.returns-clause-keep
returns-clause-keep c = carried_on_keeps

pub returns-clause-stay : goal.returns-clause-stay
returns-clause-stay c = new_ones_stay

pub returns-clause-join : goal.returns-clause-join
returns-clause-join c = new_ones_join

pub returns-clause-extend : goal.returns-clause-extend
returns-clause-extend c = carried_on_extends
