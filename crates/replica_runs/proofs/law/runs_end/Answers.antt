use Rattle.replica_runs.proofs.RoundLemmas.{runs_end, runs_are_refused, runs_are_refused_at_once}
use Rattle.replica_runs.proofs.law.runs_end.Goals as goal

pub returns-clause-done : goal.returns-clause-done
returns-clause-done c = runs_end

pub returns-clause-refused : goal.returns-clause-refused
returns-clause-refused c = runs_are_refused

pub returns-clause-at_once : goal.returns-clause-at_once
returns-clause-at_once c = runs_are_refused_at_once
