use Rattle.replica_runs.proofs.RunLemmas.{crashes_are_fit_starts, ends_are_fit_starts, runs_join}
use Rattle.replica_runs.proofs.law.runs_follow.Goals as goal

pub returns-clause-crashes : goal.returns-clause-crashes
returns-clause-crashes c = crashes_are_fit_starts

pub returns-clause-ends : goal.returns-clause-ends
returns-clause-ends c = ends_are_fit_starts

pub returns-clause-runs : goal.returns-clause-runs
returns-clause-runs c = runs_join
