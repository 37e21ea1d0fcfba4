use Rattle.replica_runs.proofs.RunLemmas.{synced_names_begin, nothing_done_keeps}
use Rattle.replica_runs.proofs.law.runs_begin.Goals as goal

pub returns-clause-synced : goal.returns-clause-synced
returns-clause-synced c = synced_names_begin

pub returns-clause-refused : goal.returns-clause-refused
returns-clause-refused c = nothing_done_keeps
