use Rattle.replica_runs.proofs.NewestLemmas.{newest_is_recorded}
use Rattle.replica_runs.proofs.law.newest_lines_are_recorded.Goals as goal

pub returns : goal.returns
returns c = newest_is_recorded
