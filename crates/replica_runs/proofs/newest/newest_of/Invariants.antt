use Rattle.std.proofs.Common.{◌≡◌, drop}
use Rattle.std.specs.Prelude.{max}
use Rattle.replica_runs.specs.Newest.{newest_of}
use Rattle.replica_runs.proofs.newest.newest_of.Given as goal

abbrev pub invariant-loop-name : goal.invariant-loop-name
invariant-loop-name l = newest_of l.names ≡ max l.newest (newest_of (drop l.name-index l.names))
