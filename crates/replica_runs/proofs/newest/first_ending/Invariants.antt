use Rattle.std.proofs.Common.{◌≡◌, drop}
use Rattle.replica_runs.specs.Newest.{first_ending}
use Rattle.replica_runs.proofs.newest.first_ending.Given as goal

abbrev pub invariant-loop-name : goal.invariant-loop-name
invariant-loop-name l = first_ending l.names l.t ≡ first_ending (drop l.name-index l.names) l.t
