use Rattle.std.proofs.Common.{◌≡◌, drop}
use Rattle.std.specs.Prelude.{max}
use Rattle.replica_sync.specs.Newest.{newest_of}
use Rattle.replica_sync.proofs.newest.newest_of.Given as goal

abbrev pub invariant-loop-file : goal.invariant-loop-file
invariant-loop-file l = max l.newest (newest_of (drop l.file-index l.dated)) ≡ newest_of l.dated
