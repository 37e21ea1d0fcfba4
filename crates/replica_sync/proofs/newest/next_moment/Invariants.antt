use Rattle.std.proofs.Common.{◌≡◌, drop}
use Rattle.replica_store.specs.Chain.{moment_of}
use Rattle.replica_sync.proofs.newest.next_moment.Given as goal

abbrev pub invariant-loop-file : goal.invariant-loop-file
invariant-loop-file l = moment_of l.dated l.newest ≡ moment_of (drop l.file-index l.dated) l.newest
