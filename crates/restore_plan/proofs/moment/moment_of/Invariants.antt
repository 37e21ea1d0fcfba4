use Rattle.std.proofs.Common.{◌≡◌, drop}
use Rattle.replica_store.specs.Chain.{moment_of}
use Rattle.restore_plan.proofs.moment.moment_of.Given as goal

abbrev pub invariant-loop-name : goal.invariant-loop-name
invariant-loop-name l = moment_of l.dated l.t ≡ moment_of (drop l.name-index l.dated) l.t
