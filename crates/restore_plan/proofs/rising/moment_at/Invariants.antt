use Rattle.std.proofs.Common.{◌≡◌, ◌≢◌, ℕ, ◌-◌, ◌<◌, slice_index}
use Rattle.std.specs.List.{Contains}
use Rattle.replica_store.specs.declared.file_name.FileName.{FileName}
use Rattle.restore_plan.specs.Run.{levels}
use Rattle.restore_plan.specs.Walk.{AreWalks}
use Rattle.restore_plan.proofs.rising.moment_at.Given as goal

abbrev pub invariant-loop-walk : goal.invariant-loop-walk
invariant-loop-walk l = record {
  walks : AreWalks l.names (l.t - 1) l.walks;
  none : (k : ℕ) (name : FileName) → k < l.walk-index → Contains l.names name → name.level ≡ slice_index levels k
      → name.max ≢ l.t;
}
