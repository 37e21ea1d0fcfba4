-- The causes of what a round answers, whether its objects tell their content or not.
use Rattle.std.specs.Prelude.{ℕ, ◌≤◌, Result, IsErrOf}
use Rattle.crash_disk.specs.declared.fault.DiskFault.{DiskFault}
use Rattle.ls_base.specs.Fault.{Rose}
use Rattle.live_gate.specs.declared.fault.LiveFault.{LiveFault}
use Rattle.wal_follow.specs.declared.fault.FollowFault.TheVariants.{Live}
use Rattle.replica_round.specs.declared.stop.RoundStop.{RoundStop}
use Rattle.replica_round.specs.declared.stop.RoundStop.TheVariants.{Follow, Store}

-- neither count of faults falls, and a fault of an object comes only where its count rose
pub record HasCauses
    {T : Type 0} (live_before live_now store_before store_now : ℕ) (result : Result T RoundStop) : Type 0 where
  pub live_later : live_before ≤ live_now
  pub store_later : store_before ≤ store_now
  pub live_rose : (cause : LiveFault) → IsErrOf result (Follow (Live cause)) → Rose live_before live_now
  pub store_rose : (cause : DiskFault) → IsErrOf result (Store cause) → Rose store_before store_now
