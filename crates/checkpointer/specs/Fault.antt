-- What a fault of a checkpoint rests on.
use Rattle.std.specs.Prelude.{ℕ, ◌≤◌, Result, IsErrOf}
use Rattle.ls_base.specs.Fault.{Rose}
use Rattle.crash_disk.specs.declared.fault.DiskFault.{DiskFault}
use Rattle.checkpointer.specs.declared.fault.BackfillFault.{BackfillFault}
use Rattle.checkpointer.specs.declared.fault.BackfillFault.TheVariants as backfill
use Rattle.checkpointer.specs.declared.fault.RestartFault.{RestartFault}
use Rattle.checkpointer.specs.declared.fault.RestartFault.TheVariants as restart

-- the count of faults never falls, and a fault of the disk comes only where it rose
pub record BackfillHasCause {T : Type 0} (before now : ℕ) (result : Result T BackfillFault) : Type 0 where
  pub later : before ≤ now
  pub rose : (fault : DiskFault) → IsErrOf result (backfill.Disk fault) → Rose before now

pub record RestartHasCause {T : Type 0} (before now : ℕ) (result : Result T RestartFault) : Type 0 where
  pub later : before ≤ now
  pub rose : (fault : DiskFault) → IsErrOf result (restart.Disk fault) → Rose before now
