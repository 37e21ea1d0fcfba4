-- What a fault of reading a page rests on.
use Rattle.std.specs.Prelude.{◌≡◌, ◌≢◌, ℕ, ◌+◌, ◌<◌, ◌≤◌, Some, Result, IsErrOf}
use Rattle.std.specs.FinMap.{get}
use Rattle.ls_base.specs.Fault.{Rose}
use Rattle.ls_base.specs.PageSize.{lock_page}
use Rattle.live_gate.specs.declared.fault.LiveFault.{LiveFault}
use Rattle.snapshot_read.specs.declared.fault.PageFault.{PageFault}
use Rattle.snapshot_read.specs.declared.fault.PageFault.TheVariants.{Live}
use Rattle.snapshot_read.specs.PageOffsets.{Offsets}

-- the count never falls, and a fault of the live database comes only where it rose
pub record PageHasCause {T : Type 0} (before now : ℕ) (result : Result T PageFault) : Type 0 where
  pub later : before ≤ now
  pub rose : (fault : LiveFault) → IsErrOf result (Live fault) → Rose before now

-- a byte of the page of this number, which is read from the log
pub record IsByteOfPage (size : ℕ) (offsets : Offsets) (number missing : ℕ) : Type 0 where
  pub unlocked : number ≢ lock_page size
  pub at : ℕ
  pub found : get offsets number ≡ Some at
  pub from : at ≤ missing
  pub before : missing < at + size
