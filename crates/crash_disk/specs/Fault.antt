-- What a fault of a call that takes memory rests on.
use Rattle.std.specs.Prelude.{◌≡◌, ℕ, ◌≤◌, Result, IsErrOf}
use Rattle.ls_base.specs.Fault.{Rose}
use Rattle.crash_disk.specs.declared.fault.DiskFault.{DiskFault}
use Rattle.crash_disk.specs.declared.fault.NamesFault.{NamesFault}
use Rattle.crash_disk.specs.declared.fault.NamesFault.TheVariants.{Disk, Memory}

-- the count never falls, a fault comes only where it rose, and want of memory isn't counted
pub record NamesHasCause {T : Type 0} (before now : ℕ) (result : Result T NamesFault) : Type 0 where
  pub later : before ≤ now
  pub rose : (fault : DiskFault) → IsErrOf result (Disk fault) → Rose before now
  pub uncounted : IsErrOf result Memory → now ≡ before
