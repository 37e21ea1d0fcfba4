-- What a fault of a reader rests on.
use Rattle.std.specs.Prelude.{ℕ, ◌≤◌, Result, IsErrOf}
use Rattle.ls_base.specs.Fault.{Rose}
use Rattle.crash_disk.specs.declared.fault.DiskFault.{DiskFault}
use Rattle.ltx_reader.specs.declared.read_fault.ReadFault.{ReadFault}
use Rattle.ltx_reader.specs.declared.read_fault.ReadFault.TheVariants.{Disk}

-- the count of the disk's faults never falls, and its fault comes only where the count rose
pub record ReadHasCause {T : Type 0} (before now : ℕ) (result : Result T ReadFault) : Type 0 where
  pub later : before ≤ now
  pub rose : (fault : DiskFault) → IsErrOf result (Disk fault) → Rose before now
