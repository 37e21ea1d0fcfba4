-- What an error of a call on the replica rests on.
use Rattle.std.specs.Prelude.{ℕ, ◌≤◌, Result, IsErrOf, ⊤}
use Rattle.crash_disk.specs.declared.fault.DiskFault.{DiskFault}
use Rattle.crash_disk.specs.declared.fault.NamesFault.{NamesFault}
use Rattle.crash_disk.specs.declared.fault.NamesFault.TheVariants.{Disk, Memory as no_memory}
use Rattle.ls_base.specs.Fault.{Rose}
use Rattle.replica_store.specs.declared.error.StoreError.{StoreError}
use Rattle.replica_store.specs.declared.error.StoreError.TheVariants.{Store, Damaged, Memory}

-- the error that a fault of the disk is
abbrev pub error_of : NamesFault → StoreError
error_of (Disk fault) = Store fault
error_of no_memory = Memory

-- the count of the disk's faults never falls, and its fault comes only where the count rose
pub record StoreHasCause {T : Type 0} (before now : ℕ) (result : Result T StoreError) : Type 0 where
  pub later : before ≤ now
  pub rose : (fault : DiskFault) → IsErrOf result (Store fault) → Rose before now

-- the error blames no file
abbrev pub BlamesNoFile : StoreError → Type 0
BlamesNoFile (Store fault) = ⊤
BlamesNoFile (Damaged name damage) = ⊥
BlamesNoFile Memory = ⊤
