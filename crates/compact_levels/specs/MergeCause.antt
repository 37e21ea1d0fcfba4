-- What a fault of a merge rests on.
use Rattle.std.specs.Prelude.{◌≡◌, ℕ, ◌≤◌, Result, IsErrOf}
use Rattle.crash_disk.specs.declared.fault.DiskFault.{DiskFault}
use Rattle.ls_base.specs.Fault.{Rose}
use Rattle.page_cursors.specs.declared.fault.CursorsFault.{CursorsFault}
use Rattle.page_cursors.specs.declared.fault.CursorsFault.TheVariants as cursors
use Rattle.compact_levels.specs.declared.merge_fault.MergeFault.{MergeFault}
use Rattle.compact_levels.specs.declared.merge_fault.MergeFault.TheVariants.{Damaged, PageMissing, Store, Memory}

-- the count of the disk's faults never falls, and its fault comes only where the count rose
pub record MergeHasCause {T : Type 0} (before now : ℕ) (result : Result T MergeFault) : Type 0 where
  pub later : before ≤ now
  pub rose : (fault : DiskFault) → IsErrOf result (Store fault) → Rose before now

-- what cursors found, as a fault of the merge
abbrev pub fault_of : CursorsFault → MergeFault
fault_of (cursors.Damaged name damage) = Damaged name damage
fault_of (cursors.PageMissing name number) = PageMissing name number
fault_of (cursors.Store fault) = Store fault
fault_of cursors.Memory = Memory
