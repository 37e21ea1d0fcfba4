-- What a fault of cursors means, and what it rests on.
use Rattle.std.specs.Prelude.{◌≡◌, ℕ, ◌≤◌, List, Result, IsErrOf, ⊤}
use Rattle.crash_disk.specs.declared.fault.DiskFault.{DiskFault}
use Rattle.crash_disk.specs.Files.{files_after}
use Rattle.crash_disk.specs.Told.{Told, IfTold}
use Rattle.ls_base.specs.Fault.{Rose}
use Rattle.replica_store.specs.declared.file_name.FileName.{FileName}
use Rattle.page_cursors.specs.declared.fault.CursorsFault.{CursorsFault}
use Rattle.page_cursors.specs.declared.fault.CursorsFault.TheVariants.{Damaged, PageMissing, Store, Memory}
use Rattle.page_cursors.specs.PlanFiles.{IsFirstDamaged, IsFirstMissing}

-- the count of the disk's faults never falls, and its fault comes only where the count rose
pub record CursorsHaveCause {T : Type 0} (before now : ℕ) (result : Result T CursorsFault) : Type 0 where
  pub later : before ≤ now
  pub rose : (fault : DiskFault) → IsErrOf result (Store fault) → Rose before now

-- which file of the plan a fault blames, and why; a fault of the disk and want of memory blame none
abbrev pub Blames : Told → List FileName → CursorsFault → Type 0
Blames told plan (Damaged name damage) = IfTold told (λ events. IsFirstDamaged (files_after events) plan name damage)
Blames told plan (PageMissing name number) = IfTold told (λ events. IsFirstMissing
    (files_after events) plan name number)
Blames told plan (Store fault) = ⊤
Blames told plan Memory = ⊤

-- the same of a fault that is found while files are read: it is never want of memory, nor a page that is missing
pub record FaultHasCause (before now : ℕ) (found : CursorsFault) : Type 0 where
  pub later : before ≤ now
  pub rose : (fault : DiskFault) → found ≡ Store fault → Rose before now
  pub no_memory : found ≡ Memory → ⊥
  pub no_missing : (name : FileName) (number : ℕ) → found ≡ PageMissing name number → ⊥

-- no page is told to be missing
abbrev pub TellsNoMissing : {T : Type 0} → Result T CursorsFault → Type 0
TellsNoMissing result = (name : FileName) (number : ℕ) → IsErrOf result (PageMissing name number) → ⊥

-- the fault is one of the disk
abbrev pub IsStoreFault : CursorsFault → Type 0
IsStoreFault (Damaged name damage) = ⊥
IsStoreFault (PageMissing name number) = ⊥
IsStoreFault (Store fault) = ⊤
IsStoreFault Memory = ⊥
