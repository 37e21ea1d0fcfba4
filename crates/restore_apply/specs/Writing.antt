-- The parts of a restore: pages are gathered and put into a file, which then gets its name.
use Rattle.std.specs.Prelude.{◌≡◌, ℕ, List, ◌⊎◌}
use Rattle.crash_disk.specs.declared.event.Event.TheVariants.{Removed}
use Rattle.crash_disk.specs.Files.{files_after}
use Rattle.crash_disk.specs.GoesOn.{GoesOn}
use Rattle.crash_disk.specs.Told.{Told, IfTold, gains, GainsOrNot}
use Rattle.ls_base.specs.Fault.{Rose}
use Rattle.page_cursors.specs.declared.cursors.Cursors.{Cursors}
use Rattle.page_cursors.specs.declared.fault.CursorsFault.{CursorsFault}
use Rattle.page_cursors.specs.declared.fault.CursorsFault.TheVariants as found
use Rattle.page_cursors.specs.Cursors.{plan_of}
use Rattle.page_cursors.specs.PlanFiles.{IsFirstDamaged, IsFirstMissing}
use Rattle.replica_store.specs.declared.file_name.FileName.{FileName}
use Rattle.restore_apply.specs.declared.restored.RestoreFault.{RestoreFault}
use Rattle.restore_apply.specs.declared.restored.RestoreFault.TheVariants.{Damaged, PageMissing, Store, Target, Memory}
use Rattle.restore_apply.specs.Restoring.{AreStateOf}
use Rattle.restore_apply.specs.Staging.{AppendsGathered, MayBegin, Fills, Names, MayName, WritesFile}

abbrev pub fault_of : CursorsFault → RestoreFault
fault_of (found.Damaged name damage) = Damaged name damage
fault_of (found.PageMissing name number) = PageMissing name number
fault_of (found.Store fault) = Store fault
fault_of found.Memory = Memory

-- what a fault rests on, once memory was taken
abbrev pub RestsOn : Told → List FileName → ℕ → ℕ → ℕ → ℕ → RestoreFault → Type 0
RestsOn store plan store_before store_now before now (Damaged file damage) =
    IfTold store (λ events. IsFirstDamaged (files_after events) plan file damage)
RestsOn store plan store_before store_now before now (PageMissing file number) =
    IfTold store (λ events. IsFirstMissing (files_after events) plan file number)
RestsOn store plan store_before store_now before now (Store fault) = Rose store_before store_now
RestsOn store plan store_before store_now before now (Target fault) = Rose before now
RestsOn store plan store_before store_now before now Memory = ⊥

-- the pages that the cursors give were gathered, and are the state where the store tells its files
pub record PutsPages (store : Told) (cursors : Cursors) (name before now : List ℕ) (target target_after : Told) : Type 0
  where
    pub bytes : List ℕ
    pub puts : GoesOn target target_after (AppendsGathered name before bytes now)
    pub state : IfTold store (λ events. AreStateOf (files_after events) (plan_of cursors) cursors.commit bytes)

-- the file was filled with them
pub record FillsPages (store : Told) (cursors : Cursors) (name : List ℕ) (target target_after : Told) : Type 0 where
  pub bytes : List ℕ
  pub fills : GoesOn target target_after (Fills name bytes)
  pub state : IfTold store (λ events. AreStateOf (files_after events) (plan_of cursors) cursors.commit bytes)

-- and got its name
pub record NamesPages (store : Told) (cursors : Cursors) (temporary name : List ℕ) (target target_after : Told) : Type 0
  where
    pub bytes : List ℕ
    pub names : GoesOn target target_after (Names temporary name bytes)
    pub state : IfTold store (λ events. AreStateOf (files_after events) (plan_of cursors) cursors.commit bytes)

-- or may have got it, where the target failed
pub record MayNamePages (store : Told) (cursors : Cursors) (temporary name : List ℕ) (target target_after : Told)
    : Type 0
  where
    pub bytes : List ℕ
    pub names : GoesOn target target_after (MayName temporary name bytes)
    pub state : IfTold store (λ events. AreStateOf (files_after events) (plan_of cursors) cursors.commit bytes)

-- what a fault leaves of that
abbrev pub LeavesPages : Told → Cursors → List ℕ → List ℕ → Told → Told → RestoreFault → Type 0
LeavesPages store cursors temporary name target after (Damaged file damage) =
    GoesOn target after (MayBegin temporary)
LeavesPages store cursors temporary name target after (PageMissing file number) =
    GoesOn target after (MayBegin temporary)
LeavesPages store cursors temporary name target after (Store fault) = GoesOn target after (MayBegin temporary)
LeavesPages store cursors temporary name target after (Target fault) =
    GoesOn target after (MayBegin temporary) ⊎ MayNamePages store cursors temporary name target after
LeavesPages store cursors temporary name target after Memory = ⊥

-- the pages were written under the name
pub record WritesPages (store : Told) (cursors : Cursors) (name : List ℕ) (target target_after : Told) : Type 0 where
  pub bytes : List ℕ
  pub writes : GoesOn target target_after (WritesFile name bytes)
  pub state : IfTold store (λ events. AreStateOf (files_after events) (plan_of cursors) cursors.commit bytes)

-- the temporary file was removed, where no call on the target failed
pub record Cleared (temporary : List ℕ) (target target_after : Told) (before now : ℕ) : Type 0 where
  pub tried : GainsOrNot target target_after (Removed temporary)
  pub removed : (Rose before now → ⊥) → target_after ≡ gains target (Removed temporary)

-- the same for a fault of the cursors; for want of memory nothing was done
abbrev pub Clears : List ℕ → Told → Told → ℕ → ℕ → CursorsFault → Type 0
Clears temporary target after before now (found.Damaged name damage) = Cleared temporary target after before now
Clears temporary target after before now (found.PageMissing name number) = Cleared temporary target after before now
Clears temporary target after before now (found.Store fault) = Cleared temporary target after before now
Clears temporary target after before now found.Memory = after ≡ target
