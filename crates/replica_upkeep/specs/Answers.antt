-- The causes of what the upkeep answers.
use Rattle.std.specs.Prelude.{◌≡◌, ℕ, ◌≤◌, List, ◌∷◌, ◌++◌, Result, IsErrOf}
use Rattle.crash_disk.specs.declared.event.Event.{Event}
use Rattle.crash_disk.specs.declared.fault.DiskFault.{DiskFault}
use Rattle.crash_disk.specs.Files.{Files, files_after}
use Rattle.compact_levels.specs.Due.{IsDue}
use Rattle.compact_levels.specs.Merged.{IsDamagedRun, IsLackingRun}
use Rattle.compact_levels.specs.declared.merge_fault.MergeFault.{MergeFault}
use Rattle.compact_levels.specs.declared.merge_fault.MergeFault.TheVariants as merge
use Rattle.compact_levels.specs.declared.run.Run.{Run}
use Rattle.ls_base.specs.Fault.{Rose}
use Rattle.ls_base.specs.History.{History}
use Rattle.ls_base.specs.SyncLog.{SyncLog}
use Rattle.replica_store.specs.declared.dated_names.Dated.{Dated}
use Rattle.replica_store.specs.declared.error.StoreError.{StoreError}
use Rattle.replica_store.specs.declared.error.StoreError.TheVariants as header
use Rattle.replica_store.specs.declared.file_name.FileName.{FileName}
use Rattle.replica_store.specs.Chain.{names_of}
use Rattle.replica_store.specs.Faithful.{IsFaithful}
use Rattle.replica_upkeep.specs.declared.answer.UpkeepStop.{UpkeepStop}
use Rattle.replica_upkeep.specs.declared.answer.UpkeepStop.TheVariants.{Damaged, PageMissing, Store, Memory}
use Rattle.replica_upkeep.specs.Kept.{AddsMerges, AreFiles}
use Rattle.replica_upkeep.specs.Levels.{MergesLevels, merge_levels}

-- the count of the disk's faults never falls, and its fault comes only where the count rose
pub record HasCause {T : Type 0} (before now : ℕ) (result : Result T UpkeepStop) : Type 0 where
  pub later : before ≤ now
  pub rose : (fault : DiskFault) → IsErrOf result (Store fault) → Rose before now

-- the run is due at the level, and this holds of it
pub record IsDueAt
    (level now : ℕ) (dated : List Dated) (files : Files) (Holds : Files → List FileName → Run → Type 0) : Type 0 where
  pub run : Run
  pub at_level : run.level ≡ level
  pub due : IsDue dated now run
  pub holds : Holds files (names_of dated) run

-- behind the turns of the first levels, a run is due at the next one, and this holds of it
pub record IsDueThen
    (dated : List Dated) (now : ℕ) (before : List Event) (Holds : Files → List FileName → Run → Type 0) : Type 0 where
  pub first : List ℕ
  pub level : ℕ
  pub others : List ℕ
  pub order : merge_levels ≡ first ++ level ∷ others
  pub longer : List Dated
  pub merges : MergesLevels first now dated longer
  pub mid : List Event
  pub adds : AddsMerges before mid
  pub files : AreFiles (files_after mid) longer
  pub due_then : IsDueAt level now longer (files_after mid) Holds

-- Why the upkeep was refused: a file of a run that was due is damaged, or doesn't fit those before it.
abbrev pub Explains : List Dated → ℕ → UpkeepStop → List Event → Type 0
Explains dated now (Damaged name damage) before =
    IsDueThen dated now before (λ files names run. IsDamagedRun files names run name damage)
Explains dated now (PageMissing name number) before =
    IsDueThen dated now before (λ files names run. IsLackingRun files names run name number)
Explains dated now (Store fault) before = Unit {0}
Explains dated now Memory before = Unit {0}

-- no file is blamed
abbrev pub BlamesNoFile : UpkeepStop → Type 0
BlamesNoFile (Damaged name damage) = ⊥
BlamesNoFile (PageMissing name number) = ⊥
BlamesNoFile (Store fault) = Unit {0}
BlamesNoFile Memory = Unit {0}

-- of files that tell the truth, none is blamed
abbrev pub IsSound : UpkeepStop → List Event → Type 0
IsSound stop before =
    (history : History) (log : SyncLog) → IsFaithful (files_after before) history log → BlamesNoFile stop

-- why a merge, or a look at a header, is the stop
abbrev pub stop_of : MergeFault → UpkeepStop
stop_of (merge.Damaged name damage) = Damaged name damage
stop_of (merge.PageMissing name number) = PageMissing name number
stop_of (merge.Store fault) = Store fault
stop_of merge.Memory = Memory

abbrev pub stop_at : StoreError → UpkeepStop
stop_at (header.Store fault) = Store fault
stop_at (header.Damaged name damage) = Damaged name damage
stop_at header.Memory = Memory
