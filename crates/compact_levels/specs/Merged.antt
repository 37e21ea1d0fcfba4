-- The merge of files, and what the call that makes it does. This project's rule.
use Rattle.std.specs.Prelude.{◌≡◌, ℕ, ◌<◌, ◌≤◌, true, List, [], ◌∷◌, ◌++◌, map, Option, Some, None, ◌⊎◌}
use Rattle.std.specs.FinMap.{get}
use Rattle.crash_disk.specs.declared.event.Event.{Event}
use Rattle.crash_disk.specs.Files.{Files, files_after}
use Rattle.ls_base.specs.Change.{Change}
use Rattle.ltx_format.specs.declared.file.LtxFile.{LtxFile}
use Rattle.ltx_format.specs.declared.header.LtxHeader.{LtxHeader}
use Rattle.ltx_format.specs.LtxFormat.{IsLtxFile, change_of}
use Rattle.page_cursors.specs.declared.cursor.Cursor.{Cursor}
use Rattle.page_cursors.specs.declared.cursors.Cursors.{Cursors}
use Rattle.page_cursors.specs.LastPages.{last_commit, last_page}
use Rattle.page_cursors.specs.PlanFiles.{ArePlanFiles, IsFirstDamaged, IsFirstMissing}
use Rattle.replica_store.specs.declared.error.Damage.{Damage}
use Rattle.replica_store.specs.declared.file_name.FileName.{FileName}
use Rattle.replica_store.specs.NameText.{file_path}
use Rattle.replica_store.specs.Putting.{KeepsOthers, Puts, HasPut}
use Rattle.compact_levels.specs.Run.{IsRunOf}
use Rattle.compact_levels.specs.declared.merge_fault.MergeFault.{MergeFault}
use Rattle.compact_levels.specs.declared.merge_fault.MergeFault.TheVariants.{Damaged, PageMissing, Store, Memory}
use Rattle.compact_levels.specs.declared.run.Run.{Run}

-- ---- the merge

-- the merge of changes: it leaves as many pages as the last of them, and has each page up to those from the last that
-- has it
pub record IsMerged (c : Change) (changes : List Change) : Type 0 where
  pub commit : c.commit ≡ last_commit 0 changes
  pub each : (p : ℕ) → p ≤ c.commit → get c.pages p ≡ last_page changes p
  pub none : (p : ℕ) → c.commit < p → get c.pages p ≡ None

-- The bytes are the file of the merge of these files. It begins where the first does, and has the end, the place and
-- the moment of the last. It has an index.
pub record IsMergeOf (read : List LtxFile) (bytes : List ℕ) : Type 0 where
  pub header : LtxHeader
  pub change : Change
  pub file : IsLtxFile bytes header change
  pub merged : IsMerged change (map change_of read)
  pub first : LtxFile
  pub rest : List LtxFile
  pub begins : read ≡ first ∷ rest
  pub min : header.min ≡ first.header.min
  pub before : List LtxFile
  pub last : LtxFile
  pub ends : read ≡ before ++ last ∷ []
  pub size : header.size ≡ last.header.size
  pub max : header.max ≡ last.header.max
  pub moment : header.moment ≡ last.header.moment
  pub place : header.place ≡ last.header.place
  pub index : header.index ≡ true

-- ---- a run and its files

-- the path of the merged file
abbrev pub run_path : Run → List ℕ
run_path run = file_path run.level run.min run.max

-- the name of the merged file
pub record IsNameOf (run : Run) (name : FileName) : Type 0 where
  pub level : name.level ≡ run.level
  pub min : name.min ≡ run.min
  pub max : name.max ≡ run.max

-- these names have this run
pub record IsRun (names : List FileName) (run : Run) : Type 0 where
  pub first : FileName
  pub rest : List FileName
  pub files : IsRunOf names run first rest

-- the bytes are the merge of the files of these names, which have one page size
pub record IsMergeOfPlan (files : Files) (plan : List FileName) (bytes : List ℕ) : Type 0 where
  pub read : List LtxFile
  pub are : ArePlanFiles files plan read
  pub merge : IsMergeOf read bytes

-- the bytes are the merge of the run's files
pub record Merges (files : Files) (names : List FileName) (run : Run) (bytes : List ℕ) : Type 0 where
  pub of : IsRun names run
  pub merge : IsMergeOfPlan files (of.first ∷ of.rest) bytes

-- ---- what the call did

-- the merge of the files as they were was put under the run's name
pub record HasMerged (names : List FileName) (run : Run) (before now : List Event) : Type 0 where
  pub bytes : List ℕ
  pub merges : Merges (files_after before) names run bytes
  pub put : HasPut (run_path run) bytes before now

-- it is there, though a crash may leave what was there before
pub record MayHaveMerged (names : List FileName) (run : Run) (before now : List Event) : Type 0 where
  pub bytes : List ℕ
  pub merges : Merges (files_after before) names run bytes
  pub put : Puts (run_path run) bytes before now

-- the first file of the run that is damaged
pub record IsDamagedRun (files : Files) (names : List FileName) (run : Run) (name : FileName) (damage : Damage) : Type 0
  where
    pub of : IsRun names run
    pub damaged : IsFirstDamaged files (of.first ∷ of.rest) name damage

-- The run begins with transaction 1 and none of its files is damaged. This is the first file that doesn't fit what
-- those before it make of nothing, and the first page that is missing there.
pub record IsLackingRun (files : Files) (names : List FileName) (run : Run) (name : FileName) (number : ℕ) : Type 0
  where
    pub of : IsRun names run
    pub from_first : run.min ≡ 1
    pub missing : IsFirstMissing files (of.first ∷ of.rest) name number

-- Why nothing was merged, and what stands then: but for the temporary file, what stood before. Where the disk failed,
-- the merged file may be there.
abbrev pub LeavesUnmerged : List FileName → Run → MergeFault → List Event → List Event → Type 0
LeavesUnmerged names run (Damaged name damage) before now =
    IsDamagedRun (files_after before) names run name damage × KeepsOthers (run_path run) before now
LeavesUnmerged names run (PageMissing name number) before now =
    IsLackingRun (files_after before) names run name number × KeepsOthers (run_path run) before now
LeavesUnmerged names run (Store fault) before now =
    KeepsOthers (run_path run) before now ⊎ MayHaveMerged names run before now
LeavesUnmerged names run Memory before now = KeepsOthers (run_path run) before now

-- ---- the same of the files of some names

pub record HasMergedPlan (plan : List FileName) (path : List ℕ) (before now : List Event) : Type 0 where
  pub bytes : List ℕ
  pub merge : IsMergeOfPlan (files_after before) plan bytes
  pub put : HasPut path bytes before now

pub record MayHaveMergedPlan (plan : List FileName) (path : List ℕ) (before now : List Event) : Type 0 where
  pub bytes : List ℕ
  pub merge : IsMergeOfPlan (files_after before) plan bytes
  pub put : Puts path bytes before now

abbrev pub LeavesPlan : ℕ → List FileName → List ℕ → MergeFault → List Event → List Event → Type 0
LeavesPlan min plan path (Damaged name damage) before now =
    IsFirstDamaged (files_after before) plan name damage × KeepsOthers path before now
LeavesPlan min plan path (PageMissing name number) before now =
    (min ≡ 1) × IsFirstMissing (files_after before) plan name number × KeepsOthers path before now
LeavesPlan min plan path (Store fault) before now =
    KeepsOthers path before now ⊎ MayHaveMergedPlan plan path before now
LeavesPlan min plan path Memory before now = KeepsOthers path before now

-- the first of these files begins with one transaction, and the last ends with another
pub record Spans (plan : List FileName) (min max : ℕ) : Type 0 where
  pub first : FileName
  pub rest : List FileName
  pub begins : plan ≡ first ∷ rest
  pub from_min : first.min ≡ min
  pub before : List FileName
  pub last : FileName
  pub ends : plan ≡ before ++ last ∷ []
  pub to_max : last.max ≡ max

-- the files are those of the run
pub record AreRunFiles (names : List FileName) (run : Run) (plan : List FileName) : Type 0 where
  pub of : IsRun names run
  pub is : plan ≡ of.first ∷ of.rest

-- the header is that of the last file, with the name's transactions and an index
pub record MergesHeader (cursors : Cursors) (name : FileName) (h : LtxHeader) : Type 0 where
  pub before : List Cursor
  pub last : Cursor
  pub ends : cursors.cursors.items ≡ before ++ last ∷ []
  pub is : h ≡ record last.reader.header { min = name.min; max = name.max; index = true }
