-- What follows of merges, whatever the files are.
use Rattle.std.specs.Prelude.{ℕ, List}
use Rattle.std.specs.List.{Contains}
use Rattle.crash_disk.specs.Files.{Files}
use Rattle.ls_base.specs.History.{History}
use Rattle.ls_base.specs.SyncLog.{SyncLog}
use Rattle.replica_store.specs.declared.error.Damage.{Damage}
use Rattle.replica_store.specs.declared.file_name.FileName.{FileName}
use Rattle.replica_store.specs.Faithful.{IsFaithful}
use Rattle.replica_store.specs.Listing.{IsIn}
use Rattle.replica_store.specs.NameText.{IsName}
use Rattle.replica_store.specs.PutFiles.{IsMergedFile}
use Rattle.compact_levels.specs.Merged.{IsDamagedRun, IsLackingRun, IsNameOf, Merges}
use Rattle.compact_levels.specs.declared.run.Run.{Run}

-- the files of these names are there
abbrev pub AreIn : Files → List FileName → Type 0
AreIn files names = (name : FileName) → Contains names name → IsIn files name

-- The merge of files that tell the truth does so too: it leads from each state before a run that begins later than with
-- transaction 1 to the state behind it, and from nothing where it begins with that.
abbrev pub MergesKeepFaith : Type 0
MergesKeepFaith =
    (files : Files) (history : History) (log : SyncLog) (names : List FileName) (run : Run) (name : FileName)
    (bytes : List ℕ) → IsFaithful files history log → AreIn files names → IsName run.level run.min run.max
    → Merges files names run bytes
    → IsNameOf run name → IsMergedFile history log name bytes

-- no file of a run that tells the truth is damaged
abbrev pub FaithfulRunsAreSound : Type 0
FaithfulRunsAreSound =
    (files : Files) (history : History) (log : SyncLog) (names : List FileName) (run : Run) (name : FileName)
    (damage : Damage) → IsFaithful files history log → AreIn files names → IsDamagedRun files names run name damage → ⊥

-- and no page is missing in it
abbrev pub FaithfulRunsAreWhole : Type 0
FaithfulRunsAreWhole =
    (files : Files) (history : History) (log : SyncLog) (names : List FileName) (run : Run) (name : FileName)
    (number : ℕ) → IsFaithful files history log → AreIn files names → IsLackingRun files names run name number → ⊥
