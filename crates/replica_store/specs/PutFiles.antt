-- Files that may be put into a replica that is faithful to a log.
use Rattle.std.specs.Prelude.{◌≡◌, ℕ, ◌+◌, ◌≤◌, List, [], ◌∷◌, ◌++◌, length, IsSome, ◌⊎◌}
use Rattle.crash_disk.specs.Files.{Files}
use Rattle.ls_base.specs.declared.line.Line.{Line}
use Rattle.ls_base.specs.History.{History, state_at}
use Rattle.ls_base.specs.SyncLog.{SyncLog, IsSyncLog}
use Rattle.replica_store.specs.declared.file_name.FileName.{FileName}
use Rattle.replica_store.specs.Chain.{MayComeNext}
use Rattle.replica_store.specs.Faithful.{IsFaithfulFile}
use Rattle.replica_store.specs.Listing.{IsValid}
use Rattle.replica_store.specs.Retained.{IsRetainedIn}

-- the file ends with the transaction behind the log, and is faithful to the log with its line
pub record IsNextFile (history : History) (log : SyncLog) (line : Line) (name : FileName) (bytes : List ℕ) : Type 0
  where
    pub valid : IsValid name
    pub last : name.max ≡ length log + 1
    pub rising : IsSyncLog (log ++ line ∷ [])
    pub placed : IsSome (state_at history line.place)
    pub file : IsFaithfulFile history (log ++ line ∷ []) name.min name.max bytes

-- the file is faithful to the log, as a merge of some of its files is
pub record IsMergedFile (history : History) (log : SyncLog) (name : FileName) (bytes : List ℕ) : Type 0 where
  pub valid : IsValid name
  pub within : name.max ≤ length log
  pub file : IsFaithfulFile history log name.min name.max bytes

-- the file may come next after nothing, or after a transaction that the files retain
pub record FollowsRetained (files : Files) (name : FileName) : Type 0 where
  pub after : ℕ
  pub retained : (after ≡ 0) ⊎ IsRetainedIn files after
  pub next : MayComeNext after name
