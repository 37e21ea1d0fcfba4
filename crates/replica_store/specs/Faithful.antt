-- What it means that a replica's files tell the truth about a history and a sync log.
use Rattle.std.specs.Prelude.{◌≡◌, ℕ, ◌+◌, ◌<◌, ◌≤◌, List, length, take, Some, IsSome, ◌⊎◌}
use Rattle.std.specs.List.{AllByRecursion}
use Rattle.std.specs.FinMap.{get}
use Rattle.crash_disk.specs.Files.{Files}
use Rattle.ls_base.specs.Change.{Change, IsApplicable, apply}
use Rattle.ls_base.specs.State.{State}
use Rattle.ls_base.specs.History.{History, state_at}
use Rattle.ls_base.specs.SyncLog.{SyncLog, IsSyncLog, line_of, recorded_state}
use Rattle.ltx_format.specs.declared.header.LtxHeader.{LtxHeader}
use Rattle.replica_store.specs.declared.file_name.FileName.{FileName}
use Rattle.replica_store.specs.FileOf.{IsFileOf}
use Rattle.replica_store.specs.Listing.{path_of, IsValid, IsIn}

-- A file of transactions min to max may be applied to the state of transaction s: a file from the first
-- transaction on to nothing, and any other to each state from the one before it on.
abbrev pub MayFollow : ℕ → ℕ → ℕ → Type 0
MayFollow min max s = ((min ≡ 1) × (s ≡ 0)) ⊎ ((1 < min) × (min ≤ s + 1) × (s ≤ max))

-- the change turns the state of transaction s into that of transaction max
pub record TurnsInto (history : History) (log : SyncLog) (c : Change) (s max : ℕ) : Type 0 where
  pub before : State
  pub recorded : recorded_state history log s ≡ Some before
  pub fits : IsApplicable before c
  pub after : recorded_state history log max ≡ Some (apply before c)

-- the bytes under a name are a file of its transactions that has the place and the moment of its last line,
-- and that leads from each state before it to the state after it
pub record IsFaithfulFile (history : History) (log : SyncLog) (min max : ℕ) (bytes : List ℕ) : Type 0 where
  pub header : LtxHeader
  pub change : Change
  pub file : IsFileOf bytes min max header change
  pub line : line_of log max ≡ Some (record { place = header.place; moment = header.moment })
  pub leads : (s : ℕ) → MayFollow min max s → TurnsInto history log change s max

-- the files tell the truth: the moments of the log never fall and each of its places is in the history; the
-- greatest transaction among the names is the log's last; and each named file is faithful
pub record IsFaithful (files : Files) (history : History) (log : SyncLog) : Type 0 where
  pub rising : IsSyncLog log
  pub placed : AllByRecursion (λ line. IsSome (state_at history line.place)) log
  pub within : (name : FileName) → IsIn files name → name.max ≤ length log
  pub reached : 0 < length log → (name : FileName) × IsIn files name × (name.max ≡ length log)
  pub each : (name : FileName) (bytes : List ℕ) → IsValid name → get files (path_of name) ≡ Some bytes
      → IsFaithfulFile history log name.min name.max bytes

-- the files are faithful to a front of the log, of at least so many lines
pub record IsFaithfulToFront (files : Files) (history : History) (log : SyncLog) (least : ℕ) : Type 0 where
  pub lines : ℕ
  pub enough : least ≤ lines
  pub within : lines ≤ length log
  pub faithful : IsFaithful files history (take lines log)
