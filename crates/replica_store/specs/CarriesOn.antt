-- How a replica goes on, so that no stop at any moment loses what it had.
use Rattle.std.specs.Prelude.{◌≡◌, ℕ, ◌<◌, ◌≤◌, List, ◌++◌, length, Some}
use Rattle.crash_disk.specs.declared.event.Event.{Event}
use Rattle.crash_disk.specs.Files.{Files, files_after}
use Rattle.crash_disk.specs.Images.{IsCrashImage, WasCrashImageSince}
use Rattle.ls_base.specs.declared.line.Line.{Line}
use Rattle.ls_base.specs.History.{History}
use Rattle.ls_base.specs.SyncLog.{SyncLog, line_of}
use Rattle.ltx_format.specs.declared.header.LtxHeader.{LtxHeader}
use Rattle.replica_store.specs.declared.file_name.FileName.{FileName}
use Rattle.replica_store.specs.Dating.{IsHeaderUnder}
use Rattle.replica_store.specs.Faithful.{IsFaithfulToFront}
use Rattle.replica_store.specs.Listing.{IsIn}
use Rattle.replica_store.specs.Retained.{IsRetainedIn}

-- the transaction was recorded at or after the moment
pub record IsYoung (log : SyncLog) (cut t : ℕ) : Type 0 where
  pub line : Line
  pub is : line_of log t ≡ Some line
  pub late : cut ≤ line.moment

-- lines were put behind those of the log
pub record IsLonger (log later : SyncLog) : Type 0 where
  pub more : SyncLog
  pub is : later ≡ log ++ more

-- The files tell a longer log: each new transaction is the last of a file that is there, and each file that ends with
-- one tells its line.
pub record IsExtendedBy (log : SyncLog) (files : Files) (later : SyncLog) : Type 0 where
  pub lines : IsLonger log later
  pub within : (name : FileName) → IsIn files name → name.max ≤ length later
  pub some : (t : ℕ) → length log < t → t ≤ length later → (name : FileName) × IsIn files name × (name.max ≡ t)
  pub each : (name : FileName) → IsIn files name → length log < name.max
      → (header : LtxHeader) × IsHeaderUnder files name header
      × (line_of later name.max ≡ Some (record { place = header.place; moment = header.moment }))

-- The replica went on from the log to a later one. What is young is what was recorded at or after the cut.
pub record CarriesOn (history : History) (cut : ℕ) (before now : List Event) (log later : SyncLog) : Type 0 where
  pub lines : IsLonger log later
  -- whatever a crash left since is faithful to a front of the later log that has all lines of the log
  pub images : (image : Files) → WasCrashImageSince now (length before) image
      → IsFaithfulToFront image history later (length log)
  -- each young transaction that was retained stays so
  pub kept : (image : Files) → WasCrashImageSince now (length before) image
      → (t : ℕ) → IsYoung log cut t → IsRetainedIn (files_after before) t → IsRetainedIn image t
  -- a file that ends with a young transaction stays
  pub stays : (name : FileName) → IsIn (files_after before) name → IsYoung log cut name.max
      → IsIn (files_after now) name
  -- each new transaction is young, and a file that is there ends with it
  pub told : (t : ℕ) → length log < t → t ≤ length later
      → IsYoung later cut t × ((name : FileName) × IsIn (files_after now) name × (name.max ≡ t))

-- each transaction that the later log has more is retained, whatever a crash now leaves
abbrev pub RetainsNew : List Event → SyncLog → SyncLog → Type 0
RetainsNew now log later =
    (t : ℕ) → length log < t → t ≤ length later → (image : Files) → IsCrashImage now image → IsRetainedIn image t
