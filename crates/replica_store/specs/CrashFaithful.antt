-- What it means that a replica tells the truth whatever a crash leaves of it.
use Rattle.std.specs.Prelude.{◌≡◌, ◌↔◌, ℕ, List, Option, Some, IsSome}
use Rattle.std.specs.FinMap.{get}
use Rattle.crash_disk.specs.declared.event.Event.{Event}
use Rattle.crash_disk.specs.Files.{Files, files_after, file_at}
use Rattle.crash_disk.specs.Images.{MayStandAt, IsCrashImage}
use Rattle.ls_base.specs.History.{History}
use Rattle.ls_base.specs.SyncLog.{SyncLog}
use Rattle.replica_store.specs.Faithful.{IsFaithful, IsFaithfulToFront}
use Rattle.replica_store.specs.Listing.{IsFilePath}

-- The files as read are faithful to the log, and whatever a crash now leaves is faithful to a front of it. A file as
-- read has the same bytes wherever a crash leaves it.
pub record IsCrashFaithful (events : List Event) (history : History) (log : SyncLog) : Type 0 where
  pub files : IsFaithful (files_after events) history log
  pub images : (image : Files) → IsCrashImage events image → IsFaithfulToFront image history log 0
  pub stable : (path bytes found : List ℕ) → IsFilePath path → file_at events path ≡ Some bytes
      → (image : Files) → IsCrashImage events image → get image path ≡ Some found → found ≡ bytes

-- and a crash leaves exactly the names as read
pub record IsSettled (events : List Event) (history : History) (log : SyncLog) : Type 0 where
  pub faithful : IsCrashFaithful events history log
  pub names : (image : Files) → IsCrashImage events image
      → (path : List ℕ) → IsFilePath path → IsSome (get image path) ↔ IsSome (file_at events path)

-- under the path of a name a crash leaves what reads there, and nothing else
abbrev pub LeavesAsRead : List Event → Type 0
LeavesAsRead events =
    (path : List ℕ) → IsFilePath path
    → (file : Option (List ℕ)) → MayStandAt events path file → file ≡ file_at events path
