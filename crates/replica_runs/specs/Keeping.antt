-- What a run of a replication keeps of a replica, wherever a stop falls.
use Rattle.std.specs.Prelude.{ℕ, List, length}
use Rattle.crash_disk.specs.declared.event.Event.{Event}
use Rattle.crash_disk.specs.Files.{Files}
use Rattle.crash_disk.specs.Images.{IsCrashImage, WasCrashImageSince}
use Rattle.ls_base.specs.History.{History}
use Rattle.ls_base.specs.SyncLog.{SyncLog}
use Rattle.replica_store.specs.CarriesOn.{IsYoung, IsLonger}
use Rattle.replica_store.specs.Faithful.{IsFaithfulToFront}
use Rattle.replica_store.specs.Retained.{IsRetainedIn}

-- The run came from the log to a later one, while the database's history grew from the old one to the new one. What is
-- young is what was recorded at or after the cut.
pub record KeepsReplica (old new : History) (cut : ℕ) (before now : List Event) (log later : SyncLog) : Type 0 where
  pub lines : IsLonger log later
  -- whatever a crash left since the run began tells the truth, and has the lines that each crash before left
  pub images : (least : ℕ)
      → ((image : Files) → IsCrashImage before image → IsFaithfulToFront image old log least)
      → (image : Files) → WasCrashImageSince now (length before) image → IsFaithfulToFront image new later least
  -- a young transaction that each crash before left retained stays so
  pub kept : (t : ℕ) → IsYoung log cut t → ((image : Files) → IsCrashImage before image → IsRetainedIn image t)
      → (image : Files) → WasCrashImageSince now (length before) image → IsRetainedIn image t
