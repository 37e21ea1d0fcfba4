-- What the upkeep keeps of a replica that tells the truth: it goes on telling it about the same log.
use Rattle.std.specs.Prelude.{ℕ, ◌<◌, List, length}
use Rattle.crash_disk.specs.declared.event.Event.{Event}
use Rattle.crash_disk.specs.Files.{Files, files_after}
use Rattle.crash_disk.specs.Images.{WasCrashImageSince}
use Rattle.ls_base.specs.History.{History}
use Rattle.ls_base.specs.SyncLog.{SyncLog}
use Rattle.replica_store.specs.CarriesOn.{CarriesOn}
use Rattle.replica_store.specs.CrashFaithful.{IsCrashFaithful, IsSettled}
use Rattle.replica_store.specs.Faithful.{IsFaithful}
use Rattle.replica_store.specs.Retained.{IsRetainedIn}

-- the newest transaction of the log, if it has one, is retained
abbrev pub RetainsNewest : Files → SyncLog → Type 0
RetainsNewest files log = 0 < length log → IsRetainedIn files (length log)

-- The files as read tell the truth about the log.
pub record IsTrue (history : History) (log : SyncLog) (events : List Event) : Type 0 where
  pub faithful : IsFaithful (files_after events) history log
  pub newest : RetainsNewest (files_after events) log

-- A crash leaves exactly them.
pub record IsReady (history : History) (log : SyncLog) (events : List Event) : Type 0 where
  pub settled : IsSettled events history log
  pub newest : RetainsNewest (files_after events) log

-- Wherever a stop fell, each young transaction that was retained stays so, and the newest one.
pub record CarriesOnTrue (history : History) (log : SyncLog) (cut : ℕ) (before now : List Event) : Type 0 where
  pub carries : CarriesOn history cut before now log log
  pub faithful : IsCrashFaithful now history log
  pub newest : (image : Files) → WasCrashImageSince now (length before) image → RetainsNewest image log

pub record KeepsFaith (cut : ℕ) (before now : List Event) : Type 0 where
  pub read : (history : History) (log : SyncLog) → IsTrue history log before → IsTrue history log now
  pub at_a_stop : (history : History) (log : SyncLog) → IsReady history log before
      → CarriesOnTrue history log cut before now

-- what was settled is settled again
pub record Settles (before now : List Event) : Type 0 where
  pub ready : (history : History) (log : SyncLog) → IsReady history log before → IsReady history log now
