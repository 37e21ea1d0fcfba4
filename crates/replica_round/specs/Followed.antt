-- What holds of a replica before a round.
use Rattle.std.specs.Prelude.{List, Option}
use Rattle.crash_disk.specs.declared.event.Event.{Event}
use Rattle.crash_disk.specs.Files.{files_after}
use Rattle.ls_base.specs.declared.place.Place.{Place}
use Rattle.ls_base.specs.History.{History}
use Rattle.ls_base.specs.SyncLog.{SyncLog}
use Rattle.replica_store.specs.Faithful.{IsFaithful}
use Rattle.replica_sync.specs.Faith.{IsPlaceOfNewest}

-- The files tell the truth about the log, and the follower's place is that of its newest line.
pub record IsFollowed (history : History) (events : List Event) (log : SyncLog) (place : Option Place) : Type 0 where
  pub faithful : IsFaithful (files_after events) history log
  pub newest : IsPlaceOfNewest (files_after events) log place
