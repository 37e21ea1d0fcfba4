-- What storing the changes keeps: the replica goes on telling the truth.
use Rattle.std.specs.Prelude.{◌≡◌, ℕ, List, Option, Result, Ok, Err}
use Rattle.crash_disk.specs.declared.event.Event.{Event}
use Rattle.ls_base.specs.SyncLog.{SyncLog}
use Rattle.live_gate.specs.LiveRecord.{Database, LiveRecord}
use Rattle.round_line.specs.declared.round.Synced.{Synced}
use Rattle.wal_follow.specs.declared.following.Following.{Following}
use Rattle.replica_sync.specs.Faith.{HasSynced, MayHaveSynced}
use Rattle.replica_round.specs.declared.changing.Changed.{Changed}
use Rattle.replica_round.specs.declared.stop.RoundStop.{RoundStop}
use Rattle.replica_round.specs.Followed.{IsFollowed}

-- After Ok all that a sync keeps is kept, with some other hold put in: it moved behind the sync. So the files tell the
-- truth about the later log, and the follower's place is that of its newest line.
pub record HasChanged
    (f after : Following) (now : ℕ) (synced : Synced) (log : SyncLog)
    (old new : Database) (before current : List Event) : Type 0 where
  pub held : Option ℕ
  pub keeps : HasSynced f after now synced log old (record new { held = held }) before current

-- After a refusal the files tell the truth about the log or about it and one line more.
abbrev pub ChangesKeep :
    Following → Following → ℕ → Result Changed RoundStop → SyncLog → Database → Database → List Event → List Event
    → Type 0
ChangesKeep f after now (Ok changed) log old new before current =
    HasChanged f after now changed.sync log old new before current
ChangesKeep f after now (Err stop) log old new before current = MayHaveSynced now log old new before current

-- The promise over a live database of which no coincidence is counted.
abbrev pub ChangesKeepFaith :
    Following → Following → ℕ → Result Changed RoundStop → LiveRecord → LiveRecord → List Event → List Event → Type 0
ChangesKeepFaith f after now result old new before current =
    (log : SyncLog) → new.database.chances ≡ 0 → IsFollowed old.database.history before log f.place
    → ChangesKeep f after now result log old.database new.database before current
