-- What a round keeps: the replica goes on telling the truth, and the end of a round is a fit beginning of the next.
use Rattle.std.specs.Prelude.{◌≡◌, ℕ, ◌+◌, ◌-◌, ◌≤◌, List, length, Result, Ok, Err}
use Rattle.crash_disk.specs.declared.event.Event.{Event}
use Rattle.crash_disk.specs.Files.{files_after}
use Rattle.ls_base.specs.SyncLog.{SyncLog}
use Rattle.live_gate.specs.LiveRecord.{Database, LiveRecord}
use Rattle.replica_store.specs.CarriesOn.{IsLonger, CarriesOn, RetainsNew}
use Rattle.replica_store.specs.CrashFaithful.{IsCrashFaithful, IsSettled}
use Rattle.replica_store.specs.Faithful.{IsFaithful}
use Rattle.round_line.specs.declared.round.Round.{Round}
use Rattle.round_line.specs.declared.round.Synced.{Synced}
use Rattle.wal_follow.specs.declared.following.Following.{Following}
use Rattle.replica_sync.specs.Faith.{IsPlaceOfNewest, StoresRight, AddsLines, EndsSince}
use Rattle.replica_sync.specs.Newest.{moment_behind}
use Rattle.replica_round.specs.declared.stop.RoundStop.{RoundStop}
use Rattle.replica_round.specs.Followed.{IsFollowed}
use Rattle.replica_round.specs.Later.{IsLater}
use Rattle.replica_round.specs.Stop.{BlamesNoFile}

-- After Ok the files tell the truth about the later log, and the follower's place is that of its newest line, as the
-- next round asks. Each young transaction that was retained stays so, and the new one is.
pub record HasKept
    (f after : Following) (cut now : ℕ) (synced : Synced) (log : SyncLog)
    (old new : Database) (before current : List Event) : Type 0 where
  pub later : SyncLog
  pub lines : AddsLines (moment_behind log now) synced log later
  pub follows : IsPlaceOfNewest (files_after current) later after.place
  pub read : IsFaithful (files_after current) new.history later
  pub ends : EndsSince old.history new.history later
  -- the database behind the sync
  pub mid : Database
  pub on : IsLater mid new
  pub stores : StoresRight f synced old mid current
  pub carries : IsSettled before old.history log → CarriesOn new.history cut before current log later
  pub settled : IsSettled before old.history log → IsSettled current new.history later
  pub retains : IsSettled before old.history log → RetainsNew current log later

-- After a refusal they tell it about the log or about it and one line more, and no file is blamed.
pub record MayHaveKept
    (cut : ℕ) (refusal : RoundStop) (log : SyncLog) (old new : Database) (before current : List Event) : Type 0 where
  pub later : SyncLog
  pub lines : IsLonger log later
  pub one : length later ≤ length log + 1
  pub read : IsFaithful (files_after current) new.history later
  pub sound : BlamesNoFile refusal
  pub carries : IsSettled before old.history log → CarriesOn new.history cut before current log later
  pub faithful : IsSettled before old.history log → IsCrashFaithful current new.history later

abbrev pub KeepsFaith :
    Following → Following → ℕ → ℕ → Result Round RoundStop → SyncLog → Database → Database → List Event → List Event
    → Type 0
KeepsFaith f after cut now (Ok round) log old new before current =
    HasKept f after cut now round.sync log old new before current
KeepsFaith f after cut now (Err refusal) log old new before current =
    MayHaveKept cut refusal log old new before current

-- The promise of a round over a live database of which no coincidence is counted. What is retained for so long as
-- `keep` says is kept.
abbrev pub RoundKeepsFaith :
    Following → Following → ℕ → ℕ → Result Round RoundStop → LiveRecord → LiveRecord → List Event → List Event
    → Type 0
RoundKeepsFaith f after keep now result old new before current =
    (log : SyncLog) → new.database.chances ≡ 0 → IsFollowed old.database.history before log f.place
    → KeepsFaith f after (now - keep) now result log old.database new.database before current
