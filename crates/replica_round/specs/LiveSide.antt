-- What a round asks of the live database, and what it learns.
use Rattle.std.specs.Prelude.{◌≡◌, ◌+◌, Bool, false, if◌then◌else◌, Result, Ok, Err, IsOk, ◌⊎◌}
use Rattle.live_gate.specs.declared.fault.PassFault.{PassFault}
use Rattle.live_gate.specs.declared.fault.PassFault.TheVariants as pass
use Rattle.live_gate.specs.LiveRecord.{LiveRecord}
use Rattle.live_gate.specs.LiveCalls.{capped}
use Rattle.live_gate.specs.Legal.{IsLegal}
use Rattle.live_gate.specs.Step.{IsWriterStep}
use Rattle.round_line.specs.declared.round.Round.{Round}
use Rattle.round_line.specs.declared.round.Synced.{Synced}
use Rattle.wal_follow.specs.declared.fault.FollowFault.TheVariants.{Header, SizesDiffer, WalTooLong, TooLarge}
use Rattle.wal_follow.specs.declared.fault.FollowFault.TheVariants.{GateBroken, Live, Memory}
use Rattle.wal_follow.specs.declared.following.Following.{Following}
use Rattle.wal_follow.specs.Following.{Fits}
use Rattle.replica_sync.specs.declared.answer.SyncFault.TheVariants as fault
use Rattle.replica_sync.specs.LiveSide.{Syncs}
use Rattle.replica_round.specs.declared.stop.RoundStop.{RoundStop}
use Rattle.replica_round.specs.declared.stop.RoundStop.TheVariants as stop
use Rattle.replica_round.specs.ChangesLive.{HasSyncedLive, IsHeldAt}
use Rattle.replica_round.specs.Later.{IsLater}
use Rattle.replica_round.specs.Passing.{IsLong, PassesWhenLong}
use Rattle.replica_round.specs.Stop.{MayHavePassed}

-- A sync was answered Ok and the hold moved, and then a pass was asked exactly where the log was long: once.
pub record GoesBehind
    (at_rest : Bool) (f after : Following) (synced : Synced) (passed : Result Bool PassFault) (old new : LiveRecord)
    : Type 0 where
  -- the follower and the database behind the sync and the hold
  pub kept : Following
  pub mid : LiveRecord
  pub syncs : HasSyncedLive f kept synced old mid
  pub passes : PassesWhenLong kept after at_rest passed mid new
  pub asked : IsLong kept → new.asked.passes_asked ≡ capped (old.asked.passes_asked + 1)
  pub unasked : (IsLong kept → ⊥) → new.asked.passes_asked ≡ old.asked.passes_asked

-- All that a round asks was answered. The pass took place exactly where their count rose.
pub record HasRoundedLive
    (at_rest : Bool) (f after : Following) (synced : Synced) (passed : Bool) (old new : LiveRecord) : Type 0 where
  pub behind : GoesBehind at_rest f after synced (Ok passed) old new
  pub done :
      new.asked.passes_done ≡ (if passed then capped (old.asked.passes_done + 1) else old.asked.passes_done)

-- the hold didn't move, by a fault
pub record HoldFails (f after : Following) (old new : LiveRecord) : Type 0 where
  pub synced : Synced
  pub syncs : HasSyncedLive f after synced old new
  pub held : IsWriterStep old.database new.database

-- the pass was refused
pub record PassFails (at_rest : Bool) (f after : Following) (cause : PassFault) (old new : LiveRecord) : Type 0 where
  pub synced : Synced
  pub behind : GoesBehind at_rest f after synced (Err cause) old new

-- the live database had answered all when the upkeep of the replica was refused
pub record UpkeepStops (at_rest : Bool) (f after : Following) (old new : LiveRecord) : Type 0 where
  pub synced : Synced
  pub passed : Bool
  pub rounded : HasRoundedLive at_rest f after synced passed old new

-- What the live database showed, for each answer.
abbrev pub ShowsRound :
    Bool → Following → Following → Result Round RoundStop → LiveRecord → LiveRecord → Type 0
ShowsRound at_rest f after (Ok round) old new = HasRoundedLive at_rest f after round.sync round.passed old new
ShowsRound at_rest f after (Err (stop.Damaged name damage)) old new =
    (new ≡ old) ⊎ UpkeepStops at_rest f after old new
ShowsRound at_rest f after (Err (stop.PageMissing name number)) old new = UpkeepStops at_rest f after old new
ShowsRound at_rest f after (Err stop.TxidSpent) old new = Syncs f after (Err fault.TxidSpent) old new
ShowsRound at_rest f after (Err (stop.Store cause)) old new =
    (new ≡ old) ⊎ (Syncs f after (Err (fault.Store cause)) old new ⊎ UpkeepStops at_rest f after old new)
ShowsRound at_rest f after (Err stop.Memory) old new =
    (new ≡ old)
    ⊎ (Syncs f after (Err fault.Memory) old new
    ⊎ (PassFails at_rest f after pass.Memory old new ⊎ UpkeepStops at_rest f after old new))
ShowsRound at_rest f after (Err (stop.Follow (Live cause))) old new =
    Syncs f after (Err (fault.Follow (Live cause))) old new
    ⊎ (HoldFails f after old new ⊎ PassFails at_rest f after (pass.Live cause) old new)
ShowsRound at_rest f after (Err (stop.Follow (Header cause))) old new =
    Syncs f after (Err (fault.Follow (Header cause))) old new
ShowsRound at_rest f after (Err (stop.Follow (SizesDiffer db wal))) old new =
    Syncs f after (Err (fault.Follow (SizesDiffer db wal))) old new
ShowsRound at_rest f after (Err (stop.Follow (WalTooLong n))) old new =
    Syncs f after (Err (fault.Follow (WalTooLong n))) old new
ShowsRound at_rest f after (Err (stop.Follow (TooLarge n))) old new =
    Syncs f after (Err (fault.Follow (TooLarge n))) old new
ShowsRound at_rest f after (Err (stop.Follow (GateBroken broken))) old new =
    Syncs f after (Err (fault.Follow (GateBroken broken))) old new
ShowsRound at_rest f after (Err (stop.Follow Memory)) old new = Syncs f after (Err (fault.Follow Memory)) old new

-- the follower knows of each pass that took place
abbrev pub IsSure : Result Round RoundStop → Type 0
IsSure (Ok round) = Unit {0}
IsSure (Err refusal) = MayHavePassed refusal → ⊥

-- What a round does to what a live database tells. The two followers are those before and after it.
pub record Rounds (at_rest : Bool) (f after : Following) (result : Result Round RoundStop) (old new : LiveRecord)
    : Type 0 where
  pub later : IsLater old.database new.database
  pub legal : IsLegal new.database
  pub awake : IsOk result → new.database.stopped ≡ false
  pub fits : IsSure result → new.database.stopped ≡ false → Fits after new.database
  pub hold : IsOk result → new.database.chances ≡ 0 → IsHeldAt after.passed after.place new.database
  pub shows : ShowsRound at_rest f after result old new
