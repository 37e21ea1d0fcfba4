-- What storing the changes asks of the live database, and what it learns.
use Rattle.std.specs.Prelude.{◌≡◌, Bool, true, false, Option, Some, None, Result, Ok, Err, IsOk, OnErr, ◌⊎◌}
use Rattle.ls_base.specs.declared.place.Place.{Place}
use Rattle.ls_base.specs.declared.place.Place.TheVariants.{Wal, Rest}
use Rattle.live_gate.specs.LiveRecord.{Database, LiveRecord}
use Rattle.live_gate.specs.Legal.{IsLegal}
use Rattle.live_gate.specs.Step.{IsWriterStep, IsStepButHold}
use Rattle.round_line.specs.declared.round.Synced.{Synced}
use Rattle.wal_follow.specs.declared.fault.FollowFault.TheVariants.{Header, SizesDiffer, WalTooLong, TooLarge}
use Rattle.wal_follow.specs.declared.fault.FollowFault.TheVariants.{GateBroken, Live, Memory}
use Rattle.wal_follow.specs.declared.following.Following.{Following}
use Rattle.wal_follow.specs.Calls.{KeepsPasses}
use Rattle.wal_follow.specs.Following.{Fits}
use Rattle.replica_sync.specs.declared.answer.SyncFault.TheVariants as fault
use Rattle.replica_sync.specs.LiveSide.{Syncs}
use Rattle.replica_round.specs.declared.changing.Changed.{Changed}
use Rattle.replica_round.specs.declared.stop.RoundStop.{RoundStop}
use Rattle.replica_round.specs.declared.stop.RoundStop.TheVariants as stop

-- The gate is held at the end of a place in the log. It is held at no mark where the place is at rest, and where a pass
-- emptied the log there.
abbrev pub IsHeldAt : Bool → Option Place → Database → Type 0
IsHeldAt true place d = d.held ≡ Some 0
IsHeldAt false (Some (Wal a b end s0 s1)) d = d.held ≡ Some end
IsHeldAt false (Some (Rest sum)) d = d.held ≡ Some 0
IsHeldAt false None d = Unit {0}

-- The sync was answered Ok and showed this, and behind it no more than the hold moved.
pub record HasSyncedLive (f after : Following) (synced : Synced) (old new : LiveRecord) : Type 0 where
  pub mid : LiveRecord
  pub syncs : Syncs f after (Ok synced) old mid
  pub on : IsStepButHold mid.database new.database

-- What the live database showed, for each answer.
abbrev pub ShowsChanges : Following → Following → Result Changed RoundStop → LiveRecord → LiveRecord → Type 0
ShowsChanges f after (Ok changed) old new = HasSyncedLive f after changed.sync old new
ShowsChanges f after (Err (stop.Damaged name damage)) old new = new ≡ old
ShowsChanges f after (Err (stop.PageMissing name number)) old new = ⊥
ShowsChanges f after (Err stop.TxidSpent) old new = Syncs f after (Err fault.TxidSpent) old new
ShowsChanges f after (Err (stop.Store cause)) old new = (new ≡ old) ⊎ Syncs f after (Err (fault.Store cause)) old new
ShowsChanges f after (Err stop.Memory) old new = (new ≡ old) ⊎ Syncs f after (Err fault.Memory) old new
ShowsChanges f after (Err (stop.Follow (Live cause))) old new =
    Syncs f after (Err (fault.Follow (Live cause))) old new
    ⊎ ((synced : Synced) × HasSyncedLive f after synced old new)
ShowsChanges f after (Err (stop.Follow (Header cause))) old new =
    Syncs f after (Err (fault.Follow (Header cause))) old new
ShowsChanges f after (Err (stop.Follow (SizesDiffer db wal))) old new =
    Syncs f after (Err (fault.Follow (SizesDiffer db wal))) old new
ShowsChanges f after (Err (stop.Follow (WalTooLong n))) old new =
    Syncs f after (Err (fault.Follow (WalTooLong n))) old new
ShowsChanges f after (Err (stop.Follow (TooLarge n))) old new =
    Syncs f after (Err (fault.Follow (TooLarge n))) old new
ShowsChanges f after (Err (stop.Follow (GateBroken broken))) old new =
    Syncs f after (Err (fault.Follow (GateBroken broken))) old new
ShowsChanges f after (Err (stop.Follow Memory)) old new = Syncs f after (Err (fault.Follow Memory)) old new

-- What it does to what a live database tells. The two followers are those before and after it.
pub record ChangesLive (f after : Following) (result : Result Changed RoundStop) (old new : LiveRecord) : Type 0 where
  pub step : IsStepButHold old.database new.database
  pub legal : IsLegal new.database
  pub awake : IsOk result → new.database.stopped ≡ false
  pub fits : new.database.stopped ≡ false → Fits after new.database
  pub hold : IsOk result → new.database.chances ≡ 0 → IsHeldAt after.passed after.place new.database
  -- a refusal leaves the hold
  pub err : OnErr result (IsWriterStep old.database new.database)
  pub passes : KeepsPasses old.asked new.asked
  pub shows : ShowsChanges f after result old new
