-- What a sync asks of the live database, and what it learns.
use Rattle.std.specs.Prelude.{◌≡◌, ◌≢◌, false, Option, Some, None, Result, Ok, Err, IsOk, IsErrOf}
use Rattle.ls_base.specs.declared.place.Place.{Place}
use Rattle.ls_base.specs.declared.place.Place.TheVariants.{Wal, Rest}
use Rattle.live_gate.specs.LiveRecord.{Database, LiveRecord}
use Rattle.live_gate.specs.LiveCalls.{MayAdvance}
use Rattle.live_gate.specs.Legal.{IsLegal}
use Rattle.live_gate.specs.Step.{IsWriterStep}
use Rattle.wal_follow.specs.declared.answer.Next.{Next}
use Rattle.wal_follow.specs.declared.answer.Next.TheVariants as next
use Rattle.wal_follow.specs.declared.answer.Found.{Found}
use Rattle.wal_follow.specs.declared.answer.Wanted.{Wanted}
use Rattle.wal_follow.specs.declared.answer.Wanted.TheVariants.{All, Listed}
use Rattle.wal_follow.specs.declared.fault.Broken.{Broken}
use Rattle.wal_follow.specs.declared.fault.FollowFault.TheVariants.{Header, SizesDiffer, WalTooLong, TooLarge}
use Rattle.wal_follow.specs.declared.fault.FollowFault.TheVariants.{GateBroken, Live, Memory}
use Rattle.wal_follow.specs.declared.following.Following.{Following}
use Rattle.wal_follow.specs.Following.{Fits}
use Rattle.wal_follow.specs.Calls.{Follows, KeepsPasses, target_of}
use Rattle.replica_sync.specs.Reading.{IsBrokenBy, ConfirmsFound}
use Rattle.round_line.specs.declared.round.Synced.{Synced}
use Rattle.round_line.specs.declared.round.Synced.TheVariants.{Same, Piece, Whole}
use Rattle.replica_sync.specs.declared.answer.SyncFault.{SyncFault}
use Rattle.replica_sync.specs.declared.answer.SyncFault.TheVariants as fault

-- The follower found this at some moment of the call.
pub record HasFollowed (f : Following) (answer : Next) (old new : LiveRecord) : Type 0 where
  pub kept : Following
  pub mid : LiveRecord
  pub follows : Follows f kept (Ok answer) old mid
  pub on : IsWriterStep mid.database new.database

-- a piece or a whole state was found, to be stored
pub record HasFoundSome (f : Following) (old new : LiveRecord) : Type 0 where
  pub answer : Next
  pub some : answer ≢ next.Same
  pub followed : HasFollowed f answer old new

-- The log is cut short of the found commit, or has other salts than it. Where no coincidence is counted neither
-- comes.
pub record IsBroken (f : Following) (broken : Broken) (old new : LiveRecord) : Type 0 where
  pub found : HasFoundSome f old new
  pub place : Place
  pub is : IsBrokenBy place broken new
  pub never : IsLegal old.database → new.database.chances ≡ 0 → ⊥

-- what was found
abbrev pub found_of : Next → Option Found
found_of next.Same = None
found_of (next.Piece found) = Some found
found_of (next.Lost found) = Some found

-- What was found was stored once the log was asked again whether it still has its salts, and its place is the recorded
-- one.
pub record HasStoredFound (f after : Following) (wanted : Wanted → Type 0) (old new : LiveRecord) : Type 0 where
  pub answer : Next
  pub found : Found
  pub is : found_of answer ≡ Some found
  pub followed : HasFollowed f answer old new
  pub confirmed : ConfirmsFound followed.kept (target_of found) followed.mid new
  pub kind : wanted found.wanted
  pub place : after.place ≡ Some found.place

-- the pages of a piece are listed; a whole state has all
abbrev pub IsPiece : Wanted → Type 0
IsPiece All = ⊥
IsPiece (Listed numbers) = Unit {0}

abbrev pub IsWhole : Wanted → Type 0
IsWhole All = Unit {0}
IsWhole (Listed numbers) = ⊥

-- What the live database showed, for each answer.
abbrev pub Shows : Following → Following → Result Synced SyncFault → LiveRecord → LiveRecord → Type 0
Shows f after (Ok Same) old new = Follows f after (Ok next.Same) old new
Shows f after (Ok (Piece name)) old new = HasStoredFound f after IsPiece old new
Shows f after (Ok (Whole name)) old new = HasStoredFound f after IsWhole old new
Shows f after (Err fault.TxidSpent) old new = HasFoundSome f old new
Shows f after (Err (fault.Store cause)) old new = HasFoundSome f old new
Shows f after (Err (fault.Follow (GateBroken broken))) old new = IsBroken f broken old new
Shows f after (Err (fault.Follow (Header cause))) old new = Follows f after (Err (Header cause)) old new
Shows f after (Err (fault.Follow (SizesDiffer db wal))) old new = Follows f after (Err (SizesDiffer db wal)) old new
Shows f after (Err (fault.Follow (WalTooLong n))) old new = Follows f after (Err (WalTooLong n)) old new
Shows f after (Err (fault.Follow (TooLarge n))) old new = Follows f after (Err (TooLarge n)) old new
Shows f after (Err (fault.Follow (Live cause))) old new = Unit {0}
Shows f after (Err (fault.Follow Memory)) old new = Unit {0}
Shows f after (Err fault.Memory) old new = Unit {0}

-- The hold may move to the end of a place in the log; where the place is at rest, the gate is held at no mark.
abbrev pub MayAdvanceTo : Option Place → Database → Type 0
MayAdvanceTo None d = Unit {0}
MayAdvanceTo (Some (Wal a b end s0 s1)) d = MayAdvance end d
MayAdvanceTo (Some (Rest sum)) d = d.chances ≡ 0 → d.held ≡ Some 0

-- What a sync does to what a live database tells. The two followers are those before and after it.
pub record Syncs (f after : Following) (result : Result Synced SyncFault) (old new : LiveRecord) : Type 0 where
  pub step : IsWriterStep old.database new.database
  pub awake : IsOk result → new.database.stopped ≡ false
  pub fits : IsLegal old.database → new.database.stopped ≡ false → Fits after new.database
  pub hold : IsLegal old.database → IsOk result → after.passed ≡ false → MayAdvanceTo after.place new.database
  pub shows : Shows f after result old new
  pub passes : KeepsPasses old.asked new.asked

-- What storing what was found does to it.
pub record StoresLive
    {T : Type 0} (f after : Following) (place : Place) (result : Result T SyncFault) (old new : LiveRecord) : Type 0
  where
    pub step : IsWriterStep old.database new.database
    pub awake : IsOk result → old.database.stopped ≡ false → new.database.stopped ≡ false
    pub fits : IsLegal old.database → new.database.stopped ≡ false → Fits after new.database
    pub hold : IsOk result → old.database.stopped ≡ false → MayAdvanceTo (Some place) new.database
    pub broken : (broken : Broken) → IsErrOf result (fault.Follow (GateBroken broken)) → IsBrokenBy place broken new
    pub whole : (broken : Broken) → IsErrOf result (fault.Follow (GateBroken broken))
        → IsLegal old.database → new.database.chances ≡ 0 → ⊥
    pub passes : KeepsPasses old.asked new.asked
