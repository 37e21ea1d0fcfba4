-- What reading the pages of what was found does to what a live database tells.
use Rattle.std.specs.Prelude.{◌≡◌, ℕ, true, false, List, Some, Result, Ok, Err, IsOk, IsErrOf}
use Rattle.std.specs.FinMap.{empty}
use Rattle.crash_disk.specs.Told as disk
use Rattle.ls_base.specs.declared.place.Place.{Place}
use Rattle.ls_base.specs.State.{State, page_of}
use Rattle.live_gate.specs.LiveRecord.{LiveRecord}
use Rattle.live_gate.specs.LiveCalls.{read_offset}
use Rattle.live_gate.specs.Legal.{IsLegal}
use Rattle.live_gate.specs.Step.{IsWriterStep}
use Rattle.wal_follow.specs.declared.answer.Found.{Found}
use Rattle.wal_follow.specs.declared.fault.Broken.{Broken}
use Rattle.wal_follow.specs.declared.fault.Broken.TheVariants.{Salts, Short}
use Rattle.wal_follow.specs.declared.fault.FollowFault.TheVariants.{Header, SizesDiffer, WalTooLong, TooLarge}
use Rattle.wal_follow.specs.declared.fault.FollowFault.TheVariants.{GateBroken, Live, Memory}
use Rattle.wal_follow.specs.declared.following.Following.{Following}
use Rattle.wal_follow.specs.declared.following.Target.{Target}
use Rattle.wal_follow.specs.Following.{Fits}
use Rattle.wal_follow.specs.Calls.{IsTargetView, target_of, IsAnswerToSalts, KeepsPasses, Confirms}
use Rattle.replica_sync.specs.declared.answer.SyncFault.{SyncFault}
use Rattle.replica_sync.specs.declared.answer.SyncFault.TheVariants as fault
use Rattle.replica_sync.specs.declared.page_file.PageFile.{PageFile}
use Rattle.replica_sync.specs.PageFile.{HasPages}

-- The log is cut short of the found commit, or has other salts than it.
abbrev pub IsBrokenBy : Place → Broken → LiveRecord → Type 0
IsBrokenBy place (Short at) new = (new.asked.gave_none ≡ true) × (at ≡ read_offset new)
IsBrokenBy place (Salts was now) new =
    IsAnswerToSalts place (Err (GateBroken (Salts was now))) new.asked.answered

-- The writer moved on, and no pass was asked for.
pub record MovesOn (old new : LiveRecord) : Type 0 where
  pub step : IsWriterStep old.database new.database
  pub passes : KeepsPasses old.asked new.asked

-- What was found is still there, while the machine doesn't stop; where no coincidence is counted the log is whole.
pub record ReadsFound
    (f : Following) (place : Place) (result : Result (Unit {0}) SyncFault) (old new : LiveRecord) : Type 0 where
  pub step : IsWriterStep old.database new.database
  pub awake : IsOk result → old.database.stopped ≡ false → new.database.stopped ≡ false
  pub fits : new.database.stopped ≡ false → Fits f new.database
  pub broken : (broken : Broken) → IsErrOf result (fault.Follow (GateBroken broken)) → IsBrokenBy place broken new
  pub whole : (broken : Broken) → IsErrOf result (fault.Follow (GateBroken broken))
      → IsLegal old.database → new.database.chances ≡ 0 → ⊥
  pub passes : KeepsPasses old.asked new.asked

-- and the bytes are those of the page in the found state
pub record ReadsPage
    (f : Following) (found : Found) (number : ℕ) (result : Result (Unit {0}) SyncFault) (page : List ℕ)
    (old new : LiveRecord) : Type 0 where
  pub reads : ReadsFound f found.place result old new
  pub awake : IsOk result → new.database.stopped ≡ false
  pub value : IsOk result → new.database.chances ≡ 0
      → (view : State) → IsTargetView (target_of found) new.database found.place view
      → page_of view number ≡ Some page

-- The last that was asked is whether the log still has the salts of what was found, and it had them.
pub record ConfirmsFound (f : Following) (target : Target) (old new : LiveRecord) : Type 0 where
  pub mid : LiveRecord
  pub before : IsWriterStep old.database mid.database
  pub confirms : Confirms f target (Ok tt) mid new

-- the refusals that there are
abbrev pub IsReadFault : Result (Unit {0}) SyncFault → Type 0
IsReadFault (Ok done) = Unit {0}
IsReadFault (Err (fault.Store cause)) = Unit {0}
IsReadFault (Err (fault.Follow (Live cause))) = Unit {0}
IsReadFault (Err (fault.Follow (GateBroken broken))) = Unit {0}
IsReadFault (Err (fault.Follow (Header cause))) = ⊥
IsReadFault (Err (fault.Follow (SizesDiffer db wal))) = ⊥
IsReadFault (Err (fault.Follow (WalTooLong n))) = ⊥
IsReadFault (Err (fault.Follow (TooLarge n))) = ⊥
IsReadFault (Err (fault.Follow Memory)) = ⊥
IsReadFault (Err fault.TxidSpent) = ⊥
IsReadFault (Err fault.Memory) = ⊥

-- the file's header tells the page size and the number of pages of what was found, and no page of it is put yet
pub record IsBegun (found : Found) (file : PageFile) (now : disk.Told) : Type 0 where
  pub begun : disk.Told
  pub has : HasPages file begun now empty
  pub first : file.writer.last ≡ 0
  pub size : file.writer.header.size ≡ found.size
  pub commit : file.writer.header.commit ≡ found.commit

-- those, and want of memory
abbrev pub IsStoreFault : Result (Unit {0}) SyncFault → Type 0
IsStoreFault (Ok done) = Unit {0}
IsStoreFault (Err (fault.Store cause)) = Unit {0}
IsStoreFault (Err (fault.Follow (Live cause))) = Unit {0}
IsStoreFault (Err (fault.Follow (GateBroken broken))) = Unit {0}
IsStoreFault (Err (fault.Follow (Header cause))) = ⊥
IsStoreFault (Err (fault.Follow (SizesDiffer db wal))) = ⊥
IsStoreFault (Err (fault.Follow (WalTooLong n))) = ⊥
IsStoreFault (Err (fault.Follow (TooLarge n))) = ⊥
IsStoreFault (Err (fault.Follow Memory)) = ⊥
IsStoreFault (Err fault.TxidSpent) = ⊥
IsStoreFault (Err fault.Memory) = Unit {0}
