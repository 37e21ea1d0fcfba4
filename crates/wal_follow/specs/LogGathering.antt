-- What reading the log of a live database gives, from its header on.
use Rattle.std.specs.Prelude.{◌≡◌, ℕ, ◌+◌, ◌-◌, ◌≤◌, true, false, [], length, Option, Some, None, option_map, Result}
use Rattle.std.specs.Prelude.{Ok, IsOk, IfOk}
use Rattle.std.specs.FinMap.{get}
use Rattle.ls_base.specs.declared.mark.Mark.{Mark}
use Rattle.ls_base.specs.declared.place.Place.TheVariants.{Wal}
use Rattle.wal_frames.specs.declared.header.WalHeader.{WalHeader}
use Rattle.wal_frames.specs.WalFormat.{read_header}
use Rattle.wal_frames.specs.Marks.{marks_of}
use Rattle.live_gate.specs.LiveRecord.{Database, LiveRecord, IsPrefix}
use Rattle.live_gate.specs.LiveCalls.{AgreeInFront}
use Rattle.live_gate.specs.Coincidence.{IsReadByChecksums}
use Rattle.live_gate.specs.Step.{IsWriterStep}
use Rattle.snapshot_read.specs.Reading.{IsUnderGate, AsksOfTheLog}
use Rattle.wal_follow.specs.declared.fault.FollowFault.{FollowFault}
use Rattle.wal_follow.specs.declared.following.Following.{Following}
use Rattle.wal_follow.specs.declared.gather.Gathered.{Gathered}
use Rattle.wal_follow.specs.AtMark.{GathersMark}
use Rattle.wal_follow.specs.Following.{Fits, FitsRecorded}

-- The gate is held, and what was committed at first still is. It was no longer than so many bytes.
pub record WasCommitted (bytes : ℕ) (first now : Database) : Type 0 where
  pub gate : IsUnderGate now
  pub grown : IsPrefix first.committed now.committed
  pub long : length first.committed ≤ bytes

-- ---- the header

-- This header was read, and no more. It agrees with what was committed at first.
pub record ReadsHead (h : WalHeader) (first : Database) (new : LiveRecord) : Type 0 where
  pub aimed : new.asked.aimed ≡ 0
  pub long : length new.asked.answered ≡ 32
  pub accepted : read_header new.asked.answered ≡ Ok h
  pub agrees : AgreeInFront new.asked.answered first.committed
  pub chance : new.database.chances ≡ 0 → IsReadByChecksums new

-- where no header was read, none was committed at first
abbrev pub IsHead : Option WalHeader → Database → LiveRecord → Type 0
IsHead (Some h) first new = ReadsHead h first new
IsHead None first new = (h : WalHeader) → read_header first.committed ≡ Ok h → ⊥

pub record AsksHead (bytes : ℕ) (result : Result (Option WalHeader) FollowFault) (old new : LiveRecord) : Type 0 where
  pub step : IsWriterStep old.database new.database
  pub asked : AsksOfTheLog old.asked new.asked
  pub taken : new.asked.taken ≤ old.asked.taken + 32
  pub awake : IsOk result → new.database.stopped ≡ false
  pub head : (first : Database) → WasCommitted bytes first old.database → IfOk result (λ head. IsHead head first new)

-- ---- its frames

-- the log had no mark at first, and nothing was gathered
pub record GathersNone (after : Following) (first : Database) : Type 0 where
  pub none : marks_of first.committed ≡ []
  pub fresh : after.fresh ≡ true
  pub empty : (number : ℕ) → get after.newer.offsets number ≡ None

abbrev pub GathersWhat : Following → Following → Option Gathered → Database → Database → Type 0
GathersWhat f after None first new = GathersNone after first
GathersWhat f after (Some d) first new = GathersMark f after d first new

-- The log was read from its header on.
pub record GathersLog
    (bytes : ℕ) (h : WalHeader) (f after : Following) (result : Result (Option Gathered) FollowFault)
    (old new : LiveRecord) : Type 0 where
  pub step : IsWriterStep old.database new.database
  pub asked : AsksOfTheLog old.asked new.asked
  pub awake : old.database.stopped ≡ false → IsOk result → new.database.stopped ≡ false
  pub found : (first : Database) → WasCommitted bytes first old.database → ReadsHead h first old
      → old.database.stopped ≡ false → new.database.chances ≡ 0
      → IfOk result (λ g. GathersWhat f after g first new.database)

-- the place is recorded in the log as it stands, by this mark
pub record IsRecordedAt (f : Following) (a : Mark) (d : Database) : Type 0 where
  pub recorded : f.recorded ≡ true
  pub passed : f.passed ≡ false
  pub fits : FitsRecorded f d
  pub is_mark : fits.mark ≡ a

-- It was read from the mark of the recorded place on.
pub record GathersFrom
    (bytes : ℕ) (a : Mark) (f after : Following) (result : Result (Option Gathered) FollowFault)
    (old new : LiveRecord) : Type 0 where
  pub step : IsWriterStep old.database new.database
  pub asked : AsksOfTheLog old.asked new.asked
  pub taken : new.asked.taken ≤ old.asked.taken + (bytes - a.end)
  pub awake : IsOk result → new.database.stopped ≡ false
  pub head : option_map (λ scan. scan.head) after.scan ≡ option_map (λ scan. scan.head) f.scan
  pub found : (first : Database) → WasCommitted bytes first old.database → IsRecordedAt f a old.database
      → new.database.chances ≡ 0 → IfOk result (λ g. GathersWhat f after g first new.database)

-- ---- the whole

-- What is known of the log before it is read: the follower fits it, and it is no longer than so many bytes.
pub record MayGather (bytes : ℕ) (f : Following) (first old : Database) : Type 0 where
  pub was : WasCommitted bytes first old
  pub long : length old.committed ≤ bytes
  pub fits : Fits f old

-- what a follower of a recorded place reads
abbrev pub IsWithinRead : ℕ → Following → LiveRecord → LiveRecord → Type 0
IsWithinRead bytes f old new =
    (a b end s0 s1 : ℕ) → f.recorded ≡ true → f.passed ≡ false → f.place ≡ Some (Wal a b end s0 s1)
    → new.asked.taken ≤ old.asked.taken + 32 + (bytes - end)

pub record Gathers
    (bytes : ℕ) (f after : Following) (result : Result (Option Gathered) FollowFault) (old new : LiveRecord)
    : Type 0 where
  pub step : IsWriterStep old.database new.database
  pub asked : AsksOfTheLog old.asked new.asked
  pub awake : IsOk result → new.database.stopped ≡ false
  pub found : (first : Database) → MayGather bytes f first old.database → new.database.chances ≡ 0
      → IfOk result (λ g. GathersWhat f after g first new.database)
  pub behind : (first : Database) → MayGather bytes f first old.database → new.database.chances ≡ 0
      → IsWithinRead bytes f old new
  pub fits : (first : Database) → MayGather bytes f first old.database → f.found ≡ None
      → new.database.stopped ≡ false → Fits after new.database
