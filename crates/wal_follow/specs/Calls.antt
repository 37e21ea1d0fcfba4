-- What each call of a follower does.
use Rattle.std.specs.Prelude.{◌≡◌, ◌≢◌, ℕ, ◌-◌, ◌+◌, ◌/◌, ◌≤◌, ◌==◌, ◌&&◌, if◌then◌else◌, Bool, true, false, List}
use Rattle.std.specs.Prelude.{Option, Some, None, Result, Ok, Err, IsOk, IsErrOf, IfOk, OnOk, OnErr}
use Rattle.ls_base.specs.declared.mark.Mark.{Mark}
use Rattle.ls_base.specs.declared.place.Place.{Place}
use Rattle.ls_base.specs.declared.place.Place.TheVariants.{Wal, Rest}
use Rattle.ls_base.specs.Fault.{Rose}
use Rattle.ls_base.specs.PageSize.{lock_page}
use Rattle.ls_base.specs.State.{State, page_of}
use Rattle.wal_frames.specs.declared.header.WalHeader.{WalHeader}
use Rattle.wal_frames.specs.WalFormat.{read_header}
use Rattle.wal_frames.specs.ValidPrefix.{if_accepted}
use Rattle.wal_frames.specs.Marks.{IsMark, place_of}
use Rattle.wal_frames.specs.View.{view_at, view_at_rest}
use Rattle.live_gate.specs.declared.fault.LiveFault.{LiveFault}
use Rattle.live_gate.specs.LiveRecord.{Database, Asked, LiveRecord}
use Rattle.live_gate.specs.LiveCalls.{read_offset}
use Rattle.live_gate.specs.Legal.{IsLegal}
use Rattle.live_gate.specs.Step.{IsWriterStep}
use Rattle.wal_follow.specs.declared.answer.Found.{Found}
use Rattle.wal_follow.specs.declared.answer.Next.{Next}
use Rattle.wal_follow.specs.declared.answer.Next.TheVariants.{Same, Piece, Lost}
use Rattle.wal_follow.specs.declared.fault.Broken.{Broken}
use Rattle.wal_follow.specs.declared.fault.Broken.TheVariants.{Salts, Short}
use Rattle.wal_follow.specs.declared.fault.FollowFault.{FollowFault}
use Rattle.wal_follow.specs.declared.fault.FollowFault.TheVariants.{Header, SizesDiffer, WalTooLong, TooLarge}
use Rattle.wal_follow.specs.declared.fault.FollowFault.TheVariants.{GateBroken, Live, Memory}
use Rattle.wal_follow.specs.declared.following.Following.{Following}
use Rattle.wal_follow.specs.declared.following.Target.{Target}
use Rattle.wal_follow.specs.Following.{Fits, is_in_log}
use Rattle.wal_follow.specs.Answers.{Answers, AnswersInOrder, IsReadBehind}

-- ---- faults

-- the count never falls, and a fault of the live database comes only where it rose
pub record FollowHasCause {T : Type 0} (before now : ℕ) (result : Result T FollowFault) : Type 0 where
  pub later : before ≤ now
  pub rose : (fault : LiveFault) → IsErrOf result (Live fault) → Rose before now

-- ---- passes

-- no pass was asked for
abbrev pub KeepsPasses : Asked → Asked → Type 0
KeepsPasses old new = (new.passes_asked ≡ old.passes_asked) × (new.passes_done ≡ old.passes_done)

-- ---- next

abbrev pub target_of : Found → Target
target_of found = record { size = found.size; place = found.place; commit = found.commit }

-- what was found
abbrev pub found_in : Next → Option Target
found_in Same = None
found_in (Piece found) = Some (target_of found)
found_in (Lost found) = Some (target_of found)

-- what is kept of the place
pub record KeepsPlace (old new : Following) : Type 0 where
  pub place : new.place ≡ old.place
  pub recorded : new.recorded ≡ old.recorded
  pub passed : new.passed ≡ old.passed
  pub kept : new.kept.offsets ≡ old.kept.offsets

-- The follower has a place and, where that is in a log that no pass emptied there, knows how many pages its state has.
pub record KnowsPlace (f : Following) : Type 0 where
  pub place : Place
  pub is_place : f.place ≡ Some place
  pub pages : f.passed ≡ false → is_in_log (Some place) ≡ true → (pages : ℕ) × (f.pages ≡ Some pages)

-- What `next` keeps and learns.
pub record Learns (result : Result Next FollowFault) (old new : Following) : Type 0 where
  pub keeps : KeepsPlace old new
  pub found : IfOk result (λ next. new.found ≡ found_in next)
  pub none : OnErr result (new.found ≡ None)
  pub size : OnErr result (new.size ≡ old.size)
  pub pages : OnErr result (new.pages ≡ old.pages)
  pub same : IfOk result (λ next. next ≡ Same → KnowsPlace new)

-- What `next` does to what a live database tells.
pub record Follows (f after : Following) (result : Result Next FollowFault) (old new : LiveRecord) : Type 0 where
  pub step : IsWriterStep old.database new.database
  pub awake : IsOk result → new.database.stopped ≡ false
  pub answers : IsLegal old.database → new.database.chances ≡ 0 → Answers f result old.database new.database
  pub order : AnswersInOrder result new
  -- the header that is read again says by chance alone that the log is another
  pub behind : new.database.chances ≡ 0 → IsReadBehind f old new
  pub fits : IsLegal old.database → new.database.stopped ≡ false → Fits after new.database
  pub passes : KeepsPasses old.asked new.asked

-- ---- page

-- the state of a target: the view at a mark, or that of the database file
pub record IsViewAt (target : Target) (d : Database) (mark : Mark) (view : State) : Type 0 where
  pub is_mark : IsMark d.committed mark
  pub place : target.place ≡ place_of mark
  pub is : view ≡ view_at d.file d.committed mark

abbrev pub IsTargetView : Target → Database → Place → State → Type 0
IsTargetView target d (Wal a b c e g) view = (mark : Mark) × IsViewAt target d mark view
IsTargetView target d (Rest sum) view = view ≡ view_at_rest target.size d.file

-- What `page` does: where no coincidence is counted it gives the page of the found state.
pub record GivesWanted
    (f : Following) (target : Target) (number : ℕ) (result : Result (Unit {0}) FollowFault) (into : List ℕ)
    (old new : LiveRecord) : Type 0 where
  pub step : IsWriterStep old.database new.database
  pub awake : number ≢ lock_page target.size → IsOk result → new.database.stopped ≡ false
  pub value : new.database.chances ≡ 0 → new.database.stopped ≡ false → OnOk result
      ((view : State) → IsTargetView target new.database target.place view → page_of view number ≡ Some into)
  pub whole : new.database.chances ≡ 0 → (at : ℕ)
      → IsErrOf result (GateBroken (Short at)) → ⊥
  -- the log ended there
  pub short : (at : ℕ) → IsErrOf result (GateBroken (Short at))
      → (new.asked.gave_none ≡ true) × (at ≡ read_offset new)
  pub fits : new.database.stopped ≡ false → Fits f new.database
  pub passes : KeepsPasses old.asked new.asked

-- the answers that there are
abbrev pub IsPageAnswer : Result (Unit {0}) FollowFault → Type 0
IsPageAnswer (Ok done) = Unit {0}
IsPageAnswer (Err (Live fault)) = Unit {0}
IsPageAnswer (Err (GateBroken (Short at))) = Unit {0}
IsPageAnswer (Err (GateBroken (Salts was now))) = ⊥
IsPageAnswer (Err (Header fault)) = ⊥
IsPageAnswer (Err (SizesDiffer db wal)) = ⊥
IsPageAnswer (Err (WalTooLong n)) = ⊥
IsPageAnswer (Err (TooLarge n)) = ⊥
IsPageAnswer (Err Memory) = ⊥

abbrev pub IsConfirmAnswer : Result (Unit {0}) FollowFault → Type 0
IsConfirmAnswer (Ok done) = Unit {0}
IsConfirmAnswer (Err (Live fault)) = Unit {0}
IsConfirmAnswer (Err (GateBroken (Salts was now))) = Unit {0}
IsConfirmAnswer (Err (GateBroken (Short at))) = ⊥
IsConfirmAnswer (Err (Header fault)) = ⊥
IsConfirmAnswer (Err (SizesDiffer db wal)) = ⊥
IsConfirmAnswer (Err (WalTooLong n)) = ⊥
IsConfirmAnswer (Err (TooLarge n)) = ⊥
IsConfirmAnswer (Err Memory) = ⊥

-- ---- confirm

abbrev pub salts_of : WalHeader → ℕ × ℕ
salts_of h = (h.salt1, h.salt2)

-- the salts of the header with which these bytes begin, if it is accepted
abbrev pub salts_in : List ℕ → Option (ℕ × ℕ)
salts_in bytes = if_accepted (read_header bytes) (λ h. Some (salts_of h)) None

-- what the bytes that were read from the log's start are for each answer, where the found place has these salts
abbrev pub IsAnswerToSalts : Place → Result (Unit {0}) FollowFault → List ℕ → Type 0
IsAnswerToSalts (Rest sum) result bytes = Unit {0}
IsAnswerToSalts (Wal a b end s0 s1) (Ok done) bytes = salts_in bytes ≡ Some (a, b)
IsAnswerToSalts (Wal a b end s0 s1) (Err (GateBroken (Salts was now))) bytes =
    (was ≡ (a, b)) × (now ≡ salts_in bytes) × (now ≢ Some was)
IsAnswerToSalts (Wal a b end s0 s1) (Err fault) bytes = Unit {0}

-- the answer where the header had these salts and has those now
abbrev pub salts_answer : ℕ × ℕ → Option (ℕ × ℕ) → Result (Unit {0}) FollowFault
salts_answer was None = Err (GateBroken (Salts was None))
salts_answer was (Some now) =
    if now.0 == was.0 && now.1 == was.1 then Ok tt else Err (GateBroken (Salts was (Some now)))

-- What `confirm` does: where no coincidence is counted the salts are there.
pub record Confirms
    (f : Following) (target : Target) (result : Result (Unit {0}) FollowFault) (old new : LiveRecord) : Type 0 where
  pub step : IsWriterStep old.database new.database
  pub awake : is_in_log (Some target.place) ≡ true → IsOk result → new.database.stopped ≡ false
  pub salts : IsAnswerToSalts target.place result new.asked.answered
  pub whole : IsLegal old.database → new.database.chances ≡ 0 → (broken : Broken)
      → IsErrOf result (GateBroken broken) → ⊥
  pub fits : new.database.stopped ≡ false → Fits f new.database
  pub passes : KeepsPasses old.asked new.asked

-- ---- frames

-- how many frames of this page size end at or before the place
abbrev pub frames_at : Option Place → Option ℕ → ℕ
frames_at (Some (Wal a b end s0 s1)) (Some size) = (end - 32) / (24 + size)
frames_at (Some (Wal a b end s0 s1)) None = 0
frames_at (Some (Rest sum)) size = 0
frames_at None size = 0

abbrev pub frames_of : Following → Bool → ℕ
frames_of f true = 0
frames_of f false = frames_at f.place f.size

-- ---- start

-- a place in the log stands behind its header
abbrev pub IsBehindHeader : Option Place → Type 0
IsBehindHeader None = Unit {0}
IsBehindHeader (Some (Rest sum)) = Unit {0}
IsBehindHeader (Some (Wal a b end s0 s1)) = 32 ≤ end

-- a follower that has learned nothing but its place
pub record KnowsNothing (f : Following) : Type 0 where
  pub recorded : f.recorded ≡ false
  pub passed : f.passed ≡ false
  pub pages : f.pages ≡ None
  pub size : f.size ≡ None
  pub found : f.found ≡ None

-- ---- the answers of `next`

-- what `next` never answers
abbrev pub NeverBroken : Result Next FollowFault → Type 0
NeverBroken (Err (GateBroken broken)) = ⊥
NeverBroken (Err (Header fault)) = Unit {0}
NeverBroken (Err (SizesDiffer db wal)) = Unit {0}
NeverBroken (Err (WalTooLong n)) = Unit {0}
NeverBroken (Err (TooLarge n)) = Unit {0}
NeverBroken (Err (Live fault)) = Unit {0}
NeverBroken (Err Memory) = Unit {0}
NeverBroken (Ok next) = Unit {0}
