-- What a sync keeps: the replica goes on telling the truth, as read and whatever a crash leaves.
use Rattle.std.specs.Prelude.{◌≡◌, ◌≢◌, ℕ, ◌+◌, ◌≤◌, List, [], ◌∷◌, ◌++◌, length, Option, Some, None, Result, Ok, Err}
use Rattle.std.specs.Prelude.{◌⊎◌}
use Rattle.std.specs.List.{slice_get}
use Rattle.crash_disk.specs.declared.event.Event.{Event}
use Rattle.crash_disk.specs.Files.{Files, files_after, file_at}
use Rattle.crash_disk.specs.Told as disk
use Rattle.ls_base.specs.declared.entry.Entry.{Entry}
use Rattle.ls_base.specs.declared.line.Line.{Line}
use Rattle.ls_base.specs.declared.mark.Mark.{Mark}
use Rattle.ls_base.specs.declared.place.Place.{Place}
use Rattle.ls_base.specs.Change.{Change}
use Rattle.ls_base.specs.History.{History, state_of, state_at}
use Rattle.ls_base.specs.State.{State}
use Rattle.ls_base.specs.SyncLog.{SyncLog, line_of, recorded_state}
use Rattle.live_gate.specs.LiveRecord.{Database, LiveRecord}
use Rattle.live_gate.specs.LiveRecord as live
use Rattle.live_gate.specs.Legal.{IsLegal}
use Rattle.live_gate.specs.Step.{IsWriterStep}
use Rattle.ltx_format.specs.declared.header.LtxHeader.{LtxHeader}
use Rattle.replica_store.specs.declared.dated_names.Dated.{Dated}
use Rattle.replica_store.specs.declared.file_name.FileName.{FileName}
use Rattle.replica_store.specs.CarriesOn.{IsLonger, CarriesOn, RetainsNew}
use Rattle.replica_store.specs.Chain.{names_of}
use Rattle.replica_store.specs.CrashFaithful.{IsCrashFaithful, IsSettled}
use Rattle.replica_store.specs.Dating.{HaveMoments}
use Rattle.replica_store.specs.Faithful.{IsFaithful}
use Rattle.replica_store.specs.FileOf.{IsFileOf}
use Rattle.replica_store.specs.Listing.{path_of, AreListed}
use Rattle.replica_store.specs.Retained.{IsRetainedIn}
use Rattle.wal_frames.specs.declared.header.WalHeader.{WalHeader}
use Rattle.wal_frames.specs.Marks.{place_of}
use Rattle.wal_frames.specs.View.{view_at}
use Rattle.wal_follow.specs.declared.answer.Found.{Found}
use Rattle.wal_follow.specs.declared.following.Following.{Following}
use Rattle.wal_follow.specs.Answers.{FindsMark, IsLostAtMark, AreSince, LosesAtMark, LosesAtRest}
use Rattle.wal_follow.specs.Piece.{IsPieceSince, IsWhole}
use Rattle.round_line.specs.declared.round.Synced.{Synced}
use Rattle.round_line.specs.declared.round.Synced.TheVariants.{Same, Piece, Whole}
use Rattle.replica_sync.specs.declared.answer.SyncFault.{SyncFault}
use Rattle.replica_sync.specs.Newest.{moment_behind}

-- ---- what holds before

-- The place is that of the newest line where the newest transaction is retained, and else there is none.
abbrev pub IsPlaceOfNewest : Files → SyncLog → Option Place → Type 0
IsPlaceOfNewest files log (Some place) =
    IsRetainedIn files (length log) × ((line : Line) × (line_of log (length log) ≡ Some line) × (line.place ≡ place))
IsPlaceOfNewest files log None = IsRetainedIn files (length log) → ⊥

-- The replica's files tell the truth, the list is theirs, and the follower's place is that of the newest line.
pub record IsFollowed
    (history : History) (events : List Event) (log : SyncLog) (place : Option Place) (dated : List Dated) : Type 0
  where
    pub faithful : IsFaithful (files_after events) history log
    pub listed : AreListed (files_after events) (names_of dated)
    pub moments : HaveMoments (files_after events) dated
    pub newest : IsPlaceOfNewest (files_after events) log place

-- ---- the stored file

-- a moment of the call at which the database was this
pub record IsBetween (old at new : Database) : Type 0 where
  pub to : IsWriterStep old at
  pub on : IsWriterStep at new

-- The file under the name is exactly the piece from the follower's place to the last mark.
pub record StoresPiece
    (f : Following) (name : FileName) (old new : Database) (now : List Event) : Type 0 where
  pub bytes : List ℕ
  pub there : file_at now (path_of name) ≡ Some bytes
  pub header : LtxHeader
  pub change : Change
  pub file : IsFileOf bytes name.min name.max header change
  pub at : Database
  pub between : IsBetween old at new
  pub h : WalHeader
  pub q : Mark
  pub finds : FindsMark old at h q
  pub place : header.place ≡ place_of q
  pub follows : IsLostAtMark f.passed f.place at.committed q → ⊥
  pub later : f.place ≢ Some (place_of q)
  pub start : ℕ
  pub since : List (List ℕ)
  pub are_since : AreSince f.passed f at.committed h q start since
  pub piece : IsPieceSince h.size start since (view_at at.file at.committed q) change

-- The file under the name is the whole state at its place, to which the log doesn't lead from the follower's.
pub record StoresWhole
    (f : Following) (name : FileName) (old new : Database) (now : List Event) : Type 0 where
  pub bytes : List ℕ
  pub there : file_at now (path_of name) ≡ Some bytes
  pub header : LtxHeader
  pub change : Change
  pub file : IsFileOf bytes name.min name.max header change
  pub at : Database
  pub between : IsBetween old at new
  pub found : Found
  pub loses : LosesAtMark f found old at ⊎ LosesAtRest f found old at
  pub place : header.place ≡ found.place
  pub state : State
  pub recorded : state_at new.history header.place ≡ Some state
  pub whole : IsWhole header.size state change

abbrev pub StoresRight : Following → Synced → Database → Database → List Event → Type 0
StoresRight f Same old new now = Unit {0}
StoresRight f (Piece name) old new now = StoresPiece f name old new now
StoresRight f (Whole name) old new now = StoresWhole f name old new now

-- ---- the log after it

-- a line with this moment was put behind those of the log
pub record AddsLine (moment : ℕ) (name : FileName) (log later : SyncLog) : Type 0 where
  pub line : Line
  pub is : later ≡ log ++ line ∷ []
  pub dated : line.moment ≡ moment
  pub last : name.max ≡ length later

abbrev pub AddsLines : ℕ → Synced → SyncLog → SyncLog → Type 0
AddsLines moment Same log later = later ≡ log
AddsLines moment (Piece name) log later = AddsLine moment name log later
AddsLines moment (Whole name) log later = AddsLine moment name log later

-- the state is that of the last entry at the call's start, or of a later one
pub record IsStateSince (old new : History) (state : State) : Type 0 where
  pub index : ℕ
  pub entry : Entry
  pub there : slice_get new index ≡ Some entry
  pub since : length old ≤ index + 1
  pub same : state_of entry ≡ state

-- The newest transaction of the log has such a state.
pub record EndsSince (old new : History) (log : SyncLog) : Type 0 where
  pub state : State
  pub recorded : recorded_state new log (length log) ≡ Some state
  pub since : IsStateSince old new state

-- After a sync that was answered Ok the files tell the truth about the later log.
pub record HasSynced
    (f after : Following) (now : ℕ) (synced : Synced) (log : SyncLog)
    (old new : Database) (before current : List Event) : Type 0 where
  pub later : SyncLog
  pub lines : AddsLines (moment_behind log now) synced log later
  pub follows : IsPlaceOfNewest (files_after current) later after.place
  pub read : IsFaithful (files_after current) new.history later
  pub ends : EndsSince old.history new.history later
  pub stores : StoresRight f synced old new current
  pub carries : (cut : ℕ) → cut ≤ now → IsSettled before old.history log
      → CarriesOn new.history cut before current log later
  pub settled : IsSettled before old.history log → IsSettled current new.history later
  pub retains : IsSettled before old.history log → RetainsNew current log later

-- After a refusal they tell it about the log or about one line more.
pub record MayHaveSynced
    (now : ℕ) (log : SyncLog) (old new : Database) (before current : List Event) : Type 0 where
  pub later : SyncLog
  pub lines : IsLonger log later
  pub one : length later ≤ length log + 1
  pub read : IsFaithful (files_after current) new.history later
  pub carries : (cut : ℕ) → cut ≤ now → IsSettled before old.history log
      → CarriesOn new.history cut before current log later
  pub faithful : IsSettled before old.history log → IsCrashFaithful current new.history later

abbrev pub KeepsFaith :
    Following → Following → ℕ → Result Synced SyncFault → SyncLog → Database → Database → List Event → List Event
    → Type 0
KeepsFaith f after now (Ok synced) log old new before current =
    HasSynced f after now synced log old new before current
KeepsFaith f after now (Err fault) log old new before current = MayHaveSynced now log old new before current

-- ---- both objects tell

-- P holds of what both objects told and tell, where both do
abbrev pub IfBothTell :
    live.Told → live.Told → disk.Told → disk.Told
    → (LiveRecord → LiveRecord → List Event → List Event → Type 0) → Type 0
IfBothTell live_old live_new store_old store_new P =
    (old new : LiveRecord) (before current : List Event)
    → live_old ≡ Some old → live_new ≡ Some new → store_old ≡ Some before → store_new ≡ Some current
    → P old new before current

-- The promise of a sync over a legal database of which no coincidence is counted.
abbrev pub SyncKeepsFaith :
    Following → Following → List Dated → ℕ → Result Synced SyncFault
    → LiveRecord → LiveRecord → List Event → List Event → Type 0
SyncKeepsFaith f after dated now result old new before current =
    (log : SyncLog) → IsLegal old.database → new.database.chances ≡ 0
    → IsFollowed old.database.history before log f.place dated
    → KeepsFaith f after now result log old.database new.database before current
