-- What a follower knows of a live database.
use Rattle.std.specs.Prelude.{◌≡◌, ℕ, ◌≤◌, Bool, true, false, length, Option, Some, None, option_map, Ok}
use Rattle.std.specs.Option.{option_or}
use Rattle.std.specs.FinMap.{get}
use Rattle.ls_base.specs.declared.entry.Entry.{Entry}
use Rattle.ls_base.specs.declared.mark.Mark.{Mark}
use Rattle.ls_base.specs.declared.place.Place.{Place}
use Rattle.ls_base.specs.declared.place.Place.TheVariants.{Wal, Rest}
use Rattle.ls_base.specs.State.{State}
use Rattle.ls_base.specs.History.{History, state_of, state_at}
use Rattle.wal_frames.specs.declared.header.WalHeader.{WalHeader}
use Rattle.wal_frames.specs.WalFormat.{read_header}
use Rattle.wal_frames.specs.ValidPrefix.{valid_frames}
use Rattle.wal_frames.specs.Marks.{IsMark, place_of}
use Rattle.wal_frames.specs.View.{frames_to, file_pages, rest_place}
use Rattle.live_gate.specs.LiveRecord.{Database}
use Rattle.snapshot_read.specs.Offsets.{offset_in}
use Rattle.snapshot_read.specs.PageOffsets.{Offsets}
use Rattle.snapshot_read.specs.Reading.{IsUnderGate}
use Rattle.snapshot_read.specs.Resting.{IsRest}
use Rattle.wal_follow.specs.declared.following.Following.{Following}
use Rattle.wal_follow.specs.declared.following.Target.{Target}
use Rattle.wal_follow.specs.PieceLaws.{StandsBefore}

-- ---- what a follower keeps

abbrev pub is_in_log : Option Place → Bool
is_in_log (Some (Wal a b c d e)) = true
is_in_log (Some (Rest sum)) = false
is_in_log None = false

-- the offsets of the pages are those of the log up to a mark
abbrev pub AreOffsetsAt : Database → WalHeader → Mark → (ℕ → Option ℕ) → Type 0
AreOffsetsAt d h mark at = (number : ℕ) → at number ≡ offset_in h number 32 (frames_to h
    (valid_frames d.committed) mark)

-- where a page stands that was gathered last: by the newer offsets, and where these don't begin at the log's start else
-- by the kept ones
abbrev pub gathered_at : Bool → Offsets → Offsets → ℕ → Option ℕ
gathered_at true kept newer number = get newer number
gathered_at false kept newer number = option_or (get newer number) (get kept number)

-- ---- a follower that fits a live database

-- the log was emptied at the place by a pass of this run
pub record FitsPassed (f : Following) (d : Database) : Type 0 where
  pub held : d.held ≡ Some 0
  pub entry : Entry
  pub stands : StandsBefore d.history d.committed entry
  pub at_rest : IsRest entry.place
  pub place : Place
  pub is_place : f.place ≡ Some place
  pub same : state_at d.history place ≡ Some (state_of entry)
  pub pages : f.pages ≡ Some (length entry.pages)

-- the place was recorded by `stored`, and stands in the log as it stood then
pub record FitsRecorded (f : Following) (d : Database) : Type 0 where
  pub h : WalHeader
  pub mark : Mark
  pub accepted : read_header d.committed ≡ Ok h
  pub is_mark : IsMark d.committed mark
  pub place : f.place ≡ Some (place_of mark)
  pub pages : f.pages ≡ Some mark.commit
  pub head : option_map (λ scan. scan.head) f.scan ≡ Some h
  pub offsets : AreOffsetsAt d h mark (get f.kept.offsets)

-- how many pages the state at a place in the log has, where the follower has learned that
abbrev pub HasLearned : Following → History → Type 0
HasLearned f history =
    (place : Place) (pages : ℕ) → is_in_log (Some place) ≡ true → f.place ≡ Some place → f.pages ≡ Some pages
    → (s : State) × (state_at history place ≡ Some s) × (length s.pages ≡ pages)

-- what was found in the log is there
pub record FitsFoundMark (f : Following) (target : Target) (d : Database) : Type 0 where
  pub h : WalHeader
  pub mark : Mark
  pub accepted : read_header d.committed ≡ Ok h
  pub is_mark : IsMark d.committed mark
  pub place : target.place ≡ place_of mark
  pub commit : target.commit ≡ mark.commit
  pub size : target.size ≡ h.size
  pub held : (end : ℕ) → d.held ≡ Some end → end ≤ mark.end
  pub head : option_map (λ scan. scan.head) f.scan ≡ Some h
  pub offsets : AreOffsetsAt d h mark (gathered_at f.fresh f.kept.offsets f.newer.offsets)

-- what was found in the database file is there
pub record FitsFoundRest (f : Following) (target : Target) (d : Database) : Type 0 where
  pub held : d.held ≡ Some 0
  pub place : target.place ≡ rest_place target.size d.file
  pub commit : target.commit ≡ file_pages target.size d.file
  pub fresh : f.fresh ≡ true
  pub none : (number : ℕ) → get f.newer.offsets number ≡ None

abbrev pub FitsTarget : Following → Target → Database → Place → Type 0
FitsTarget f target d (Wal a b c e g) = FitsFoundMark f target d
FitsTarget f target d (Rest sum) = FitsFoundRest f target d

-- where no coincidence is counted
pub record FitsCalm (f : Following) (d : Database) : Type 0 where
  pub passed : f.passed ≡ true → FitsPassed f d
  pub recorded : f.passed ≡ false → f.recorded ≡ true → is_in_log f.place ≡ true → FitsRecorded f d
  pub learned : HasLearned f d.history
  pub found : (target : Target) → f.found ≡ Some target → FitsTarget f target d target.place

-- The gate is held and, where no coincidence is counted, what the follower keeps is there.
pub record Fits (f : Following) (d : Database) : Type 0 where
  pub gate : IsUnderGate d
  pub calm : d.chances ≡ 0 → FitsCalm f d
