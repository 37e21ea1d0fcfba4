-- What was gathered of a log that has a commit, and what is answered then.
use Rattle.std.specs.Prelude.{◌≡◌, ℕ, ◌≤◌, Bool, true, false, [], Option, Some, None, option_map, if◌then◌else◌, Result}
use Rattle.std.specs.Prelude.{◌⊎◌}
use Rattle.ls_base.specs.declared.mark.Mark.{Mark}
use Rattle.ls_base.specs.declared.place.Place.{Place}
use Rattle.wal_frames.specs.declared.header.WalHeader.{WalHeader}
use Rattle.wal_frames.specs.ValidPrefix.{valid_frames}
use Rattle.wal_frames.specs.Marks.{IsMark, place_of}
use Rattle.wal_frames.specs.View.{frames_to}
use Rattle.live_gate.specs.LiveRecord.{Database}
use Rattle.live_gate.specs.Legal.{IsLegal}
use Rattle.live_gate.specs.Step.{IsWriterStep}
use Rattle.snapshot_read.specs.Offsets.{AreOffsets}
use Rattle.wal_follow.specs.declared.answer.Next.{Next}
use Rattle.wal_follow.specs.declared.answer.Wanted.{Wanted}
use Rattle.wal_follow.specs.declared.answer.Wanted.TheVariants.{All, Listed}
use Rattle.wal_follow.specs.declared.fault.FollowFault.{FollowFault}
use Rattle.wal_follow.specs.declared.following.Following.{Following}
use Rattle.wal_follow.specs.declared.gather.Gathered.{Gathered}
use Rattle.wal_follow.specs.Answers.{FindsMark, Answers}
use Rattle.wal_follow.specs.Following.{Fits}
use Rattle.wal_follow.specs.Gathering.{least_since}
use Rattle.wal_follow.specs.Piece.{frames_between}
use Rattle.wal_follow.specs.Steps.{behind}
use Rattle.wal_follow.specs.WantedPages.{AreListed}

-- ---- what was gathered

-- the place that is looked for in a log from its start: none where a pass emptied the log there
abbrev pub sought : Following → Option Place
sought f = if f.passed then None else f.place

-- the number of pages at the place where a pass emptied the log there
abbrev pub least_at_pass : Following → Option ℕ
least_at_pass f = if f.passed then f.pages else None

-- All frames of the log up to the mark were gathered.
pub record GathersAll (f after : Following) (d : Gathered) (new : Database) (h : WalHeader) : Type 0 where
  pub offsets : AreOffsets h after.newer.offsets 32 (frames_to h (valid_frames new.committed) d.mark)
  pub least : d.least
      ≡ least_since h (sought f) (least_at_pass f) [] (frames_to h (valid_frames new.committed) d.mark)

-- Those between the mark of the recorded place and the mark were.
pub record GathersBehind (f after : Following) (d : Gathered) (new : Database) (h : WalHeader) : Type 0 where
  pub recorded : f.recorded ≡ true
  pub passed : f.passed ≡ false
  pub a : Mark
  pub is_mark : IsMark new.committed a
  pub place : f.place ≡ Some (place_of a)
  pub pages : f.pages ≡ Some a.commit
  pub order : a.end ≤ d.mark.end
  pub offsets : AreOffsets h after.newer.offsets a.end
      (frames_between h (valid_frames new.committed) a d.mark)
  pub least : d.least
      ≡ least_since h None (Some a.commit) (frames_to h (valid_frames new.committed) a)
      (frames_between h (valid_frames new.committed) a d.mark)

abbrev pub GathersSince : Bool → Following → Following → Gathered → Database → WalHeader → Type 0
GathersSince true f after d new h = GathersAll f after d new h
GathersSince false f after d new h = GathersBehind f after d new h

-- The log has a mark, which is the last that was gathered.
pub record GathersMark (f after : Following) (d : Gathered) (old new : Database) : Type 0 where
  pub h : WalHeader
  pub finds : FindsMark old new h d.mark
  pub size : d.size ≡ h.size
  pub head : option_map (λ scan. scan.head) after.scan ≡ Some h
  pub only : after ≡ record f { scan = after.scan; newer = after.newer; fresh = after.fresh }
  pub since : GathersSince after.fresh f after d new h

-- ---- what is asked for

-- The pages that are to be stored are those that were gathered behind the place, or all where the place isn't in the
-- log
-- or its mark wasn't met.
abbrev pub IsAsked : Following → Gathered → ℕ → Wanted → Type 0
IsAsked f d size All = (d.least ≡ None) ⊎ (behind f.passed f.place ≡ None)
IsAsked f d size (Listed numbers) =
    (least offset : ℕ) × (d.least ≡ Some least) × (behind f.passed f.place ≡ Some offset)
    × AreListed f.newer.offsets offset size least d.mark.commit numbers

-- ---- what is answered

-- From what a follower knew at the old database it answers what it found at the new one, and fits that.
pub record AnswersAtMark (f after : Following) (result : Result Next FollowFault) (old new : Database) : Type 0 where
  pub answers : IsLegal old → IsWriterStep old new → Fits f old → new.chances ≡ 0 → Answers f result old new
  pub fits : IsLegal old → IsWriterStep old new → Fits f old → new.stopped ≡ false → Fits after new

-- whatever the live database was at which it was gathered
abbrev pub FollowsMark : Following → Following → Gathered → Result Next FollowFault → Type 0
FollowsMark before after d result =
    (f : Following) (old new : Database) → GathersMark f before d old new → AnswersAtMark f after result old new
