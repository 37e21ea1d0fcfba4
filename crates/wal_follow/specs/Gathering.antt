-- What is gathered from the frames of a log.
use Rattle.std.specs.Prelude.{◌≡◌, ℕ, zero, suc, ◌+◌, ◌-◌, ◌==◌, min, Bool, true, false, List, [], ◌∷◌, ◌++◌, length}
use Rattle.std.specs.Prelude.{Option, Some, None, if◌then◌else◌}
use Rattle.std.specs.FinMap.{empty, insert}
use Rattle.ls_base.specs.declared.mark.Mark.{Mark}
use Rattle.ls_base.specs.declared.place.Place.{Place}
use Rattle.ls_base.specs.Place.{is_same_place}
use Rattle.wal_frames.specs.declared.header.WalHeader.{WalHeader}
use Rattle.wal_frames.specs.WalFrame.{frame_length, page_number, commit_size}
use Rattle.wal_frames.specs.ValidPrefix.{valid_frames}
use Rattle.wal_frames.specs.Marks.{end_of, mark_of, place_of, last_mark_of}
use Rattle.wal_frames.specs.View.{frames_up_to}
use Rattle.wal_frames.specs.Scanned.{Scanned, HasTaken}
use Rattle.live_gate.specs.Legal.{NoneCommits}
use Rattle.snapshot_read.specs.Offsets.{AreOffsets, AreWithinLimit}
use Rattle.snapshot_read.specs.PageOffsets.{Offsets}
use Rattle.wal_follow.specs.Offset.{offset_limit}
use Rattle.wal_follow.specs.declared.gathering.Gathering.{Gathering}
use Rattle.wal_follow.specs.declared.gathering.PageOffset.{PageOffset}

-- where the pages of these frames stand, the first of which begins at `start`
abbrev pub offsets_of : WalHeader → ℕ → List (List ℕ) → List PageOffset
offsets_of h start [] = []
offsets_of h start (frame ∷ frames) =
    record { number = page_number frame; at = start + 24 } ∷ offsets_of h (start + frame_length h) frames

abbrev pub is_place : Option Place → Place → Bool
is_place None place = false
is_place (Some wanted) place = is_same_place wanted place

-- the least number of pages since the place with a commit more
abbrev pub least_with : Option ℕ → Bool → ℕ → Option ℕ
least_with (Some least) here commit = Some (min least commit)
least_with None true commit = Some commit
least_with None false commit = None

-- The least number of pages since the mark of the place, once it is among those of the frames.
abbrev pub least_since : WalHeader → Option Place → Option ℕ → List (List ℕ) → List (List ℕ) → Option ℕ
least_since h place least before [] = least
least_since h place least before (frame ∷ frames) =
    least_since h place
    (if commit_size frame == 0 then least
    else least_with least (is_place place (place_of (mark_of h before frame))) (commit_size frame))
    (before ++ frame ∷ []) frames

-- Of the frames of this log, those behind the first `base` ones were gathered.
pub record HasGathered (base : ℕ) (initial : Option ℕ) (g : Gathering) (log : List ℕ) : Type 0 where
  pub taken : HasTaken g.scan log
  pub earlier : List (List ℕ)
  pub since : List (List ℕ)
  pub behind : List (List ℕ)
  pub frames : valid_frames log ≡ (earlier ++ since) ++ behind
  pub many : length earlier ≡ base
  pub newer : AreOffsets g.scan.head g.newer.offsets (end_of g.scan.head earlier) since
  pub pending : g.pending.items ≡ offsets_of g.scan.head (end_of g.scan.head (earlier ++ since)) behind
  pub none : NoneCommits behind
  pub least : g.least ≡ least_since g.scan.head g.place initial earlier since
  pub at_mark : (q : Mark) → last_mark_of log ≡ Some q → frames_up_to g.scan.head q ≡ length (earlier ++ since)
  pub unmarked : last_mark_of log ≡ None → earlier ++ since ≡ []

-- nothing is gathered yet
pub record Begins (g : Gathering) (scan : Scanned) (place : Option Place) (least : Option ℕ) : Type 0 where
  pub is_scan : g.scan ≡ scan
  pub is_place : g.place ≡ place
  pub is_least : g.least ≡ least
  pub newer : g.newer.offsets ≡ empty
  pub pending : g.pending.items ≡ []

-- the header and the place that is looked for stay
pub record KeepsBase (old new : Gathering) : Type 0 where
  pub head : new.scan.head ≡ old.scan.head
  pub place : new.place ≡ old.place
  -- no offset comes near the greatest number
  pub within : AreWithinLimit 65536 old.newer.offsets → AreWithinLimit 65536 new.newer.offsets

-- the offsets of these pages put in, one after the other
abbrev pub put_all : Offsets → List PageOffset → Offsets
put_all offsets [] = offsets
put_all offsets (page ∷ pages) = put_all (insert offsets page.number page.at) pages

-- The pages behind the last mark were put in.
pub record Commits (old new : Gathering) : Type 0 where
  pub newer : new.newer.offsets ≡ put_all old.newer.offsets old.pending.items
  pub pending : new.pending.items ≡ []
  pub least : new.least ≡ old.least
  pub place : new.place ≡ old.place

-- where the page of a frame stands that ends there
abbrev pub frame_offset : ℕ → ℕ → ℕ → PageOffset
frame_offset number end size = record { number = number; at = min (end - size) offset_limit }

-- what a frame that doesn't commit adds, and one that does, where the scan has taken it
abbrev pub AddsFrame : ℕ → ℕ → ℕ → Gathering → Gathering → Type 0
AddsFrame number zero end old new =
    (new.pending.items ≡ old.pending.items ++ frame_offset number end old.scan.head.size ∷ [])
    × (new.newer.offsets ≡ old.newer.offsets) × (new.least ≡ old.least)
AddsFrame number (suc commit) end old new =
    (new.newer.offsets
    ≡ put_all old.newer.offsets
    (old.pending.items ++ frame_offset number end old.scan.head.size ∷ []))
    × (new.pending.items ≡ [])
    × ((log : List ℕ) (q : Mark) → HasTaken old.scan log → last_mark_of log ≡ Some q
    → new.least ≡ least_with old.least (is_place old.place (place_of q)) (suc commit))
