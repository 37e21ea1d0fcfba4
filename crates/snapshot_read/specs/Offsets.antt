-- Where the pages of a log stand, and the page of a view that a map of offsets gives.
use Rattle.std.specs.Prelude.{◌≡◌, ℕ, ◌+◌, ◌^◌, ◌<◌, ◌≤◌, ◌==◌, if◌then◌else◌, Option, Some, None, unwrap_or}
use Rattle.std.specs.Prelude.{List, [], ◌∷◌, length, take, drop}
use Rattle.std.specs.Option.{option_or, option_map}
use Rattle.std.specs.FinMap.{get}
use Rattle.wal_frames.specs.declared.header.WalHeader.{WalHeader}
use Rattle.wal_frames.specs.WalFrame.{frame_length, page_number}
use Rattle.wal_frames.specs.View.{unless_locked, file_page}
use Rattle.snapshot_read.specs.PageOffsets.{Offsets}

-- ---- frames

-- the offset of the page of the last of the frames with this number, where the first frame begins at `start`
abbrev pub offset_in : WalHeader → ℕ → ℕ → List (List ℕ) → Option ℕ
offset_in h number start [] = None
offset_in h number start (frame ∷ frames) =
    option_or (offset_in h number (start + frame_length h) frames)
    (if page_number frame == number then Some (start + 24) else None)

-- The map has, for each number, the offset of the page of its last frame. The first of the frames begins at `start`.
pub record AreOffsets (h : WalHeader) (offsets : Offsets) (start : ℕ) (frames : List (List ℕ)) : Type 0 where
  pub each : (number : ℕ) → get offsets number ≡ offset_in h number start frames

-- ---- pages

-- so many bytes of a log from an offset on
abbrev pub log_page : ℕ → List ℕ → ℕ → List ℕ
log_page size log at = take size (drop at log)

-- The page of this number by a map: zeros at the lock page's number, else the log's bytes at the number's offset, else
-- the page of the database file.
abbrev pub mapped_page : ℕ → List ℕ → List ℕ → Offsets → ℕ → List ℕ
mapped_page size file log offsets number =
    unless_locked size number
    (unwrap_or (option_map (log_page size log) (get offsets number)) (file_page size file number))

-- the offset of each page and the page size make a number of 64 bits
abbrev pub AreWithinLimit : ℕ → Offsets → Type 0
AreWithinLimit size offsets = (number at : ℕ) → get offsets number ≡ Some at → at + size < 2 ^ 64

-- the page of this number, where the map has it, lies within the log
abbrev pub LiesWithin : ℕ → List ℕ → Offsets → ℕ → Type 0
LiesWithin size log offsets number = (at : ℕ) → get offsets number ≡ Some at → at + size ≤ length log
