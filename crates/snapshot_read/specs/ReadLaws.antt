-- The page that a map gives is the view's, and the sum of the file's pages is the place of its view.
use Rattle.std.specs.Prelude.{◌≡◌, ℕ, ◌≤◌, List, Some, Ok}
use Rattle.ls_base.specs.State.{page_of}
use Rattle.ls_base.specs.declared.mark.Mark.{Mark}
use Rattle.wal_frames.specs.declared.header.WalHeader.{WalHeader}
use Rattle.wal_frames.specs.WalFormat.{read_header}
use Rattle.wal_frames.specs.ValidPrefix.{valid_frames}
use Rattle.wal_frames.specs.Marks.{IsMark}
use Rattle.wal_frames.specs.View.{frames_to, view_at, file_pages, rest_place}
use Rattle.snapshot_read.specs.PageOffsets.{Offsets}
use Rattle.snapshot_read.specs.Offsets.{AreOffsets, LiesWithin, mapped_page}
use Rattle.snapshot_read.specs.Resting.{place_of_pages}

-- the offsets of the frames of a log up to a mark
abbrev pub AreOffsetsTo : List ℕ → WalHeader → Mark → Offsets → Type 0
AreOffsetsTo log h mark offsets = AreOffsets h offsets 32 (frames_to h (valid_frames log) mark)

-- By those offsets each page is the view's at the mark, ..
abbrev pub MappedPagesAreTheView : Type 0
MappedPagesAreTheView =
    (file log : List ℕ) (h : WalHeader) (mark : Mark) (offsets : Offsets) (number : ℕ) → read_header log ≡ Ok h
    → IsMark log mark → AreOffsetsTo log h mark offsets → 1 ≤ number → number ≤ mark.commit
    → page_of (view_at file log mark) number ≡ Some (mapped_page h.size file log offsets number)

-- .. and each lies before the mark's end.
abbrev pub MappedPagesLieWithin : Type 0
MappedPagesLieWithin =
    (log : List ℕ) (h : WalHeader) (mark : Mark) (offsets : Offsets) (number : ℕ) → read_header log ≡ Ok h
    → IsMark log mark → AreOffsetsTo log h mark offsets → LiesWithin h.size log offsets number

-- as many pages as the file has make the place of its view
abbrev pub RestIsTheView : Type 0
RestIsTheView = (size : ℕ) (file : List ℕ) → place_of_pages size (file_pages size file) file ≡ rest_place size file
