-- What stands in the database file.
use Rattle.std.specs.Prelude.{◌≡◌, ◌≢◌, ℕ, ◌≤◌, List, [], ◌∷◌, unwrap_or}
use Rattle.ls_base.specs.PageSize.{lock_page}
use Rattle.ls_base.specs.declared.mark.Mark.{Mark}
use Rattle.wal_frames.specs.declared.header.WalHeader.{WalHeader}
use Rattle.wal_frames.specs.WalFrame.{page_number, frame_page}
use Rattle.wal_frames.specs.ValidPrefix.{valid_frames}
use Rattle.wal_frames.specs.Marks.{IsMark}
use Rattle.wal_frames.specs.View.{frames_to, frames_page, file_page}
use Rattle.sim_writer.specs.CommitFrames.{SaysSize}

-- each frame of page 1 says no other page size
abbrev pub FramesSay : ℕ → List (List ℕ) → Type 0
FramesSay size [] = Unit {0}
FramesSay size (frame ∷ frames) = (page_number frame ≡ 1 → SaysSize size (frame_page frame)) × FramesSay size frames

-- each page of the mark that has a frame up to it stands in the file
pub record IsCopiedTo (h : WalHeader) (file committed : List ℕ) (mark : Mark) : Type 0 where
  pub page : (p : ℕ) → 1 ≤ p → p ≤ mark.commit → p ≢ lock_page h.size
      → file_page h.size file p
      ≡ unwrap_or (frames_page p (frames_to h (valid_frames committed) mark)) (file_page h.size file p)

-- The file has the frames up to the copied mark. It says no other page size, and so does each frame of the log.
pub record HasFile (h : WalHeader) (file committed : List ℕ) (copied : ℕ) : Type 0 where
  pub says : SaysSize h.size (file_page h.size file 1)
  pub frames_say : FramesSay h.size (valid_frames committed)
  pub stands : (mark : Mark) → IsMark committed mark → mark.end ≡ copied → IsCopiedTo h file committed mark
