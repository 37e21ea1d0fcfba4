-- What the view is: its length, its pages, and what it depends on.
use Rattle.std.specs.Prelude.{◌≡◌, ◌≢◌, ℕ, ◌-◌, ◌*◌, ◌≤◌, ◌<◌, Some, None, Ok}
use Rattle.std.specs.Prelude.{List, length, take, drop, replicate, ◌++◌}
use Rattle.std.specs.Simd.{first_chunks}
use Rattle.ls_base.specs.PageSize.{IsPageSize, lock_page}
use Rattle.ls_base.specs.State.{IsState, page_of}
use Rattle.ls_base.specs.declared.mark.Mark.{Mark}
use Rattle.wal_frames.specs.declared.header.WalHeader.{WalHeader}
use Rattle.wal_frames.specs.WalFormat.{read_header}
use Rattle.wal_frames.specs.WalFrame.{frame_length}
use Rattle.wal_frames.specs.ValidPrefix.{valid_frames}
use Rattle.wal_frames.specs.Marks.{IsMark}
use Rattle.wal_frames.specs.View.{frames_up_to, frames_to, page_at_mark, view_at, file_pages, view_at_rest}

-- ---- at a mark

-- the view is a state of the header's page size, with as many pages as the mark says
pub record IsView (h : WalHeader) (file log : List ℕ) (mark : Mark) : Type 0 where
  pub is_state : IsState (view_at file log mark)
  pub size : (view_at file log mark).page_size ≡ Some h.size
  pub many : length (view_at file log mark).pages ≡ mark.commit
  pub each : (p : ℕ) → 1 ≤ p → p ≤ mark.commit
      → page_of (view_at file log mark) p ≡ Some (page_at_mark h file (valid_frames log) mark p)
  pub none : (p : ℕ) → mark.commit < p → page_of (view_at file log mark) p ≡ None

abbrev pub ViewAtMark : Type 0
ViewAtMark =
    (file log : List ℕ) (h : WalHeader) (mark : Mark) → read_header log ≡ Ok h → IsView h file log mark

-- it depends on the frames up to the mark alone: two logs with the same bytes up to there have one view
abbrev pub ViewByTheFront : Type 0
ViewByTheFront =
    (file a b : List ℕ) (mark : Mark) → IsMark a mark → take mark.end a ≡ take mark.end b
    → view_at file a mark ≡ view_at file b mark

-- the frames up to a mark are the first pieces of the log behind its header
abbrev pub FramesToMark : Type 0
FramesToMark =
    (log : List ℕ) (h : WalHeader) (mark : Mark) → read_header log ≡ Ok h → IsMark log mark
    → frames_to h (valid_frames log) mark ≡ first_chunks (frame_length h) (frames_up_to h mark) (drop 32 log)

-- ---- at rest

-- the database file with zeros behind it, up to the end of its last page
abbrev pub padded : ℕ → List ℕ → List ℕ
padded size file = file ++ replicate (file_pages size file * size - length file) 0

-- the view is a state of this page size, and each page but the lock page is that of the padded file
pub record IsRestView (size : ℕ) (file : List ℕ) : Type 0 where
  pub is_state : IsState (view_at_rest size file)
  pub many : length (view_at_rest size file).pages ≡ file_pages size file
  pub fits : length file ≤ file_pages size file * size
  pub each : (p : ℕ) → 1 ≤ p → p ≤ file_pages size file → p ≢ lock_page size
      → page_of (view_at_rest size file) p ≡ Some (take size (drop ((p - 1) * size) (padded size file)))
  pub none : (p : ℕ) → file_pages size file < p → page_of (view_at_rest size file) p ≡ None

abbrev pub ViewAtRest : Type 0
ViewAtRest = (size : ℕ) (file : List ℕ) → IsPageSize size → IsRestView size file
