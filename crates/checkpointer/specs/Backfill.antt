-- What `backfill` leaves: as read, and in what a crash leaves.
use Rattle.std.specs.Prelude.{◌≡◌, ◌≢◌, ℕ, ◌*◌, ◌<◌, ◌≤◌, max, List, length, Some, Ok, Err, Result}
use Rattle.ls_base.specs.PageSize.{lock_page}
use Rattle.ls_base.specs.declared.mark.Mark.{Mark}
use Rattle.crash_disk.specs.declared.event.Event.{Event}
use Rattle.crash_disk.specs.Files.{Files, files_after, file_at}
use Rattle.crash_disk.specs.Images.{IsCrashImage}
use Rattle.wal_frames.specs.declared.header.WalHeader.{WalHeader}
use Rattle.wal_frames.specs.WalFormat.{read_header}
use Rattle.wal_frames.specs.ValidPrefix.{valid_frames}
use Rattle.wal_frames.specs.Marks.{IsMark, last_mark_of}
use Rattle.wal_frames.specs.View.{file_page, page_at_mark, view_at, view_at_rest}
use Rattle.checkpointer.specs.declared.fault.BackfillFault.{BackfillFault}
use Rattle.checkpointer.specs.declared.fault.BackfillFault.TheVariants.{Disk, NotMark, Memory}
use Rattle.checkpointer.specs.CopiedState.{CopiedState}
use Rattle.checkpointer.specs.PairState.{bytes_at, bytes_in, log_page_size, state_in, AreNamed}
use Rattle.checkpointer.specs.PairState.{StatesWere, LeavesState, ArePagesWhole}

-- every other file, and the log, are as they were
pub record KeepsOthers (db : List ℕ) (before now : List Event) : Type 0 where
  pub others : (q : List ℕ) → q ≢ db → file_at now q ≡ file_at before q

-- what holds at each exit: the state reads as before, and a stop since loses nothing
pub record KeepsStates (db wal : List ℕ) (before now : List Event) : Type 0 where
  pub as_read : state_in (log_page_size (bytes_at before wal)) db wal (files_after now)
      ≡ state_in (log_page_size (bytes_at before wal)) db wal (files_after before)
  pub others : KeepsOthers db before now
  pub named : AreNamed before db wal → AreNamed now db wal
  pub at_any_stop : ArePagesWhole db wal before → StatesWere (log_page_size (bytes_at before wal)) db wal before now

-- The mark is one of the log's, with its header. Each page of the view at it stands in the database file, where the
-- lock page is as it was.
pub record IsCopied (h : WalHeader) (mark : Mark) (file log now : List ℕ) : Type 0 where
  pub head : read_header log ≡ Ok h
  pub is_mark : IsMark log mark
  pub pages : (p : ℕ) → 1 ≤ p → p ≤ mark.commit → p ≢ lock_page h.size
      → file_page h.size now p ≡ page_at_mark h file (valid_frames log) mark p
  pub locked : lock_page h.size ≤ mark.commit
      → file_page h.size now (lock_page h.size) ≡ file_page h.size file (lock_page h.size)
  -- a page behind the mark's size is as it was, where the mark isn't the last one
  pub behind : last_mark_of log ≢ Some mark → (p : ℕ) → mark.commit < p
      → file_page h.size now p ≡ file_page h.size file p
  -- at the last mark the file gets the length of the view; before it, it grows to that, and is never cut
  pub last : last_mark_of log ≡ Some mark → length now ≡ mark.commit * h.size
  pub not_last : last_mark_of log ≢ Some mark → length now ≡ max (length file) (mark.commit * h.size)

pub record HasBackfilled (db wal : List ℕ) (upto : ℕ) (copied : CopiedState) (before now : List Event) : Type 0 where
  pub end : copied.mark.end ≡ upto
  pub is_copied : IsCopied copied.head copied.mark (bytes_at before db) (bytes_at before wal) (bytes_at now db)
  -- from now on a crash leaves the state as read before
  pub state : LeavesState copied.head.size db wal now (state_in copied.head.size db wal (files_after before))
  -- and where the mark is the last, the file alone has it
  pub alone : last_mark_of (bytes_at before wal) ≡ Some copied.mark → (image : Files) → IsCrashImage now image
      → view_at_rest copied.head.size (bytes_in image db) ≡ view_at (bytes_at now db) (bytes_at now wal) copied.mark

-- what each answer means
abbrev pub Backfills : List ℕ → List ℕ → ℕ → Result CopiedState BackfillFault → List Event → List Event → Type 0
Backfills db wal upto (Ok copied) before now =
    KeepsStates db wal before now × HasBackfilled db wal upto copied before now
Backfills db wal upto (Err NotMark) before now =
    KeepsStates db wal before now × ((mark : Mark) → IsMark (bytes_at before wal) mark → mark.end ≢ upto)
    × (files_after now ≡ files_after before)
Backfills db wal upto (Err Memory) before now = KeepsStates db wal before now × (files_after now ≡ files_after before)
Backfills db wal upto (Err (Disk fault)) before now = KeepsStates db wal before now
