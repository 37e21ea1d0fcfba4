-- What `restart` leaves: as read, and in what a crash leaves.
use Rattle.std.specs.Prelude.{◌≡◌, ◌≢◌, ℕ, ◌<◌, List, [], Some, Ok, Err, Result}
use Rattle.crash_disk.specs.declared.event.Event.{Event}
use Rattle.crash_disk.specs.Files.{Files, files_after, file_at}
use Rattle.crash_disk.specs.Images.{IsCrashImage}
use Rattle.wal_frames.specs.WalFormat.{read_header}
use Rattle.wal_frames.specs.Marks.{IsMark, last_mark_of}
use Rattle.wal_frames.specs.View.{view_at, view_at_rest}
use Rattle.checkpointer.specs.declared.fault.RestartFault.{RestartFault}
use Rattle.checkpointer.specs.declared.fault.RestartFault.TheVariants.{Disk, Grown}
use Rattle.checkpointer.specs.CopiedState.{CopiedState}
use Rattle.checkpointer.specs.PairState.{bytes_at, bytes_in, state_in, AreNamed, StatesWere, LeavesState}

-- The log still has what was copied: its header, and the mark with its salts and sums. Where the mark is the last
-- one, the database file alone has the view at it, as read and in what a crash leaves.
pub record MayRestart (db wal : List ℕ) (copied : CopiedState) (events : List Event) : Type 0 where
  pub named : AreNamed events db wal
  pub head : read_header (bytes_at events wal) ≡ Ok copied.head
  pub is_mark : IsMark (bytes_at events wal) copied.mark
  pub alone : last_mark_of (bytes_at events wal) ≡ Some copied.mark → (image : Files) → IsCrashImage events image
      → view_at_rest copied.head.size (bytes_in image db)
      ≡ view_at (bytes_at events db) (bytes_at events wal) copied.mark

pub record KeepsAllBut (wal : List ℕ) (before now : List Event) : Type 0 where
  pub others : (q : List ℕ) → q ≢ wal → file_at now q ≡ file_at before q

-- the log is empty, as read and in what a crash leaves, and the state is the one as read before
pub record HasRestarted (db wal : List ℕ) (copied : CopiedState) (before now : List Event) : Type 0 where
  pub was_last : last_mark_of (bytes_at before wal) ≡ Some copied.mark
  pub emptied : file_at now wal ≡ Some []
  pub empty : (image : Files) → IsCrashImage now image → bytes_in image wal ≡ []
  pub state : LeavesState copied.head.size db wal now (state_in copied.head.size db wal (files_after before))

-- what each answer means
abbrev pub Restarts : List ℕ → List ℕ → CopiedState → {T : Type 0} → Result T RestartFault → List Event → List Event
    → Type 0
Restarts db wal copied (Ok done) before now =
    KeepsAllBut wal before now × StatesWere copied.head.size db wal before now × HasRestarted db wal copied before now
Restarts db wal copied (Err (Grown last)) before now =
    (now ≡ before) × (last_mark_of (bytes_at before wal) ≡ Some last) × (copied.mark.end < last.end)
Restarts db wal copied (Err (Disk fault)) before now =
    KeepsAllBut wal before now × StatesWere copied.head.size db wal before now
