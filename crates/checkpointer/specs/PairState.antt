-- The state of a database file and its log, as a pair of files.
use Rattle.std.specs.Prelude.{◌≡◌, ◌≢◌, ℕ, ◌*◌, ◌≤◌, List, [], ◌∷◌, length, Option, Some, None, unwrap_or}
use Rattle.std.specs.FinMap.{get}
use Rattle.ls_base.specs.PageSize.{lock_page}
use Rattle.ls_base.specs.State.{State}
use Rattle.ls_base.specs.declared.mark.Mark.{Mark}
use Rattle.crash_disk.specs.declared.event.Event.{Event}
use Rattle.crash_disk.specs.Files.{Files, files_after, IsThere}
use Rattle.crash_disk.specs.Numbers.{number_at, numbers_at}
use Rattle.crash_disk.specs.Images.{IsCrashImage, WasCrashImageSince}
use Rattle.wal_frames.specs.WalFormat.{read_header}
use Rattle.wal_frames.specs.ValidPrefix.{if_accepted, valid_frames}
use Rattle.wal_frames.specs.Marks.{last_mark_of}
use Rattle.wal_frames.specs.View.{frames_to, frames_page, view_at, view_at_rest}

-- the page size in the header of a log, and 512 where no header is accepted
abbrev pub log_page_size : List ℕ → ℕ
log_page_size log = if_accepted (read_header log) (λ h. h.size) 512

-- the view at this mark, or at rest where there is none
abbrev pub view_by : ℕ → List ℕ → List ℕ → Option Mark → State
view_by size file log None = view_at_rest size file
view_by size file log (Some mark) = view_at file log mark

-- The state of a pair of files: the view at the log's last mark, else the database file cut by this page size.
unfoldable pub state_of_pair : ℕ → List ℕ → List ℕ → State
state_of_pair size file log = view_by size file log (last_mark_of log)

-- ---- the two files of a disk

-- the bytes under a name; an absent name counts as no bytes
abbrev pub bytes_in : Files → List ℕ → List ℕ
bytes_in files name = unwrap_or (get files name) []

abbrev pub bytes_at : List Event → List ℕ → List ℕ
bytes_at events name = bytes_in (files_after events) name

abbrev pub state_in : ℕ → List ℕ → List ℕ → Files → State
state_in size db wal files = state_of_pair size (bytes_in files db) (bytes_in files wal)

-- a file is there, and no change of its name came since the names were synced
pub record IsNamed (events : List Event) (name : List ℕ) : Type 0 where
  pub there : IsThere events name
  pub synced : numbers_at events name ≡ number_at events name ∷ []

pub record AreNamed (events : List Event) (db wal : List ℕ) : Type 0 where
  pub database : IsNamed events db
  pub log : IsNamed events wal

-- ---- what a crash leaves of the pair

-- a crash at any moment since left a state that a crash would have left before
abbrev pub StatesWere : ℕ → List ℕ → List ℕ → List Event → List Event → Type 0
StatesWere size db wal before now =
    (image : Files) → WasCrashImageSince now (length before) image
    → (old : Files) × IsCrashImage before old × (state_in size db wal image ≡ state_in size db wal old)

-- a crash now leaves this state
abbrev pub LeavesState : ℕ → List ℕ → List ℕ → List Event → State → Type 0
LeavesState size db wal events state = (image : Files) → IsCrashImage events image → state_in size db wal image ≡ state

-- a page of the view at a mark that the database file has to give: no frame up to the mark has it
pub record IsFromFile (log : List ℕ) (mark : Mark) (p : ℕ) : Type 0 where
  pub from : 1 ≤ p
  pub upto : p ≤ mark.commit
  pub unlocked : p ≢ lock_page (log_page_size log)
  pub unframed : if_accepted (read_header log) (λ h. frames_page p (frames_to h (valid_frames log) mark)) None ≡ None

-- each page that the log's last mark leaves to the database file is whole in what a crash leaves of that
abbrev pub ArePagesWhole : List ℕ → List ℕ → List Event → Type 0
ArePagesWhole db wal events =
    (mark : Mark) → last_mark_of (bytes_at events wal) ≡ Some mark → (p : ℕ) → IsFromFile (bytes_at events wal) mark p
    → (image : Files) → IsCrashImage events image → p * log_page_size (bytes_at events wal) ≤ length (bytes_in image db)
