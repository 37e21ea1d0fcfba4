-- What a live database that never moves tells.
use Rattle.std.specs.Prelude.{ℕ, List, [], ◌∷◌, length, take, drop, map, Bool, true, false, Option, Some, None}
use Rattle.std.specs.Prelude.{option_map, if◌then◌else◌}
use Rattle.ls_base.specs.declared.entry.Entry.{Entry}
use Rattle.ls_base.specs.declared.mark.Mark.{Mark}
use Rattle.ls_base.specs.History.{History}
use Rattle.ls_base.specs.PageSize.{is_page_size}
use Rattle.db_page.specs.DatabaseHeader.{page_size_field, page_size_of}
use Rattle.wal_frames.specs.Marks.{marks_of, committed_part, place_of}
use Rattle.wal_frames.specs.View.{view_at, view_at_rest, rest_place}
use Rattle.wal_frames.specs.WalFormat.{read_header}
use Rattle.wal_frames.specs.ValidPrefix.{if_accepted}
use Rattle.live_gate.specs.LiveRecord.{Database, Asked, LiveRecord, Attachment}

-- what it holds, and what it was asked
pub record StillState : Type 0 where
  pub db : List ℕ
  pub wal : List ℕ
  pub attached : Option Attachment
  pub held : Option ℕ
  pub aimed : ℕ
  -- how many bytes were answered since the aim
  pub answered : ℕ
  pub gave_none : Bool
  -- whether each was asked
  pub head : Bool
  pub db_size : Bool
  pub wal_size : Bool
  pub taken : ℕ
  pub passes : ℕ

-- the page size of a log's header; 512 where that isn't accepted
abbrev pub log_page_size : List ℕ → ℕ
log_page_size log = if_accepted (read_header log) (λ h. h.size) 512

-- the page size that the header of a database file says; 512 where that is none
abbrev pub file_page_size : List ℕ → ℕ
file_page_size db = let size = page_size_of (page_size_field (take 100 db)) in if is_page_size size then size else 512

-- the entry of a mark is the view there
abbrev pub still_entry : List ℕ → List ℕ → Mark → Entry
still_entry db log mark =
    record { size = log_page_size log; place = place_of mark; pages = (view_at db log mark).pages }

-- the entry of the database file alone
abbrev pub still_rest : List ℕ → Entry
still_rest db = record {
  size = file_page_size db;
  place = rest_place (file_page_size db) db;
  pages = (view_at_rest (file_page_size db) db).pages;
}

-- The history of a database with this log: one entry a mark, and where there is none the one at rest
abbrev pub history_of_marks : List ℕ → List ℕ → List Mark → History
history_of_marks db log [] = still_rest db ∷ []
history_of_marks db log (mark ∷ marks) = map (still_entry db log) (mark ∷ marks)

unfoldable pub still_history : List ℕ → List ℕ → History
still_history db log = history_of_marks db log (marks_of log)

-- Nothing is copied, and it refuses each pass.
abbrev pub still_database : List ℕ → List ℕ → Option ℕ → Database
still_database db wal held = record {
  history = still_history db (committed_part wal);
  committed = committed_part wal;
  file = db;
  copied = 0;
  held = held;
  refuses = true;
  stopped = false;
  chances = 0;
}

-- a value that was asked for, or none
abbrev pub if_asked : {A : Type 0} → Bool → A → Option A
if_asked true value = Some value
if_asked false value = None

abbrev pub still_asked : StillState → Asked
still_asked s = record {
  aimed = s.aimed;
  answered = take s.answered (drop s.aimed s.wal);
  gave_none = s.gave_none;
  head = if_asked s.head (take 100 s.db);
  db_size = if_asked s.db_size (length s.db);
  wal_size = if_asked s.wal_size (length s.wal);
  taken = s.taken;
  passes_asked = s.passes;
  passes_done = 0;
}

abbrev pub still_record : StillState → LiveRecord
still_record s = record { database = still_database s.db s.wal s.held; asked = still_asked s }

abbrev pub attachment_of : Option (List ℕ) → Bool → Option Attachment
attachment_of path at_rest = option_map (λ at. record { path = at; at_rest = at_rest }) path

-- two lists of bytes of which nothing was asked
abbrev pub unasked : List ℕ → List ℕ → StillState
unasked db wal = record {
  db = db;
  wal = wal;
  attached = None;
  held = None;
  aimed = 0;
  answered = 0;
  gave_none = false;
  head = false;
  db_size = false;
  wal_size = false;
  taken = 0;
  passes = 0;
}
