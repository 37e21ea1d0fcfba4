-- What the writer's database and log always are.
use Rattle.std.specs.Prelude.{◌≡◌, ◌≢◌, ℕ, ◌+◌, ◌-◌, ◌≤◌, List, [], ◌∷◌, ◌++◌, length, take, drop, map, Option, Some}
use Rattle.std.specs.Prelude.{None}
use Rattle.std.specs.Prelude.{true, false, unwrap_or}
use Rattle.std.specs.List.{range_with_len, slice_get}
use Rattle.ls_base.specs.declared.mark.Mark.{Mark}
use Rattle.ls_base.specs.declared.entry.Entry.{Entry}
use Rattle.ls_base.specs.History.{History, state_of}
use Rattle.ls_base.specs.PageSize.{IsPageSize}
use Rattle.ls_base.specs.State.{State}
use Rattle.db_page.specs.DatabaseHeader.{IsWalDatabase, page_size_field, page_size_of}
use Rattle.ls_sums.specs.declared.wal_sum.WalSum.{WalSum}
use Rattle.wal_frames.specs.declared.header.WalHeader.{WalHeader}
use Rattle.wal_frames.specs.WalFormat.{HasSums, wal_header_bytes}
use Rattle.wal_frames.specs.ValidPrefix.{valid_frames}
use Rattle.wal_frames.specs.Marks.{marks_of, last_mark_of}
use Rattle.wal_frames.specs.View.{frames_page, file_page, unless_locked, view_at_rest, rest_place}
use Rattle.wal_frames.specs.Scanned.{Scanned, HasTaken}
use Rattle.live_gate.specs.LiveRecord.{Database}
use Rattle.live_gate.specs.Legal.{IsLegal, last_state}
use Rattle.sim_writer.specs.declared.machine.Machine.{Machine}
use Rattle.sim_writer.specs.InFile.{HasFile}

-- what is told of the database
abbrev pub database_of : Machine → Database
database_of m = record {
  history = m.history;
  committed = m.committed;
  file = m.file;
  copied = m.copied;
  held = m.held;
  refuses = m.refuses;
  stopped = m.stopped;
  chances = m.chances;
}

-- the bytes of the log behind its committed part, and the whole log
abbrev pub tail_of : Machine → List ℕ
tail_of m = drop m.over m.tail

abbrev pub log_of : Machine → List ℕ
log_of m = m.committed ++ tail_of m

-- ---- the log

-- a scan that has taken a log which ends with its last valid frame
abbrev pub standing : WalHeader → WalSum → Option Mark → List ℕ → Scanned
standing h sums last log = record {
  head = h;
  taken = length log - 32;
  end = length log;
  sums = sums;
  held = [];
  last = last;
  stopped = None;
}

-- all frames of the log are valid, and these are the sums and the last mark at its end
pub record StandsAt (h : WalHeader) (sums : WalSum) (last : Option Mark) (log : List ℕ) : Type 0 where
  pub taken : HasTaken (standing h sums last log) log

-- ---- the pages

-- one page of the state behind these frames
abbrev pub page_behind : WalHeader → List ℕ → List (List ℕ) → ℕ → List ℕ
page_behind h file frames p = unless_locked h.size p (unwrap_or (frames_page p frames) (file_page h.size file p))

-- the first pages
abbrev pub state_behind : WalHeader → List ℕ → List (List ℕ) → ℕ → State
state_behind h file frames count =
    record { page_size = Some h.size; pages = map (page_behind h file frames) (range_with_len 1 count) }

-- the state is that behind these frames
pub record IsCurrent (h : WalHeader) (file : List ℕ) (frames : List (List ℕ)) (state : Option State) : Type 0 where
  pub count : ℕ
  pub is : state ≡ Some (state_behind h file frames count)

-- the entry is that of the database file alone
pub record IsFileEntry (size : ℕ) (file : List ℕ) (entry : Entry) : Type 0 where
  pub page_size : IsPageSize size
  pub is_size : entry.size ≡ size
  pub state : state_of entry ≡ view_at_rest size file
  pub place : entry.place ≡ rest_place size file

-- so is the one at this place of the history
pub record IsRestEntry (size : ℕ) (file : List ℕ) (history : History) (at : ℕ) : Type 0 where
  pub entry : Entry
  pub found : slice_get history at ≡ Some entry
  pub is : IsFileEntry size file entry

-- The database is legal, and its last state is that of its two files, with as many pages as the last mark says. Behind
-- `before_log` the history has an entry for each mark; where nothing is copied, the one there is that of the file. The
-- header is the log's, or that of the log which the next commit begins; the sums are those at the end of the committed
-- part. A log that begins with its header has that before what stands behind no mark.
pub record IsSound (m : Machine) : Type 0 where
  pub legal : IsLegal (database_of m)
  pub sums : HasSums m.head
  pub current : IsCurrent m.head m.file (valid_frames m.committed) (last_state None m.history)
  pub counted : (mark : Mark) → last_mark_of m.committed ≡ Some mark → current.count ≡ mark.commit
  pub numbered : m.before_log + 1 + length (marks_of m.committed) ≡ length m.history
  pub rests : m.copied ≡ 0 → IsRestEntry m.head.size m.file m.history m.before_log
  pub files : HasFile m.head m.file m.committed m.copied
  pub last : Option Mark
  pub stands : m.committed ≢ [] → StandsAt m.head m.sums last m.committed
  pub begun : m.committed ≡ [] → m.sums ≡ record { s0 = m.head.s0; s1 = m.head.s1 }
  pub over : m.over ≤ length m.tail
  pub headed : m.headed ≡ true → m.committed ≡ [] → take 32 (tail_of m) ≡ wal_header_bytes m.head
  pub has_head : m.committed ≢ [] → m.headed ≡ true

-- ---- the beginning

-- the database of a file and its entry, with a log of no bytes that will begin with this header
abbrev pub fresh : WalHeader → List ℕ → Entry → Machine
fresh h file entry = record {
  history = entry ∷ [];
  before_log = 0;
  file = file;
  committed = [];
  tail = [];
  over = 0;
  headed = false;
  head = h;
  sums = record { s0 = h.s0; s1 = h.s1 };
  copied = 0;
  held = None;
  refuses = false;
  stopped = false;
  chances = 0;
}

-- the entry is that of the file, whose header says no other page size
pub record IsFresh (h : WalHeader) (file : List ℕ) (entry : Entry) : Type 0 where
  pub sums : HasSums h
  pub is : IsFileEntry h.size file entry
  pub long : 512 ≤ length file
  pub says : IsWalDatabase (take 100 file) → page_size_of (page_size_field (take 100 file)) ≡ h.size
