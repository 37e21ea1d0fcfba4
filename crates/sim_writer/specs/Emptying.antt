-- A log that ceases to have a commit.
use Rattle.std.specs.Prelude.{◌≡◌, ℕ, ◌+◌, ◌*◌, ◌%◌, ◌^◌, ◌≤◌, ◌⊎◌, Bool, true, false, List, [], ◌∷◌, ◌++◌, length, drop}
use Rattle.std.specs.Prelude.{Some, None}
use Rattle.ls_base.specs.declared.mark.Mark.{Mark}
use Rattle.ls_base.specs.declared.entry.Entry.{Entry}
use Rattle.wal_frames.specs.declared.header.WalHeader.{WalHeader}
use Rattle.wal_frames.specs.WalFormat.{HasFields, HasSums, wal_header_bytes}
use Rattle.wal_frames.specs.Marks.{last_mark_of}
use Rattle.live_gate.specs.Moves.{Restarts}
use Rattle.sim_writer.specs.declared.machine.Machine.{Machine}
use Rattle.sim_writer.specs.Commits.{counted}
use Rattle.sim_writer.specs.Sound.{database_of, log_of}
use Rattle.sim_writer.specs.Twins.{HasTwin, HasNoTwin}

-- there is a mark, all is copied, the file has exactly the pages of the last mark's size, and the gate isn't held
pub record CanEmpty (m : Machine) : Type 0 where
  pub mark : Mark
  pub last : last_mark_of m.committed ≡ Some mark
  pub copied : m.copied ≡ mark.end
  pub file : length m.file ≡ mark.commit * m.head.size
  pub free : m.held ≡ None

-- one more, of numbers of 32 bits
abbrev pub next_number : ℕ → ℕ
next_number n = (n + 1) % 2 ^ 32

-- the header behind that one: the number of the checkpoint and the first salt are one more
pub record IsNextHead (salt2 : ℕ) (old new : WalHeader) : Type 0 where
  pub fields : HasFields new old.order old.size (next_number old.seq) (next_number old.salt1) salt2
  pub sums : HasSums new

-- the machine with this entry at rest, behind a log of which this stands behind no mark
abbrev pub emptied : WalHeader → List ℕ → Bool → Entry → ℕ → Machine → Machine
emptied head tail headed entry chances m = record m {
  history = m.history ++ entry ∷ [];
  before_log = length m.history;
  committed = [];
  tail = tail;
  over = 0;
  headed = headed;
  head = head;
  sums = record { s0 = head.s0; s1 = head.s1 };
  copied = 0;
  chances = chances;
}

-- the log is left with these bytes behind no mark, and the entry came
pub record Empties (entry : Entry) (head : WalHeader) (tail : List ℕ) (headed : Bool) (old new : Machine) : Type 0 where
  pub twins : (HasNoTwin old.history entry × (new.chances ≡ old.chances))
      ⊎ (HasTwin old.history entry × (new.chances ≡ counted old.chances))
  pub later : old.chances ≤ new.chances
  pub is : new ≡ emptied head tail headed entry new.chances old

-- The log ceased to have a commit, and its next header has this second salt. The file is as it was.
pub record Renews (salt2 : ℕ) (old new : Machine) : Type 0 where
  pub restarts : Restarts (database_of old) (database_of new)
  pub head : IsNextHead salt2 old.head new.head
  pub file : new.file ≡ old.file
  pub refuses : new.refuses ≡ old.refuses

-- the next header was written over the one of the log, and the bytes behind it stayed
pub record BeginsAnew (salt2 : ℕ) (old new : Machine) : Type 0 where
  pub renews : Renews salt2 old new
  pub log : log_of new ≡ wal_header_bytes new.head ++ drop 32 (log_of old)
  pub headed : new.headed ≡ true

-- a log of no bytes is left, and the next one keeps the second salt
pub record CutsLog (old new : Machine) : Type 0 where
  pub renews : Renews old.head.salt2 old new
  pub log : log_of new ≡ []
  pub headed : new.headed ≡ false
