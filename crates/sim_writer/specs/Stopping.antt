-- A stop of the live machine.
use Rattle.std.specs.Prelude.{◌≡◌, ◌≢◌, ℕ, zero, suc, ◌-◌, ◌≤◌, ◌⊎◌, Bool, true, false, List, ◌++◌, length, take}
use Rattle.std.specs.Prelude.{Some, None}
use Rattle.std.specs.List.{slice_get}
use Rattle.ls_base.specs.declared.entry.Entry.{Entry}
use Rattle.ls_base.specs.declared.mark.Mark.{Mark}
use Rattle.ls_base.specs.History.{History}
use Rattle.ls_sums.specs.declared.wal_sum.WalSum.{WalSum}
use Rattle.wal_frames.specs.declared.header.WalHeader.{WalHeader}
use Rattle.wal_frames.specs.WalFormat.{wal_header_bytes}
use Rattle.wal_frames.specs.Marks.{marks_of, last_mark_of}
use Rattle.live_gate.specs.Stops.{FallsBack, StopsAtRest}
use Rattle.sim_writer.specs.declared.machine.Machine.{Machine}
use Rattle.sim_writer.specs.Commits.{counted}
use Rattle.sim_writer.specs.Sound.{database_of, tail_of}
use Rattle.sim_writer.specs.Twins.{HasTwin, HasNoTwin}

-- the mark of this number, from 1, is one of the log's, and not before the copied one
pub record MayKeep (number : ℕ) (m : Machine) : Type 0 where
  pub mark : Mark
  pub found : slice_get (marks_of m.committed) (number - 1) ≡ Some mark
  pub from : m.copied ≤ mark.end

-- that is so, or the number is 0 and nothing is copied
pub record CanStop (number : ℕ) (m : Machine) : Type 0 where
  pub at_none : number ≡ 0 → m.copied ≡ 0
  pub at_mark : number ≢ 0 → MayKeep number m

-- what stands behind the mark of this number: before the tail the header of the log, where all commits are lost
abbrev pub left_behind : ℕ → Bool → WalHeader → List ℕ → List ℕ
left_behind zero true h tail = wal_header_bytes h ++ tail
left_behind zero false h tail = tail
left_behind (suc n) headed h tail = tail

-- the log is kept up to the mark of this number
pub record KeepsMarks (number : ℕ) (old new : Machine) : Type 0 where
  pub falls : FallsBack (database_of old) (database_of new)
  pub many : length falls.kept ≡ number
  pub mark : Mark
  pub found : slice_get (marks_of old.committed) (number - 1) ≡ Some mark
  pub last : last_mark_of new.committed ≡ Some mark
  pub bytes : new.committed ≡ take mark.end old.committed

-- The log falls back to the mark of this number, or to nothing, and the tail stands behind what is kept. The hold is
-- given up, and the machine is stopped.
pub record StopsAt (number : ℕ) (tail : List ℕ) (old new : Machine) : Type 0 where
  pub at_none : number ≡ 0 → StopsAtRest (database_of old) (database_of new)
  pub at_mark : number ≢ 0 → KeepsMarks number old new
  pub left : tail_of new ≡ left_behind number old.headed old.head tail
  pub file : new.file ≡ old.file
  pub head : new.head ≡ old.head
  pub headed : new.headed ≡ old.headed
  pub refuses : new.refuses ≡ old.refuses

-- ---- entries that came once more

-- one of the entries has a twin in the history
pub record HasSomeTwin (history more : History) : Type 0 where
  pub at : ℕ
  pub entry : Entry
  pub found : slice_get more at ≡ Some entry
  pub twin : HasTwin history entry

-- none of them has one
pub record HaveNoTwin (history more : History) : Type 0 where
  pub each : (k : ℕ) (entry : Entry) → slice_get more k ≡ Some entry → HasNoTwin history entry

-- ---- the machine

-- what is kept: the bytes of the committed part, and the sums at their end
pub record KeepsTo (number : ℕ) (m : Machine) (end : ℕ) (sums : WalSum) : Type 0 where
  pub can : CanStop number m
  pub none_end : number ≡ 0 → end ≡ 0
  pub none_sums : number ≡ 0 → sums ≡ record { s0 = m.head.s0; s1 = m.head.s1 }
  pub is_end : (some : number ≢ 0) → (can.at_mark some).mark.end ≡ end
  pub is_sums : (some : number ≢ 0)
      → sums ≡ record { s0 = (can.at_mark some).mark.s0; s1 = (can.at_mark some).mark.s1 }

-- the machine that fell back to these bytes
abbrev pub fallen : List ℕ → History → List ℕ → WalSum → ℕ → Machine → Machine
fallen committed again left sums chances m = record m {
  history = m.history ++ again;
  before_log = length m.history;
  committed = committed;
  tail = left;
  over = 0;
  sums = sums;
  held = None;
  stopped = true;
  chances = chances;
}

pub record FallsTo (committed : List ℕ) (again : History) (left : List ℕ) (sums : WalSum) (old new : Machine) : Type 0 where
  pub twins : (HaveNoTwin old.history again × (new.chances ≡ old.chances))
      ⊎ (HasSomeTwin old.history again × (new.chances ≡ counted old.chances))
  pub later : old.chances ≤ new.chances
  pub is : new ≡ fallen committed again left sums new.chances old
