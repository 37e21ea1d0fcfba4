-- The moves of a writer that keeps to the gate, one by one.
use Rattle.std.specs.Prelude.{◌≡◌, ◌≢◌, ℕ, ◌-◌, ◌/◌, ◌≤◌, List, [], ◌∷◌, ◌++◌, take, Some, None, Ok}
use Rattle.ls_base.specs.declared.entry.Entry.{Entry}
use Rattle.ls_base.specs.declared.mark.Mark.{Mark}
use Rattle.ls_base.specs.History.{History, state_of}
use Rattle.wal_frames.specs.declared.header.WalHeader.{WalHeader}
use Rattle.wal_frames.specs.WalFormat.{read_header}
use Rattle.wal_frames.specs.WalFrame.{frame_length}
use Rattle.wal_frames.specs.ValidPrefix.{valid_frames}
use Rattle.wal_frames.specs.Marks.{IsMark, committed_part}
use Rattle.wal_frames.specs.View.{frames_page, file_page}
use Rattle.live_gate.specs.LiveRecord.{Database, IsPrefix}
use Rattle.live_gate.specs.Legal.{Commit, all_frames, FitsCommit, IsAtRest, IsMarkEnd, IsLegal, last_state}
use Rattle.live_gate.specs.Step.{IsWriterStep}
use Rattle.live_gate.specs.Coincidence.{CountsTwins}

-- ---- a commit more

-- The frames of a commit came behind the committed part, which may have been empty, and its entry behind the history.
pub record AddsCommit (old new : Database) : Type 0 where
  pub h : WalHeader
  pub c : Commit
  pub e : Entry
  pub accepted : read_header new.committed ≡ Ok h
  pub whole : committed_part new.committed ≡ new.committed
  pub front : IsPrefix old.committed new.committed
  pub frames : valid_frames new.committed ≡ valid_frames old.committed ++ all_frames c
  pub history : new.history ≡ old.history ++ e ∷ []
  pub fits : FitsCommit h new.file new.copied (valid_frames old.committed) (last_state None old.history) c e
  pub file : new.file ≡ old.file
  pub copied : new.copied ≡ old.copied
  pub held : new.held ≡ old.held
  pub stopped : new.stopped ≡ old.stopped
  pub chances : old.chances ≤ new.chances
  pub twins : CountsTwins old new

-- ---- the log ceases to have a commit

-- The log is empty, the database file has the last state, and its entry at rest came behind the history.
pub record EmptiesLog (old new : Database) : Type 0 where
  pub earlier : History
  pub last : Entry
  pub rest : Entry
  pub was : old.history ≡ earlier ++ last ∷ []
  pub history : new.history ≡ old.history ++ rest ∷ []
  pub same : state_of rest ≡ state_of last
  pub at_rest : IsAtRest new.history new.committed new.file new.copied
  pub stopped : new.stopped ≡ old.stopped
  pub chances : old.chances ≤ new.chances
  pub twins : CountsTwins old new

-- a restart or a cut, which no writer does while the gate is held
pub record Restarts (old new : Database) : Type 0 where
  pub empties : EmptiesLog old new
  pub was_free : old.held ≡ None
  pub is_free : new.held ≡ None

-- a pass leaves the gate held at no mark
pub record PassesAll (old new : Database) : Type 0 where
  pub empties : EmptiesLog old new
  pub held : new.held ≡ Some 0

-- ---- copying

-- the frames that end at or before an offset
abbrev pub frames_before : WalHeader → List (List ℕ) → ℕ → List (List ℕ)
frames_before h frames end = take ((end - 32) / frame_length h) frames

-- Copying into the database file went on up to a mark, and not past the held one. Of the pages within the size of a
-- mark
-- at or past that, only those that stand in frames up to it may have changed in the file.
pub record CopiesFrames (old new : Database) : Type 0 where
  pub later : old.copied ≤ new.copied
  pub at_mark : IsMarkEnd old.committed new.copied
  pub not_past : (end : ℕ) → old.held ≡ Some end → (end ≢ 0) × (new.copied ≤ end)
  pub others : (h : WalHeader) (mark : Mark) (p : ℕ) → read_header old.committed ≡ Ok h → IsMark old.committed mark
      → new.copied ≤ mark.end → 1 ≤ p → p ≤ mark.commit
      → frames_page p (frames_before h (valid_frames old.committed) new.copied) ≡ None
      → file_page h.size new.file p ≡ file_page h.size old.file p
  pub history : new.history ≡ old.history
  pub committed : new.committed ≡ old.committed
  pub held : new.held ≡ old.held
  pub stopped : new.stopped ≡ old.stopped
  pub chances : new.chances ≡ old.chances

-- ---- laws

abbrev pub CopyingIsAStep : Type 0
CopyingIsAStep = (old new : Database) → CopiesFrames old new → IsWriterStep old new

abbrev pub CommitsAreSteps : Type 0
CommitsAreSteps = (old new : Database) → AddsCommit old new → IsWriterStep old new

abbrev pub RestartsAreSteps : Type 0
RestartsAreSteps = (old new : Database) → Restarts old new → IsWriterStep old new

abbrev pub PassesKeepLegal : Type 0
PassesKeepLegal = (old new : Database) → PassesAll old new → IsLegal old → IsLegal new
