-- A stop of the live machine: the log falls back, and entries that the history has come once more.
use Rattle.std.specs.Prelude.{◌≡◌, ◌≢◌, ◌≤◌, List, [], ◌∷◌, ◌++◌, length, Ok}
use Rattle.std.specs.List.{Contains, flat_map}
use Rattle.ls_base.specs.declared.entry.Entry.{Entry}
use Rattle.ls_base.specs.History.{History}
use Rattle.wal_frames.specs.WalFormat.{read_header}
use Rattle.wal_frames.specs.ValidPrefix.{valid_frames}
use Rattle.wal_frames.specs.Marks.{committed_part}
use Rattle.live_gate.specs.LiveRecord.{Database}
use Rattle.live_gate.specs.Legal.{Commit, all_frames, HasCommits, IsAtRest, IsCopied}
use Rattle.live_gate.specs.Step.{IsWriterStep, HasStopped}
use Rattle.live_gate.specs.Coincidence.{CountsTwins}

-- The log keeps its first commits, no fewer than were copied. The entry before its first commit and those of the
-- commits that it keeps come once more.
pub record FallsBack (old new : Database) : Type 0 where
  pub has : HasCommits old.history old.committed old.file old.copied
  pub earlier : History
  pub before : Entry
  pub was : has.earlier ≡ earlier ++ before ∷ []
  pub kept : List Commit
  pub lost : List Commit
  pub commits : has.commits ≡ kept ++ lost
  pub some : kept ≢ []
  pub again : List Entry
  pub gone : List Entry
  pub entries : has.latest ≡ again ++ gone
  pub as_many : length again ≡ length kept
  pub history : new.history ≡ old.history ++ before ∷ again
  pub accepted : read_header new.committed ≡ Ok has.h
  pub whole : committed_part new.committed ≡ new.committed
  pub frames : valid_frames new.committed ≡ flat_map all_frames kept
  pub file : new.file ≡ old.file
  pub copied : new.copied ≡ old.copied
  pub is_copied : IsCopied new.committed new.copied
  pub stops : HasStopped new
  pub chances : old.chances ≤ new.chances
  pub twins : CountsTwins old new

-- The log had no commit, or loses all of them: an entry that the history has comes once more, that of the file.
pub record StopsAtRest (old new : Database) : Type 0 where
  pub again : Entry
  pub came : Contains old.history again
  pub history : new.history ≡ old.history ++ again ∷ []
  pub at_rest : IsAtRest new.history new.committed new.file new.copied
  pub stops : HasStopped new
  pub chances : old.chances ≤ new.chances
  pub twins : CountsTwins old new

abbrev pub FallingBackIsAStep : Type 0
FallingBackIsAStep = (old new : Database) → FallsBack old new → IsWriterStep old new

abbrev pub StopsAtRestAreSteps : Type 0
StopsAtRestAreSteps = (old new : Database) → StopsAtRest old new → IsWriterStep old new
