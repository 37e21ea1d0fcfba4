-- What copying into the database file does.
use Rattle.std.specs.Prelude.{◌≡◌, ℕ, ◌-◌, ◌<◌, ◌≤◌, List, Some}
use Rattle.std.specs.List.{slice_get}
use Rattle.ls_base.specs.declared.mark.Mark.{Mark}
use Rattle.wal_frames.specs.Marks.{marks_of}
use Rattle.checkpointer.specs.Backfill.{IsCopied}
use Rattle.checkpointer.specs.CopiedState.{CopiedState}
use Rattle.live_gate.specs.Moves.{CopiesFrames}
use Rattle.sim_writer.specs.declared.machine.Machine.{Machine}
use Rattle.sim_writer.specs.Sound.{database_of}

-- the mark of this number, from 1, is one of the log's, past the copied one and not past the held one
pub record CanBackfill (number : ℕ) (m : Machine) : Type 0 where
  pub mark : Mark
  pub from : 1 ≤ number
  pub found : slice_get (marks_of m.committed) (number - 1) ≡ Some mark
  pub past : m.copied < mark.end
  pub upto : (held : ℕ) → m.held ≡ Some held → mark.end ≤ held

-- the frames of the log up to the mark that ends there were copied into the file
pub record CopiesTo (upto : ℕ) (file log now : List ℕ) : Type 0 where
  pub copied : CopiedState
  pub end : copied.mark.end ≡ upto
  pub is : IsCopied copied.head copied.mark file log now

-- the same where the log is that of the machine, and nothing else changed
pub record CopiesMark (mark : Mark) (old new : Machine) : Type 0 where
  pub copies : CopiesFrames (database_of old) (database_of new)
  pub pages : IsCopied old.head mark old.file old.committed new.file
  pub rest : new ≡ record old { file = new.file; copied = mark.end }

-- the frames up to the mark of this number were copied
pub record Backfills (number : ℕ) (old new : Machine) : Type 0 where
  pub mark : Mark
  pub found : slice_get (marks_of old.committed) (number - 1) ≡ Some mark
  pub copied : CopiesMark mark old new
