-- Bytes that were read from a log, and when they pass for committed ones.
use Rattle.std.specs.Prelude.{◌≡◌, ℕ, ◌≤◌, List, ◌++◌, length, take, Some}
use Rattle.ls_base.specs.declared.mark.Mark.{Mark}
use Rattle.wal_frames.specs.Marks.{last_mark_of}
use Rattle.live_gate.specs.LiveRecord.{IsPrefix}

-- the bytes are committed up to their last mark
abbrev pub IsCommittedToMark : List ℕ → List ℕ → Type 0
IsCommittedToMark committed read =
    (mark : Mark) → last_mark_of read ≡ Some mark → IsPrefix (take mark.end read) committed

-- so are the committed bytes before the aim and those answered since, where the aim lies within the committed part
abbrev pub IsReadFrom : List ℕ → ℕ → List ℕ → Type 0
IsReadFrom committed aimed answered = aimed ≤ length committed → IsCommittedToMark committed (take aimed committed ++
    answered)
