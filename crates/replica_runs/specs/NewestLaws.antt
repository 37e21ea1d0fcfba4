-- What the line that a run follows is, where the files tell the truth.
use Rattle.std.specs.Prelude.{◌≡◌, length, Option, Some, None}
use Rattle.crash_disk.specs.Files.{Files}
use Rattle.ls_base.specs.declared.line.Line.{Line}
use Rattle.ls_base.specs.History.{History}
use Rattle.ls_base.specs.SyncLog.{SyncLog, line_of}
use Rattle.replica_store.specs.Faithful.{IsFaithful}
use Rattle.replica_store.specs.Retained.{IsRetainedIn}
use Rattle.replica_runs.specs.Newest.{IsNewestLine}

-- The newest line of the log, where the newest transaction is retained, and else none.
abbrev pub IsLineOfLog : Files → SyncLog → Option Line → Type 0
IsLineOfLog files log (Some line) = IsRetainedIn files (length log) × (line_of log (length log) ≡ Some line)
IsLineOfLog files log None = IsRetainedIn files (length log) → ⊥

abbrev pub NewestIsRecorded : Type 0
NewestIsRecorded =
    (files : Files) (history : History) (log : SyncLog) (line : Option Line) → IsFaithful files history log
    → IsNewestLine files line → IsLineOfLog files log line
