-- Rounds of a run, what they print and what they record.
use Rattle.std.specs.Prelude.{◌≡◌, ℕ, ◌+◌, ◌≤◌, List, [], ◌∷◌, ◌++◌, length, Option, Some, None}
use Rattle.crash_disk.specs.declared.event.Event.{Event}
use Rattle.crash_disk.specs.Files.{files_after}
use Rattle.ls_base.specs.declared.line.Line.{Line}
use Rattle.ls_base.specs.History.{History}
use Rattle.ls_base.specs.SyncLog.{SyncLog}
use Rattle.replica_store.specs.declared.file_name.FileName.{FileName}
use Rattle.replica_store.specs.CarriesOn.{CarriesOn, IsExtendedBy, IsLonger, RetainsNew}
use Rattle.replica_store.specs.CrashFaithful.{IsCrashFaithful, IsSettled}
use Rattle.round_line.specs.declared.round.Round.{Round}
use Rattle.round_line.specs.RoundText.{name_in, round_text}
use Rattle.replica_runs.specs.Keeping.{KeepsReplica}

-- ---- what is printed

-- the lines of rounds, the first of which has this number
abbrev pub rounds_text : ℕ → List Round → List ℕ
rounds_text number [] = []
rounds_text number (round ∷ rounds) = round_text number round ++ rounds_text (number + 1) rounds

-- ---- what is recorded

-- a round that stored no file leaves the log, and one that stored a file puts the line of its last transaction behind
abbrev pub AddsLineOf : Option FileName → SyncLog → SyncLog → Type 0
AddsLineOf None log later = later ≡ log
AddsLineOf (Some name) log later = (line : Line) × (later ≡ log ++ line ∷ []) × (name.max ≡ length later)

-- One round after another: each file has the next transaction, and the log has one line more for each.
abbrev pub RecordsRounds : List Round → SyncLog → SyncLog → Type 0
RecordsRounds [] log later = later ≡ log
RecordsRounds (round ∷ rounds) log later =
    (mid : SyncLog) × AddsLineOf (name_in round.sync) log mid × RecordsRounds rounds mid later

-- ---- where a run is

-- Behind some rounds: the log that they recorded, and the replica is ready for the next one. The run settled the
-- replica
-- before its first round.
pub record HasRun
    (history : History) (cut : ℕ) (settled now : List Event) (rounds : List Round) (log ended : SyncLog) : Type 0
  where
    pub records : RecordsRounds rounds log ended
    pub carries : CarriesOn history cut settled now log ended
    pub settles : IsSettled now history ended
    pub retains : RetainsNew now log ended

-- ---- how a run ends

-- All rounds ended: the replica is settled, and tells the log that they recorded.
pub record HasReplicated
    (old new : History) (cut : ℕ) (before now : List Event) (rounds : List Round) (log : SyncLog) : Type 0 where
  pub later : SyncLog
  pub records : RecordsRounds rounds log later
  pub keeps : KeepsReplica old new cut before now log later
  pub settles : IsSettled now new later
  pub extends : IsExtendedBy log (files_after now) later
  pub retains : RetainsNew now log later

-- A refusal behind the rounds that ended: the replica tells the log that they recorded, or one line more, whatever a
-- crash leaves, and what they stored is retained.
pub record WasRefused
    (old new : History) (cut : ℕ) (before now : List Event) (rounds : List Round) (log : SyncLog) : Type 0 where
  pub ended : SyncLog
  pub records : RecordsRounds rounds log ended
  pub later : SyncLog
  pub more : IsLonger ended later
  pub one : length later ≤ length ended + 1
  pub keeps : KeepsReplica old new cut before now log later
  pub faithful : IsCrashFaithful now new later
  pub extends : IsExtendedBy log (files_after now) later
  pub retains : RetainsNew now log ended
