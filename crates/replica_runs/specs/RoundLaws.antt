-- The laws of rounds: how a run goes from one to the next, and how it ends.
use Rattle.std.specs.Prelude.{◌≡◌, ℕ, ◌+◌, ◌≤◌, List, [], ◌∷◌, ◌++◌, length}
use Rattle.crash_disk.specs.declared.event.Event.{Event}
use Rattle.crash_disk.specs.GoesOn.{IsGrown}
use Rattle.ls_base.specs.History.{History}
use Rattle.ls_base.specs.SyncLog.{SyncLog}
use Rattle.replica_store.specs.CarriesOn.{CarriesOn, RetainsNew}
use Rattle.replica_store.specs.CrashFaithful.{IsCrashFaithful, IsSettled}
use Rattle.replica_store.specs.Putting.{HasSyncedNames}
use Rattle.round_line.specs.declared.round.Round.{Round}
use Rattle.round_line.specs.RoundText.{name_in, round_text}
use Rattle.replica_runs.specs.Rounds.{rounds_text, AddsLineOf, HasRun, HasReplicated, WasRefused}

-- the line of one more round stands behind those of the others
abbrev pub OneMoreLine : Type 0
OneMoreLine =
    (number : ℕ) (rounds : List Round) (round : Round)
    → rounds_text number (rounds ++ round ∷ []) ≡ rounds_text number rounds ++ round_text (number + length rounds) round

-- a run begins where the names were synced
abbrev pub RunsBegin : Type 0
RunsBegin =
    (history : History) (cut : ℕ) (before settled : List Event) (log : SyncLog)
    → IsCrashFaithful before history log → IsGrown before settled → HasSyncedNames before settled
    → HasRun history cut settled settled [] log log

-- and stays there while the database goes on
abbrev pub RunsOutlastMoves : Type 0
RunsOutlastMoves =
    (history more : History) (cut : ℕ) (settled now : List Event) (rounds : List Round) (log ended : SyncLog)
    → HasRun history cut settled now rounds log ended → HasRun (history ++ more) cut settled now rounds log ended

-- one more round that ended
abbrev pub OneMoreRound : Type 0
OneMoreRound =
    (history : History) (cut : ℕ) (settled mid now : List Event) (rounds : List Round) (round : Round)
    (log ended later : SyncLog) → IsGrown settled mid → IsGrown mid now
    → HasRun history cut settled mid rounds log ended → AddsLineOf (name_in round.sync) ended later
    → CarriesOn history cut mid now ended later → IsSettled now history later → RetainsNew now ended later
    → HasRun history cut settled now (rounds ++ round ∷ []) log later

-- the end behind the last round
abbrev pub RunsEnd : Type 0
RunsEnd =
    (old more : History) (cut : ℕ) (before settled now : List Event) (rounds : List Round) (log later : SyncLog)
    → IsGrown before settled → IsGrown settled now → HasSyncedNames before settled
    → HasRun (old ++ more) cut settled now rounds log later → HasReplicated old (old ++ more) cut before now rounds log

-- and a refusal in the next one, which may have stored its file
abbrev pub RunsAreRefused : Type 0
RunsAreRefused =
    (old more : History) (cut : ℕ) (before settled mid now : List Event) (rounds : List Round)
    (log ended later : SyncLog) → IsGrown before settled → IsGrown settled mid → IsGrown mid now
    → HasSyncedNames before settled → HasRun (old ++ more) cut settled mid rounds log ended
    → length later ≤ length ended + 1 → CarriesOn (old ++ more) cut mid now ended later
    → IsCrashFaithful now (old ++ more) later → WasRefused old (old ++ more) cut before now rounds log

-- or before the names were synced
abbrev pub RunsAreRefusedAtOnce : Type 0
RunsAreRefusedAtOnce =
    (old more : History) (cut : ℕ) (before : List Event) (log : SyncLog) → IsCrashFaithful before old log
    → WasRefused old (old ++ more) cut before before [] log
