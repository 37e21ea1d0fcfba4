-- Laws of replications.
use Rattle.std.specs.Prelude.{◌≡◌, ℕ, ◌≤◌, List, ◌++◌, length, take}
use Rattle.crash_disk.specs.declared.disk.Disk.{Ghosts as OfDisk}
use Rattle.crash_disk.specs.declared.event.Event.{Event}
use Rattle.crash_disk.specs.declared.out.Out.{Ghosts as OfOut}
use Rattle.crash_disk.specs.Files.{Files, files_after}
use Rattle.crash_disk.specs.Images.{IsCrashImage, WasCrashImageSince, ArePlaced}
use Rattle.ls_base.specs.History.{History}
use Rattle.ls_base.specs.SyncLog.{SyncLog}
use Rattle.live_gate.specs.declared.live.Live.{Ghosts as OfLive}
use Rattle.replica_store.specs.CarriesOn.{IsLonger}
use Rattle.replica_store.specs.CrashFaithful.{IsCrashFaithful, IsSettled}
use Rattle.replica_store.specs.Faithful.{IsFaithfulToFront}
use Rattle.replica_sync.specs.Faith.{IfBothTell}
use Rattle.ls_answers.specs.declared.outcome.Why.{Why}
use Rattle.ls_answers.specs.declared.outcome.Why.TheVariants.{Memory}
use Rattle.replicate_command.specs.Asked.{Asked}
use Rattle.replicate_command.specs.Ends.{ReplicateEnds}
use Rattle.replicate_command.specs.Seen.{Seen, seen_of}

-- A replication that is refused for want of memory before its first step ends as one ends.
abbrev pub RefusesAtOnce : {L S O : Type 0} → OfLive L → OfDisk S → OfOut O → Type 0
RefusesAtOnce {L} {S} {O} of_live of_store of_out =
    (asked : Asked) (live : L) (store : S) (out : O)
    → ReplicateEnds (seen_of of_live of_store of_out asked live live store store out out) Memory

-- What a replication leaves is a fit start of the next one, over whatever history the database has then: at its end, ..
pub record IsFitStart (history : History) (before now : List Event) (old : History) (log : SyncLog) : Type 0 where
  pub later : SyncLog
  pub lines : IsLonger log later
  pub ends : (more : History) → IsCrashFaithful now (history ++ more) later
  -- .. and whatever a crash leaves at any moment of it, with the lines that each crash before left
  pub crashes : (more : History) (after : List Event) (least : ℕ)
      → ((image : Files) → IsCrashImage before image → IsFaithfulToFront image old log least)
      → WasCrashImageSince now (length before) (files_after after) → ArePlaced after
      → (lines : ℕ) × (least ≤ lines) × (lines ≤ length later)
      × IsSettled after (history ++ more) (take lines later)

abbrev pub ReplicationsFollow : Type 0
ReplicationsFollow =
    (seen : Seen) (why : Why) → ReplicateEnds seen why
    → IfBothTell seen.live seen.live_after seen.store seen.store_after
    (λ old new before now. (log : SyncLog) → new.database.chances ≡ 0
    → IsCrashFaithful before old.database.history log
    → IsFitStart new.database.history before now old.database.history log)
