-- The first and the last step of storing the changes.
use Rattle.std.specs.Prelude.{◌≡◌, ◌≢◌, ℕ, false, Option, Some, None, Result, IsOk, OnErr, ◌⊎◌, ⊤}
use Rattle.crash_disk.specs.Files.{files_after}
use Rattle.crash_disk.specs.Told.{Told, IfTold}
use Rattle.live_gate.specs.declared.fault.LiveFault.{LiveFault}
use Rattle.live_gate.specs.LiveRecord.{LiveRecord}
use Rattle.live_gate.specs.Step.{IsWriterStep, IsStepButHold}
use Rattle.replica_store.specs.declared.error.StoreError.{StoreError}
use Rattle.replica_store.specs.declared.error.StoreError.TheVariants.{Store, Damaged, Memory}
use Rattle.replica_round.specs.ChangesStore.{HasFirstBadHeader}

-- what an error of reading the list of the files and their headers means
abbrev pub ExplainsFiles : Told → StoreError → Type 0
ExplainsFiles store (Damaged name damage) =
    IfTold store (λ events. HasFirstBadHeader (files_after events) name damage)
ExplainsFiles store (Store cause) = ⊤
ExplainsFiles store Memory = ⊤

-- The hold moved to the end of a place in the log, or after a coincidence may have stayed. Where there is no such place
-- nothing was asked.
abbrev pub MovesHold : Option ℕ → LiveRecord → LiveRecord → Type 0
MovesHold None old new = new ≡ old
MovesHold (Some end) old new =
    (new.database.held ≡ Some end) ⊎ ((old.database.chances ≢ 0) × IsWriterStep old.database new.database)

-- What moving the hold to the end of a place does to what a live database tells.
pub record HoldsAt
    (end : Option ℕ) (result : Result (Unit {0}) LiveFault) (old new : LiveRecord) : Type 0 where
  pub step : IsStepButHold old.database new.database
  pub awake : IsOk result → old.database.stopped ≡ false → new.database.stopped ≡ false
  pub ok : IsOk result → MovesHold end old new
  pub err : OnErr result (IsWriterStep old.database new.database)
  pub asked : new.asked ≡ old.asked
