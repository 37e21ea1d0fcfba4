-- What reading a page does to what a live database tells.
use Rattle.std.specs.Prelude.{◌≡◌, ◌≢◌, ℕ, ◌+◌, ◌<◌, ◌≤◌, List, length, true, false, Some, Result, IsOk, IsErrOf, OnOk}
use Rattle.std.specs.FinMap.{get}
use Rattle.ls_base.specs.PageSize.{lock_page}
use Rattle.live_gate.specs.LiveRecord.{Database, Asked, LiveRecord}
use Rattle.live_gate.specs.LiveCalls.{read_offset}
use Rattle.live_gate.specs.Step.{IsWriterStep}
use Rattle.snapshot_read.specs.declared.fault.PageFault.{PageFault}
use Rattle.snapshot_read.specs.declared.fault.PageFault.TheVariants.{Short}
use Rattle.snapshot_read.specs.PageOffsets.{Offsets}
use Rattle.snapshot_read.specs.Offsets.{log_page, mapped_page, LiesWithin}

-- reading the log changes nothing else of what was asked
pub record AsksOfTheLog (old new : Asked) : Type 0 where
  pub head : new.head ≡ old.head
  pub db_size : new.db_size ≡ old.db_size
  pub wal_size : new.wal_size ≡ old.wal_size
  pub passes_asked : new.passes_asked ≡ old.passes_asked
  pub passes_done : new.passes_done ≡ old.passes_done

-- the gate is held
abbrev pub IsUnderGate : Database → Type 0
IsUnderGate d = (end : ℕ) × (d.held ≡ Some end)

-- The last read gave no byte though the bytes answered since the aim at the page didn't fill it. The byte at this
-- offset is the one that didn't come.
pub record IsCutShort (size at missing : ℕ) (r : LiveRecord) : Type 0 where
  pub aimed : r.asked.aimed ≡ at
  pub none : r.asked.gave_none ≡ true
  pub part : length r.asked.answered < size
  pub stands : missing ≡ read_offset r

-- Bytes of the log from an offset on, as many as there is room for.
pub record ReadsLog
    (at : ℕ) (result : Result (Unit {0}) PageFault) (into : List ℕ) (old new : LiveRecord) : Type 0 where
  pub step : IsWriterStep old.database new.database
  pub awake : IsOk result → new.database.stopped ≡ false
  pub asked : AsksOfTheLog old.asked new.asked
  pub answered : OnOk result ((new.asked.aimed ≡ at) × (new.asked.answered ≡ into))
  pub short : (missing : ℕ) → IsErrOf result (Short missing) → IsCutShort (length into) at missing new
  -- what lay in the committed part comes under the gate
  pub value : IsUnderGate old.database → at + length into ≤ length old.database.committed
      → OnOk result (into ≡ log_page (length into) old.database.committed at)
  pub whole : IsUnderGate old.database → at + length into ≤ length old.database.committed
      → (missing : ℕ) → IsErrOf result (Short missing) → ⊥

-- The page of a number by a map of offsets.
pub record ReadsPage
    (offsets : Offsets) (size number : ℕ) (result : Result (Unit {0}) PageFault) (into : List ℕ)
    (old new : LiveRecord) : Type 0 where
  pub step : IsWriterStep old.database new.database
  pub awake : number ≢ lock_page size → IsOk result → new.database.stopped ≡ false
  pub asked : AsksOfTheLog old.asked new.asked
  -- a page from the log is what was answered from its offset on
  pub answered : (at : ℕ) → number ≢ lock_page size → get offsets number ≡ Some at
      → OnOk result ((new.asked.aimed ≡ at) × (new.asked.answered ≡ into))
  pub short : (at missing : ℕ) → get offsets number ≡ Some at → IsErrOf result (Short missing)
      → IsCutShort size at missing new
  -- Under the gate, where the page lay in the committed part, it is the one that the map gives there, ..
  pub value : IsUnderGate old.database → LiesWithin size old.database.committed offsets number
      → OnOk result (into ≡ mapped_page size new.database.file old.database.committed offsets number)
  -- .. and it comes whole.
  pub whole : IsUnderGate old.database → LiesWithin size old.database.committed offsets number
      → (missing : ℕ) → IsErrOf result (Short missing) → ⊥
