-- What a writer that keeps to the gate may do between two calls.
use Rattle.std.specs.Prelude.{◌≡◌, ℕ, ◌+◌, ◌≤◌, Bool, true, Option, Some, None, length, ◌⊎◌}
use Rattle.wal_frames.specs.Marks.{marks_of}
use Rattle.live_gate.specs.LiveRecord.{Database, Told, GoesOn, IsPrefix}
use Rattle.live_gate.specs.Legal.{IsLegal}

-- The gate stays held as it was. The committed part only grows, by one entry more for each mark more, and where the
-- gate is held at no mark the database file stays.
pub record KeepsHold (end : ℕ) (old new : Database) : Type 0 where
  pub held : new.held ≡ Some end
  pub committed : IsPrefix old.committed new.committed
  pub entries :
      length new.history + length (marks_of old.committed) ≡ length old.history + length (marks_of new.committed)
  pub file : end ≡ 0 → new.file ≡ old.file

-- the machine stopped, and the hold is gone
pub record HasStopped (new : Database) : Type 0 where
  pub stopped : new.stopped ≡ true
  pub free : new.held ≡ None

-- what all the writer's moves between two moments may come to
pub record IsWriterStep (old new : Database) : Type 0 where
  pub legal : IsLegal old → IsLegal new
  pub history : IsPrefix old.history new.history
  pub chances : old.chances ≤ new.chances
  pub hold : (end : ℕ) → old.held ≡ Some end → KeepsHold end old new ⊎ HasStopped new
  -- only a call takes the gate
  pub free : old.held ≡ None → new.held ≡ None
  -- a stop lasts until the next `attach`
  pub stopped : old.stopped ≡ true → new.stopped ≡ true

-- the same between the records of two moments
abbrev pub Moves : Told → Told → Type 0
Moves old new = GoesOn old new (λ r after. IsWriterStep r.database after.database)

-- A step, and besides the gate was taken, moved or given up: it is one with some other hold put in.
pub record IsStepButHold (old new : Database) : Type 0 where
  pub held : Option ℕ
  pub step : IsWriterStep old (record new { held = held })
  pub legal : IsLegal old → IsLegal new

-- the same, and a stop may be over besides
pub record IsStepButAttached (old new : Database) : Type 0 where
  pub held : Option ℕ
  pub stopped : Bool
  pub step : IsWriterStep old (record new { held = held; stopped = stopped })
  pub legal : IsLegal old → IsLegal new
