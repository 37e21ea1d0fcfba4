-- A database that a round may follow.
use Rattle.live_gate.specs.LiveRecord.{Database}
use Rattle.live_gate.specs.Legal.{IsLegal}
use Rattle.snapshot_read.specs.Reading.{IsUnderGate}

-- it is legal, and the gate is held
pub record IsReady (d : Database) : Type 0 where
  pub legal : IsLegal d
  pub gate : IsUnderGate d
