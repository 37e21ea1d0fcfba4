-- How a database goes on while a replication runs.
use Rattle.std.specs.Prelude.{◌≤◌}
use Rattle.live_gate.specs.LiveRecord.{Database, IsPrefix}
use Rattle.live_gate.specs.Legal.{IsLegal}

-- The database at a later moment: what was legal is so still, and neither an entry nor a coincidence went.
pub record IsLater (old new : Database) : Type 0 where
  pub legal : IsLegal old → IsLegal new
  pub history : IsPrefix old.history new.history
  pub chances : old.chances ≤ new.chances
