-- How a database and a replica go on through a replication.
use Rattle.crash_disk.specs.GoesOn as disk
use Rattle.live_gate.specs.LiveRecord.{Database, GoesOn}
use Rattle.replica_round.specs.Later.{IsLater}
use Rattle.replicate_command.specs.Seen.{Seen}

-- what was told goes on, and what wasn't stays silent; changes of the replica's folder come behind the earlier ones
pub record ObjectsGoOn (seen : Seen) : Type 0 where
  pub live : GoesOn seen.live seen.live_after (λ old new. IsLater old.database new.database)
  pub store : disk.GoesOn seen.store seen.store_after (λ old new. Unit {0})

-- This was found between two moments of the call.
pub record WasFound (found : Database → Database → Type 0) (old new : Database) : Type 0 where
  pub first : Database
  pub second : Database
  pub before : IsLater old first
  pub between : IsLater first second
  pub after : IsLater second new
  pub is : found first second
