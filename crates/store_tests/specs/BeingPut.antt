-- A file that is being put on a disk in memory.
use Rattle.std.specs.Prelude.{ℕ, List, Some}
use Rattle.crash_disk.specs.declared.event.Event.{Event}
use Rattle.crash_disk.specs.Told.{Told}
use Rattle.crash_disk.specs.GoesOn.{GoesOn}
use Rattle.replica_store.specs.Putting.{IsPutting}

-- since some moment the disk has done nothing but put these bytes into the temporary file of this path
pub record IsBeingPut (path : List ℕ) (events : List Event) : Type 0 where
  pub begun : Told
  pub bytes : List ℕ
  pub goes_on : GoesOn begun (Some events) (IsPutting path bytes)
