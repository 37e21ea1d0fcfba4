-- What a contract sees of a disk and of an output in memory.
use Rattle.std.specs.Prelude.{ℕ, List, Option}
use Rattle.crash_disk.specs.declared.event.Event.{Event}
use Rattle.crash_disk.specs.Plan.{Plan}

-- a disk: its record of changes, newest first, the path that it is attached to, how many bytes it gave, and
-- its counts
pub record DiskState : Type 0 where
  pub events : List Event
  pub folder : Option (List ℕ)
  pub given : ℕ
  pub plan : Plan

-- an output: its bytes, and its counts
pub record OutState : Type 0 where
  pub text : List ℕ
  pub plan : Plan
