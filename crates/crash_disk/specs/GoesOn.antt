-- How the record of a disk goes on from one moment to another.
use Rattle.std.specs.Prelude.{◌≡◌, List, ◌++◌, Option, Some, None}
use Rattle.crash_disk.specs.declared.event.Event.{Event}
use Rattle.crash_disk.specs.Told.{Told}

-- changes came before the others, and none went
pub record IsGrown (before now : List Event) : Type 0 where
  pub more : List Event
  pub is : now ≡ more ++ before

-- The record of a told disk grew so that P holds of what it was and what it is; a disk that doesn't tell
-- stays silent.
pub record GoesOn (old new : Told) (P : List Event → List Event → Type 0) : Type 0 where
  pub told : (events : List Event) → old ≡ Some events
      → (after : List Event) × (new ≡ Some after) × P events after × IsGrown events after
  pub silent : old ≡ None → new ≡ None
