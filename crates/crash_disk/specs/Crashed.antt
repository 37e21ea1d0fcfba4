-- How the files that a crash leaves are put together, name by name.
use Rattle.std.specs.Prelude.{◌≡◌, ℕ, if◌then◌else◌, List, ◌∷◌, Option, Some, None, is_some}
use Rattle.crash_disk.specs.declared.event.Event.{Event}
use Rattle.crash_disk.specs.declared.event.Event.TheVariants.{Placed}
use Rattle.crash_disk.specs.Files.{file_at}
use Rattle.crash_disk.specs.Images.{ArePlaced}
use Rattle.crash_disk.specs.Crash.{file_left, is_ever_given}

-- the file, if there is one, placed under the name
abbrev pub with_placed : List Event → List ℕ → Option (List ℕ) → List Event
with_placed left name None = left
with_placed left name (Some bytes) = Placed name bytes ∷ left

-- what a crash after the changes leaves at the name was placed, unless a file was there
pub record TakesLeft (choice : ℕ) (events : List Event) (name : List ℕ) (old new : List Event) : Type 0 where
  pub taken : new ≡ (if is_some (file_at old name) then old else with_placed old name (file_left choice events name))

-- the placed files are those that a crash leaves, at the names that some of these changes gave
pub record AreLeft (choice : ℕ) (events so_far left : List Event) : Type 0 where
  pub placed : ArePlaced left
  pub each : (q : List ℕ) → file_at left q ≡ (if is_ever_given so_far q then file_left choice events q else None)
