-- What a crash may leave of a disk, by the record of changes.
use Rattle.std.specs.Prelude.{◌≡◌, ℕ, ◌+◌, ◌≤◌, List, [], ◌∷◌, length, drop, Option, Some, None, IfSome}
use Rattle.std.specs.FinMap.{get}
use Rattle.crash_disk.specs.declared.event.Event.{Event}
use Rattle.crash_disk.specs.declared.event.Event.TheVariants.{Placed}
use Rattle.crash_disk.specs.Files.{Files}
use Rattle.crash_disk.specs.FileState.{SomeOf, IsFileImage, synced_file}
use Rattle.crash_disk.specs.Numbers.{number_at, numbers_at, file_of}

-- what a crash leaves where it leaves the file of this number, or none
abbrev pub IsImageOf : List Event → Option ℕ → Option (List ℕ) → Type 0
IsImageOf events None None = Unit {0}
IsImageOf events None (Some bytes) = ⊥
IsImageOf events (Some n) None = ⊥
IsImageOf events (Some n) (Some bytes) = IsFileImage (file_of events n) bytes

-- a crash may leave this at the name, or nothing: one of the files that it had since the names were synced
pub record MayStandAt (events : List Event) (name : List ℕ) (file : Option (List ℕ)) : Type 0 where
  pub one : SomeOf (λ number. IsImageOf events number file) (numbers_at events name)

-- a crash now may leave these files; it chooses for each name by itself
pub record IsCrashImage (events : List Event) (image : Files) : Type 0 where
  pub each : (name : List ℕ) → MayStandAt events name (get image name)

-- a crash at some moment since that one may have left these files; a moment is the length of the record then
pub record WasCrashImageSince (events : List Event) (moment : ℕ) (image : Files) : Type 0 where
  pub ago : ℕ
  pub since : moment + ago ≤ length events
  pub was : IsCrashImage (drop ago events) image

-- the name and the bytes of what stands there are synced
pub record IsSettledAt (events : List Event) (name : List ℕ) : Type 0 where
  pub number : numbers_at events name ≡ number_at events name ∷ []
  pub synced : IfSome (number_at events name) (λ n. file_of events n ≡ synced_file (file_of events n).bytes)

-- only files were placed, as on a disk after a crash
abbrev pub ArePlaced : List Event → Type 0
ArePlaced [] = Unit {0}
ArePlaced (Placed name bytes ∷ events) = ArePlaced events
ArePlaced (event ∷ events) = ⊥
