-- What stands under a name where the machine stopped.
use Rattle.std.specs.Prelude.{◌≡◌, ℕ, List, length, Some, None, IfSome}
use Rattle.std.specs.FinMap.{get}
use Rattle.crash_disk.specs.declared.event.Event.{Event}
use Rattle.crash_disk.specs.Files.{Files}
use Rattle.crash_disk.specs.Images.{IsCrashImage, WasCrashImageSince}

-- a crash leaves nothing under the name
abbrev pub LeavesNothing : List ℕ → List Event → Type 0
LeavesNothing name events = (image : Files) → IsCrashImage events image → get image name ≡ None

-- a crash at any moment since the old record leaves nothing under the name, or something that has P
abbrev pub LeavesAtMost : List ℕ → (List ℕ → Type 0) → List Event → List Event → Type 0
LeavesAtMost name P old new = (image : Files) → WasCrashImageSince new (length old) image → IfSome (get image name) P

-- a crash leaves these bytes under the name
abbrev pub Leaves : List ℕ → List ℕ → List Event → Type 0
Leaves name bytes events = (image : Files) → IsCrashImage events image → get image name ≡ Some bytes
