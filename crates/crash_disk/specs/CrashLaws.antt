-- The laws of crash images, in a reader's words.
use Rattle.std.specs.Prelude.{◌≡◌, ◌≢◌, ℕ, List, [], ◌∷◌, ◌++◌, map, length, Some, None, IfSome, IsSome}
use Rattle.std.specs.FinMap.{get}
use Rattle.crash_disk.specs.declared.event.Event.{Event}
use Rattle.crash_disk.specs.declared.event.Event.TheVariants.{Created, Appended, Synced, Renamed, NamesSynced}
use Rattle.crash_disk.specs.Files.{Files, files_after, file_at}
use Rattle.crash_disk.specs.FileState.{SomeOf}
use Rattle.crash_disk.specs.Images.{IsCrashImage, WasCrashImageSince, ArePlaced}

-- a crash may leave the files as they read
abbrev pub ReadFilesAreAnImage : Type 0
ReadFilesAreAnImage = (events : List Event) → IsCrashImage events (files_after events)

-- after a sync of each file that is there, and of the names, a crash leaves the files as they read and
-- nothing else
abbrev pub SyncedDiskHasOneImage : Type 0
SyncedDiskHasOneImage =
    (events : List Event) (names : List (List ℕ)) (image : Files)
    → ((q : List ℕ) → IsSome (file_at events q) → SomeOf (λ name. name ≡ q) names)
    → IsCrashImage (NamesSynced ∷ (map Synced names ++ events)) image → image ≡ files_after events

-- a crash leaves a disk after a crash as it is
abbrev pub CrashedDiskHasOneImage : Type 0
CrashedDiskHasOneImage =
    (events : List Event) (image : Files) → ArePlaced events → IsCrashImage events image
    → image ≡ files_after events

-- the pieces one behind the other; the last of them stands first in the list, as in a record
abbrev pub joined : List (List ℕ) → List ℕ
joined [] = []
joined (piece ∷ pieces) = joined pieces ++ piece

-- a file made under the draft name, written in pieces
abbrev pub drafted : List ℕ → List (List ℕ) → List Event → List Event
drafted draft [] base = Created draft ∷ base
drafted draft (piece ∷ pieces) base = Appended draft piece ∷ drafted draft pieces base

-- and then synced, renamed, and the names synced
abbrev pub put : List ℕ → List ℕ → List (List ℕ) → List Event → List Event
put draft name pieces base = NamesSynced ∷ Renamed draft name ∷ Synced draft ∷ drafted draft pieces base

-- A put is safe. Where no crash before it left the name, a crash at any moment of it leaves under the name
-- nothing or the whole, and a crash after it the whole.
abbrev pub PutIsCrashSafe : Type 0
PutIsCrashSafe =
    (draft name : List ℕ) (pieces : List (List ℕ)) (base : List Event) → name ≢ draft
    → ((image : Files) → IsCrashImage base image → get image name ≡ None)
    → (image : Files)
    → (WasCrashImageSince (put draft name pieces base) (length base) image
    → IfSome (get image name) (λ bytes. bytes ≡ joined pieces))
    × (IsCrashImage (put draft name pieces base) image → get image name ≡ Some (joined pieces))
