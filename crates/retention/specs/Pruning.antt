-- What the removal of dropped names does to the disk. This project's rule.
use Rattle.std.specs.Prelude.{ℕ, ◌+◌, ◌<◌, List, length, take}
use Rattle.std.specs.List.{Contains, IsDistinct}
use Rattle.crash_disk.specs.declared.event.Event.{Event}
use Rattle.crash_disk.specs.Files.{Files, is_name}
use Rattle.crash_disk.specs.Images.{IsCrashImage, WasCrashImageSince}
use Rattle.replica_store.specs.declared.dated_names.Dated.{Dated}
use Rattle.replica_store.specs.declared.file_name.FileName.{FileName}
use Rattle.replica_store.specs.Chain.{names_of}
use Rattle.replica_store.specs.Dropping.{MayDropAll}
use Rattle.replica_store.specs.Listing.{path_of, paths_of, IsIn}
use Rattle.replica_store.specs.Putting.{IsAbsent, LeavesTheNames}
use Rattle.replica_store.specs.Retained.{IsRetainedIn}
use Rattle.retention.specs.Protected.{IsProtected}

-- The files of so many of the first names are gone. All else is as it was, and so is what a crash leaves of it.
pub record HasDroppedTo (names : List FileName) (count : ℕ) (before now : List Event) : Type 0 where
  pub gone : (path : List ℕ) → Contains (take count (paths_of names)) path → IsAbsent now path
  pub others : MayDropAll (take count (paths_of names)) before now

-- The files of some first names are gone, and besides these at most that of the next name may be gone. All else is as
-- it was, and so is what a crash leaves of it.
pub record IsDroppedInOrder (names : List FileName) (before now : List Event) : Type 0 where
  pub count : ℕ
  pub gone : (path : List ℕ) → Contains (take count (paths_of names)) path → IsAbsent now path
  pub behind : MayDropAll (take (count + 1) (paths_of names)) before now

-- The files of the names are gone, and the others as they were. Where there are any, a crash leaves exactly the names
-- that are there.
pub record HasPruned (names : List FileName) (before now : List Event) : Type 0 where
  pub gone : (name : FileName) → Contains names name → IsAbsent now (path_of name)
  pub others : MayDropAll (paths_of names) before now
  pub synced : 0 < length names → LeavesTheNames now

-- whatever a crash now leaves has each of these files
abbrev pub LeavesAll : List FileName → List Event → Type 0
LeavesAll names events =
    (image : Files) → IsCrashImage events image → (name : FileName) → Contains names name → IsIn image name

-- Where a crash left all of the list's files, each of which stands in it once, each protected transaction is retained
-- in whatever a crash left since.
abbrev pub KeepsProtectedSince : List Dated → ℕ → List Event → List Event → Type 0
KeepsProtectedSince dated cut before now =
    IsDistinct is_name (paths_of (names_of dated)) → LeavesAll (names_of dated) before
    → (image : Files) → WasCrashImageSince now (length before) image
    → (t : ℕ) → IsProtected dated cut t → IsRetainedIn image t
