-- What a file that is being put into the replica has done to its disk. Paths are those of names.
use Rattle.std.specs.Prelude.{◌≡◌, ◌≢◌, ◌↔◌, ℕ, ◌≤◌, List, ◌++◌, length, codes, Option, Some, None, IsSome, ◌⊎◌}
use Rattle.std.specs.FinMap.{get}
use Rattle.crash_disk.specs.declared.event.Event.{Event}
use Rattle.crash_disk.specs.Files.{Files, file_at}
use Rattle.crash_disk.specs.FileState.{SomeOf}
use Rattle.crash_disk.specs.GoesOn.{GoesOn}
use Rattle.crash_disk.specs.Images.{MayStandAt, IsCrashImage, WasCrashImageSince}
use Rattle.crash_disk.specs.Numbers.{number_at, numbers_at}
use Rattle.crash_disk.specs.Told.{Told}

-- the temporary name under which a file is written, until it is whole
abbrev pub draft_path : List ℕ → List ℕ
draft_path path = path ++ codes ".tmp"

-- no file has the name
abbrev pub IsAbsent : List Event → List ℕ → Type 0
IsAbsent events name = file_at events name ≡ None

-- All names but the temporary one have the bytes that they had, and a crash at any moment since leaves there what it
-- might have left before.
pub record KeepsOthers (path : List ℕ) (before now : List Event) : Type 0 where
  pub later : length before ≤ length now
  pub files : (q : List ℕ) → q ≢ draft_path path → file_at now q ≡ file_at before q
  pub at_a_stop : (image : Files) → WasCrashImageSince now (length before) image
      → (q : List ℕ) → q ≢ draft_path path → MayStandAt before q (get image q)

-- the file that stands at the name is at no other, and a crash may leave it at no other
pub record IsAlone (events : List Event) (name : List ℕ) : Type 0 where
  pub apart : (number : ℕ) → number_at events name ≡ Some number
      → (q : List ℕ) → q ≢ name → SomeOf (λ other. other ≡ Some number) (numbers_at events q) → ⊥

-- The temporary file has these bytes and is a file of its own. Nothing else has changed.
pub record IsPutting (path bytes : List ℕ) (before now : List Event) : Type 0 where
  pub draft : file_at now (draft_path path) ≡ Some bytes
  pub alone : IsAlone now (draft_path path)
  pub others : KeepsOthers path before now

-- Whenever the file was begun and whatever bytes were put into it up to the call, this holds from then to now.
abbrev pub AfterPutting : List ℕ → Told → Told → (List ℕ → List Event → List Event → Type 0) → Type 0
AfterPutting path old new Holds =
    (begun : Told) (bytes : List ℕ) → GoesOn begun old (IsPutting path bytes) → GoesOn begun new (Holds bytes)

-- Whatever was put into the file, these bytes stand behind it then.
abbrev pub PutsMore : List ℕ → List ℕ → Told → Told → Type 0
PutsMore path more old new = AfterPutting path old new (λ written. IsPutting path (written ++ more))

-- Whatever was put into the file, nothing but the temporary file has changed then.
abbrev pub PutsNothing : List ℕ → Told → Told → Type 0
PutsNothing path old new = AfterPutting path old new (λ written. KeepsOthers path)

-- Where nothing but the temporary file had changed since some moment, so it is then.
abbrev pub StillKeepsOthers : List ℕ → Told → Told → Type 0
StillKeepsOthers path old new =
    (begun : Told) → GoesOn begun old (KeepsOthers path) → GoesOn begun new (KeepsOthers path)

-- what a crash may leave at a name: what it might have left before, or these bytes under the path
abbrev pub KeptOrPut : List ℕ → List ℕ → List Event → List ℕ → Option (List ℕ) → Type 0
KeptOrPut path bytes before q file = MayStandAt before q file ⊎ ((q ≡ path) × (file ≡ Some bytes))

-- The file has these bytes, and every name but the temporary one has those that it had. A crash at any moment since
-- leaves the file with them, or what it might have left before.
pub record Puts (path bytes : List ℕ) (before now : List Event) : Type 0 where
  pub later : length before ≤ length now
  pub file : file_at now path ≡ Some bytes
  pub others : (q : List ℕ) → q ≢ path → q ≢ draft_path path → file_at now q ≡ file_at before q
  pub at_a_stop : (image : Files) → WasCrashImageSince now (length before) image
      → (q : List ℕ) → q ≢ draft_path path → KeptOrPut path bytes before q (get image q)

-- the file was put, though a crash may still leave what was there, or nothing but the temporary file has changed
abbrev pub MayPut : List ℕ → List ℕ → List Event → List Event → Type 0
MayPut path bytes before now = KeepsOthers path before now ⊎ Puts path bytes before now

-- a crash leaves exactly the names that are there
abbrev pub LeavesTheNames : List Event → Type 0
LeavesTheNames events =
    (image : Files) → IsCrashImage events image → (q : List ℕ) → IsSome (get image q) ↔ IsSome (file_at events q)

-- the file was put and a crash leaves it, the temporary file is gone, and a crash leaves exactly the names that are
-- there
pub record HasPut (path bytes : List ℕ) (before now : List Event) : Type 0 where
  pub puts : Puts path bytes before now
  pub draft : IsAbsent now (draft_path path)
  pub stays : (image : Files) → IsCrashImage now image → get image path ≡ Some bytes
  pub names : LeavesTheNames now

-- The files are as they were, a crash leaves nothing that it might not have left before, and exactly the names that
-- are there.
pub record HasSyncedNames (before now : List Event) : Type 0 where
  pub files : (q : List ℕ) → file_at now q ≡ file_at before q
  pub at_a_stop : (image : Files) → WasCrashImageSince now (length before) image
      → (q : List ℕ) → MayStandAt before q (get image q)
  pub names : LeavesTheNames now

-- what a crash may leave at a name where one is dropped: what it might have left before, or the dropped one gone
abbrev pub KeptOrDropped : List ℕ → List Event → List ℕ → Option (List ℕ) → Type 0
KeptOrDropped path before q file = MayStandAt before q file ⊎ ((q ≡ path) × (file ≡ None))

-- Every other file is as it was, and the dropped one too or gone. A crash at any moment since leaves under each name
-- what it might have left before, or the dropped one gone.
pub record MayDrop (path : List ℕ) (before now : List Event) : Type 0 where
  pub file : (file_at now path ≡ file_at before path) ⊎ IsAbsent now path
  pub others : (q : List ℕ) → q ≢ path → file_at now q ≡ file_at before q
  pub at_a_stop : (image : Files) → WasCrashImageSince now (length before) image
      → (q : List ℕ) → KeptOrDropped path before q (get image q)

-- the dropped file is gone
pub record HasDropped (path : List ℕ) (before now : List Event) : Type 0 where
  pub file : IsAbsent now path
  pub may : MayDrop path before now
