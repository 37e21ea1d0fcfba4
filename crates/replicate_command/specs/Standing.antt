-- What stands of the files that a replica had, whatever the answer to a replication.
use Rattle.std.specs.Prelude.{◌≡◌, ℕ, ◌<◌, List, Some, ◌⊎◌}
use Rattle.crash_disk.specs.declared.event.Event.{Event}
use Rattle.crash_disk.specs.Files.{files_after, file_at}
use Rattle.ls_base.specs.Change.{Change}
use Rattle.ltx_format.specs.declared.header.LtxHeader.{LtxHeader}
use Rattle.ltx_format.specs.LtxFormat.{HasHeader}
use Rattle.replica_store.specs.declared.file_name.FileName.{FileName}
use Rattle.replica_store.specs.FileOf.{IsFileOf}
use Rattle.replica_store.specs.Listing.{IsIn, IsValid, path_of}
use Rattle.replica_store.specs.Putting.{IsAbsent}
use Rattle.replica_upkeep.specs.Kept.{WasOld}

-- Under the name stands a file that begins with a header of the name's transactions. It is a whole file of them, where
-- the name is of a whole database or begins behind the first transaction.
pub record IsWritten (events : List Event) (name : FileName) : Type 0 where
  pub bytes : List ℕ
  pub there : file_at events (path_of name) ≡ Some bytes
  pub header : LtxHeader
  pub change : Change
  pub under : HasHeader bytes header × (header.min ≡ name.min) × (header.max ≡ name.max)
  pub file : (name.level ≡ 9) ⊎ (1 < name.min) → IsFileOf bytes name.min name.max header change

-- nothing stands under the name, or a file that was written for it
abbrev pub IsFreeOrWritten : List Event → FileName → Type 0
IsFreeOrWritten events name = IsAbsent events (path_of name) ⊎ IsWritten events name

-- Each file has the bytes that it had. One whose header told a moment before the cut may be gone, and then another one
-- may have been written under its name. So it is of each name that was free.
pub record KeepsStanding (cut : ℕ) (before now : List Event) : Type 0 where
  pub old : (name : FileName) → IsIn (files_after before) name
      → (file_at now (path_of name) ≡ file_at before (path_of name))
      ⊎ (WasOld (files_after before) cut name × IsFreeOrWritten now name)
  pub new : (name : FileName) → IsValid name → IsAbsent before (path_of name) → IsFreeOrWritten now name
