-- What stands of a replica's files, whatever the upkeep answers.
use Rattle.std.specs.Prelude.{◌≡◌, ℕ, ◌<◌, List, Some, ◌⊎◌}
use Rattle.crash_disk.specs.declared.event.Event.{Event}
use Rattle.crash_disk.specs.Files.{Files, files_after, file_at}
use Rattle.compact_levels.specs.Merged.{IsMergeOf}
use Rattle.ltx_format.specs.declared.file.LtxFile.{LtxFile}
use Rattle.ltx_format.specs.declared.header.LtxHeader.{LtxHeader}
use Rattle.replica_store.specs.declared.dated_names.Dated.{Dated}
use Rattle.replica_store.specs.declared.file_name.FileName.{FileName}
use Rattle.replica_store.specs.Chain.{names_of}
use Rattle.replica_store.specs.Dating.{HaveMoments, IsHeaderUnder}
use Rattle.replica_store.specs.Listing.{AreListed, IsIn, path_of}
use Rattle.replica_store.specs.Putting.{IsAbsent}

-- these are the replica's files with their moments, in list order
pub record AreFiles (files : Files) (dated : List Dated) : Type 0 where
  pub listed : AreListed files (names_of dated)
  pub moments : HaveMoments files dated

-- the file's header tells a moment before the cut
pub record WasOld (files : Files) (cut : ℕ) (name : FileName) : Type 0 where
  pub header : LtxHeader
  pub under : IsHeaderUnder files name header
  pub old : header.moment < cut

-- the file is a merge, of the transactions of its name
pub record IsMergeUnder (events : List Event) (name : FileName) : Type 0 where
  pub bytes : List ℕ
  pub there : file_at events (path_of name) ≡ Some bytes
  pub read : List LtxFile
  pub merge : IsMergeOf read bytes
  pub from_min : merge.header.min ≡ name.min
  pub to_max : merge.header.max ≡ name.max

-- each file that is new is a merge
abbrev pub AreMerges : List Event → List Event → Type 0
AreMerges before now =
    (name : FileName) → IsIn (files_after now) name → IsAbsent before (path_of name) → IsMergeUnder now name

-- each file has the bytes that it had
pub record AddsMerges (before now : List Event) : Type 0 where
  pub old : (name : FileName) → IsIn (files_after before) name
      → file_at now (path_of name) ≡ file_at before (path_of name)
  pub new : AreMerges before now

-- each file has the bytes that it had, or was old and is gone
pub record KeepsFiles (cut : ℕ) (before now : List Event) : Type 0 where
  pub old : (name : FileName) → IsIn (files_after before) name
      → (file_at now (path_of name) ≡ file_at before (path_of name))
      ⊎ (WasOld (files_after before) cut name × IsAbsent now (path_of name))
  pub new : AreMerges before now
