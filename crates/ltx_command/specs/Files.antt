-- What a listing tells of a replica's files.
use Rattle.std.specs.Prelude.{◌≡◌, ℕ, List, map, length}
use Rattle.crash_disk.specs.Files.{Files, files_after}
use Rattle.crash_disk.specs.Told.{Told, IfTold}
use Rattle.replica_store.specs.declared.dated_names.Dated.{Dated}
use Rattle.replica_store.specs.declared.error.Damage.{Damage}
use Rattle.replica_store.specs.declared.file_name.FileName.{FileName}
use Rattle.replica_store.specs.Chain.{names_of}
use Rattle.replica_store.specs.Dating.{AreDated, IsFirstBadHeader}
use Rattle.replica_store.specs.Listing.{AreListed, bytes_under, path_of}

-- a fact about the files as they read, asked only where they are told
abbrev pub IfFilesTold : Told → (Files → Type 0) → Type 0
IfFilesTold told P = IfTold told (λ events. P (files_after events))

-- how many bytes the file of the name has
abbrev pub size_under : Files → FileName → ℕ
size_under files name = length (bytes_under files (path_of name))

-- the replica's files in list order, with the moments that their headers tell and their sizes
pub record AreFilesOf (files : Files) (dated : List Dated) (sizes : List ℕ) : Type 0 where
  pub listed : AreListed files (names_of dated)
  pub moments : AreDated files (names_of dated) dated
  pub sizes_are : sizes ≡ map (size_under files) (names_of dated)

-- the first file in list order whose header is damaged
pub record IsFirstDamaged (files : Files) (name : FileName) (damage : Damage) : Type 0 where
  pub names : List FileName
  pub listed : AreListed files names
  pub bad : IsFirstBadHeader files names name damage

-- each file of the replica has a header of its name's transactions
pub record HeadersAreGood (files : Files) : Type 0 where
  pub dated : List Dated
  pub listed : AreListed files (names_of dated)
  pub moments : AreDated files (names_of dated) dated
