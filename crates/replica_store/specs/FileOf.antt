-- The file under a name.
use Rattle.std.specs.Prelude.{◌≡◌, ◌≢◌, ℕ, List, [], ◌∷◌, Some, ◌⊎◌}
use Rattle.std.specs.List.{AllByRecursion}
use Rattle.crash_disk.specs.Files.{Files}
use Rattle.ls_base.specs.Change.{Change}
use Rattle.ltx_format.specs.declared.file.LtxFile.{LtxFile}
use Rattle.ltx_format.specs.declared.header.LtxHeader.{LtxHeader}
use Rattle.ltx_format.specs.FirstFault.{first_fault}
use Rattle.ltx_format.specs.LtxFormat.{IsLtxFile, change_of}
use Rattle.replica_store.specs.declared.error.Damage.{Damage}
use Rattle.replica_store.specs.declared.error.Damage.TheVariants.{File, NameDiffers, SizeDiffers}
use Rattle.replica_store.specs.declared.file_name.FileName.{FileName}
use Rattle.replica_store.specs.Listing.{path_of, bytes_under}

-- the bytes are the file of this header and change, for these first and last transactions
pub record IsFileOf (bytes : List ℕ) (min max : ℕ) (h : LtxHeader) (c : Change) : Type 0 where
  pub file : IsLtxFile bytes h c
  pub from_min : h.min ≡ min
  pub to_max : h.max ≡ max

-- the file of a header and change whose transactions are others than those of the name
pub record IsFileOfOthers (bytes : List ℕ) (min max : ℕ) : Type 0 where
  pub header : LtxHeader
  pub change : Change
  pub file : IsLtxFile bytes header change
  pub differs : (header.min ≢ min) ⊎ (header.max ≢ max)

-- the file of the name has another page size
pub record IsFileOfOtherSize (bytes : List ℕ) (min max size : ℕ) : Type 0 where
  pub header : LtxHeader
  pub change : Change
  pub file : IsFileOf bytes min max header change
  pub differs : header.size ≢ size

-- what is wrong with the bytes under a name, where files of this page size are wanted
abbrev pub IsDamage : List ℕ → FileName → ℕ → Damage → Type 0
IsDamage bytes name size (File fault) = first_fault bytes ≡ Some fault
IsDamage bytes name size NameDiffers = IsFileOfOthers bytes name.min name.max
IsDamage bytes name size SizeDiffers = IsFileOfOtherSize bytes name.min name.max size

-- the bytes under the name are this file
abbrev pub IsFileUnder : Files → FileName → LtxFile → Type 0
IsFileUnder files name file =
    IsFileOf (bytes_under files (path_of name)) name.min name.max file.header (change_of file)

-- these are the files under the names, one for each
abbrev pub AreFilesUnder : Files → List FileName → List LtxFile → Type 0
AreFilesUnder files [] [] = Unit {0}
AreFilesUnder files [] (file ∷ rest) = ⊥
AreFilesUnder files (name ∷ names) [] = ⊥
AreFilesUnder files (name ∷ names) (file ∷ rest) = IsFileUnder files name file × AreFilesUnder files names rest

-- each file has this page size
abbrev pub HavePageSize : ℕ → List LtxFile → Type 0
HavePageSize size files = AllByRecursion (λ file. file.header.size ≡ size) files
