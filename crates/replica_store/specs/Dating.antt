-- The headers under names, and the moments that they tell.
use Rattle.std.specs.Prelude.{◌≡◌, ◌≢◌, ℕ, List, ◌∷◌, ◌++◌, take, Some, ◌⊎◌, ⊤}
use Rattle.std.specs.List.{AllByRecursion}
use Rattle.crash_disk.specs.Files.{Files, files_after}
use Rattle.crash_disk.specs.Told.{Told, IfTold}
use Rattle.ltx_format.specs.declared.header.LtxHeader.{LtxHeader}
use Rattle.ltx_format.specs.FirstFault.{header_fault}
use Rattle.ltx_format.specs.LtxFormat.{HasHeader}
use Rattle.replica_store.specs.declared.dated_names.Dated.{Dated}
use Rattle.replica_store.specs.declared.error.Damage.{Damage}
use Rattle.replica_store.specs.declared.error.Damage.TheVariants.{File, NameDiffers, SizeDiffers}
use Rattle.replica_store.specs.declared.error.StoreError.{StoreError}
use Rattle.replica_store.specs.declared.error.StoreError.TheVariants.{Store, Damaged, Memory}
use Rattle.replica_store.specs.declared.file_name.FileName.{FileName}
use Rattle.replica_store.specs.Chain.{names_of}
use Rattle.replica_store.specs.Listing.{path_of, bytes_under}

-- the file of the name has this header, of the name's transactions
pub record IsHeaderUnder (files : Files) (name : FileName) (header : LtxHeader) : Type 0 where
  pub has : HasHeader (bytes_under files (path_of name)) header
  pub from_min : header.min ≡ name.min
  pub to_max : header.max ≡ name.max

-- the file of the name has a header of other transactions
pub record IsHeaderOfOthers (files : Files) (name : FileName) : Type 0 where
  pub header : LtxHeader
  pub has : HasHeader (bytes_under files (path_of name)) header
  pub differs : (header.min ≢ name.min) ⊎ (header.max ≢ name.max)

-- what is wrong with the first 100 bytes under the name
abbrev pub IsHeaderDamage : Files → FileName → Damage → Type 0
IsHeaderDamage files name (File fault) = header_fault (take 100 (bytes_under files (path_of name))) ≡ Some fault
IsHeaderDamage files name NameDiffers = IsHeaderOfOthers files name
IsHeaderDamage files name SizeDiffers = ⊥

-- each name has the moment that its file's header tells
abbrev pub HaveMoments : Files → List Dated → Type 0
HaveMoments files dated =
    AllByRecursion (λ d. (header : LtxHeader) × IsHeaderUnder files d.name header × (header.moment ≡ d.moment)) dated

-- the names with their moments
pub record AreDated (files : Files) (names : List FileName) (dated : List Dated) : Type 0 where
  pub names_are : names_of dated ≡ names
  pub moments : HaveMoments files dated

-- so many of the first names with their moments
pub record AreDatedTo (files : Files) (names : List FileName) (at : ℕ) (dated : List Dated) : Type 0 where
  pub names_are : names_of dated ≡ take at names
  pub moments : HaveMoments files dated

-- the first name whose file has no header of its transactions
pub record IsFirstBadHeader (files : Files) (names : List FileName) (name : FileName) (damage : Damage) : Type 0
  where
    pub before : List Dated
    pub after : List FileName
    pub split : names ≡ names_of before ++ name ∷ after
    pub moments : HaveMoments files before
    pub damaged : IsHeaderDamage files name damage

-- the header, where the disk tells its content
abbrev pub TellsHeader : Told → FileName → LtxHeader → Type 0
TellsHeader store name header = IfTold store (λ events. IsHeaderUnder (files_after events) name header)

-- the names with their moments, where the disk tells its content
abbrev pub TellsDated : Told → List FileName → List Dated → Type 0
TellsDated store names dated = IfTold store (λ events. AreDated (files_after events) names dated)

-- what an error of reading one header means; it is never want of memory
abbrev pub ExplainsHeader : Told → FileName → StoreError → Type 0
ExplainsHeader store name (Damaged other damage) =
    (other ≡ name) × IfTold store (λ events. IsHeaderDamage (files_after events) name damage)
ExplainsHeader store name (Store fault) = ⊤
ExplainsHeader store name Memory = ⊥

-- what an error of reading the headers of names means
abbrev pub ExplainsDated : Told → List FileName → StoreError → Type 0
ExplainsDated store names (Damaged name damage) =
    IfTold store (λ events. IsFirstBadHeader (files_after events) names name damage)
ExplainsDated store names (Store fault) = ⊤
ExplainsDated store names Memory = ⊤
