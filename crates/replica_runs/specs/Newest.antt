-- The line that a run follows: that of the newest transaction.
use Rattle.std.specs.Prelude.{◌≡◌, ℕ, ◌≤◌, max, ◌==◌, List, [], ◌∷◌, Option, Some, None, if◌then◌else◌, ⊤}
use Rattle.crash_disk.specs.Files.{Files, files_after}
use Rattle.crash_disk.specs.Told.{Told, IfTold}
use Rattle.ls_base.specs.declared.line.Line.{Line}
use Rattle.ls_base.specs.declared.place.Place.{Place}
use Rattle.ls_base.specs.declared.place.Place.TheVariants.{Wal, Rest}
use Rattle.ltx_format.specs.declared.header.LtxHeader.{LtxHeader}
use Rattle.replica_store.specs.declared.error.StoreError.{StoreError}
use Rattle.replica_store.specs.declared.error.StoreError.TheVariants.{Store, Damaged, Memory}
use Rattle.replica_store.specs.declared.file_name.FileName.{FileName}
use Rattle.replica_store.specs.Chain.{IsRetained}
use Rattle.replica_store.specs.Dating.{IsHeaderUnder, IsHeaderDamage}
use Rattle.replica_store.specs.Listing.{AreListed}

-- the greatest transaction with which a file ends, 0 where there is no file
abbrev pub newest_of : List FileName → ℕ
newest_of [] = 0
newest_of (name ∷ names) = max name.max (newest_of names)

-- the first file in list order that ends with the transaction
abbrev pub first_ending : List FileName → ℕ → Option FileName
first_ending [] t = None
first_ending (name ∷ names) t = if name.max == t then Some name else first_ending names t

-- the first file that ends with the newest transaction, and a chain of the files leads there
pub record IsNewestOf (names : List FileName) (name : FileName) : Type 0 where
  pub retained : IsRetained names (newest_of names)
  pub first : first_ending names (newest_of names) ≡ Some name

-- there is no file, or no chain of files leads to the newest transaction
abbrev pub LacksNewestOf : List FileName → Type 0
LacksNewestOf names = IsRetained names (newest_of names) → ⊥

-- the same of the files that are there: the file whose header is read
pub record IsNewestFile (files : Files) (name : FileName) : Type 0 where
  pub names : List FileName
  pub listed : AreListed files names
  pub is : IsNewestOf names name

pub record LacksNewest (files : Files) : Type 0 where
  pub names : List FileName
  pub listed : AreListed files names
  pub lacks : LacksNewestOf names

-- the header of that file tells the line
pub record TellsNewest (files : Files) (line : Line) : Type 0 where
  pub name : FileName
  pub is : IsNewestFile files name
  pub header : LtxHeader
  pub under : IsHeaderUnder files name header
  pub told : line ≡ record { place = header.place; moment = header.moment }

-- the line, or that there is none to follow
abbrev pub IsNewestLine : Files → Option Line → Type 0
IsNewestLine files (Some line) = TellsNewest files line
IsNewestLine files None = LacksNewest files

-- a log can have a commit at the place, or it is at rest
abbrev pub IsBehindHeader : Place → Type 0
IsBehindHeader (Wal a b end s0 s1) = 32 ≤ end
IsBehindHeader (Rest sum) = Unit {0}

abbrev pub HasPlaceBehind : Option Line → Type 0
HasPlaceBehind (Some line) = IsBehindHeader line.place
HasPlaceBehind None = Unit {0}

-- what an error of looking for it means
abbrev pub ExplainsNewest : Told → StoreError → Type 0
ExplainsNewest store (Damaged name damage) =
    IfTold store (λ events. IsNewestFile (files_after events) name × IsHeaderDamage (files_after events) name damage)
ExplainsNewest store (Store fault) = ⊤
ExplainsNewest store Memory = ⊤
