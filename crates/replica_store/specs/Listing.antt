-- What a list of a replica's files has.
use Rattle.std.specs.Prelude.{◌≡◌, ◌↔◌, ℕ, List, [], ◌∷◌, map, unwrap_or, IsSome, ◌⊎◌}
use Rattle.std.specs.List.{Contains, IsDistinct, All}
use Rattle.std.specs.FinMap.{get}
use Rattle.crash_disk.specs.Files.{Files, files_after, is_name}
use Rattle.crash_disk.specs.Told.{Told, IfTold}
use Rattle.replica_store.specs.declared.file_name.FileName.{FileName}
use Rattle.replica_store.specs.NameText.{IsName, file_path}
use Rattle.replica_store.specs.Chain.{IsListOrdered}

-- the path of a file
abbrev pub path_of : FileName → List ℕ
path_of name = file_path name.level name.min name.max

abbrev pub paths_of : List FileName → List (List ℕ)
paths_of names = map path_of names

-- the text is the path that some name writes
pub record IsFilePath (text : List ℕ) : Type 0 where
  pub level : ℕ
  pub min : ℕ
  pub max : ℕ
  pub valid : IsName level min max
  pub is : text ≡ file_path level min max

-- the parts of the name are in their ranges
abbrev pub IsValid : FileName → Type 0
IsValid name = IsName name.level name.min name.max

-- the names are those of the files that are there under the path of a name, each once, in list order
pub record AreListed (files : Files) (names : List FileName) : Type 0 where
  pub ordered : IsListOrdered names
  pub valid : All IsValid names
  pub once : IsDistinct is_name (paths_of names)
  pub each : (text : List ℕ) → Contains (paths_of names) text ↔ (IsFilePath text × IsSome (get files text))

-- the name is valid, and a file is there under its path
pub record IsIn (files : Files) (name : FileName) : Type 0 where
  pub valid : IsValid name
  pub there : IsSome (get files (path_of name))

-- the names that these texts write, in the order of the texts; a text that is no path is passed over
abbrev pub AreReadOf : List (List ℕ) → List FileName → Type 0
AreReadOf [] names = names ≡ []
AreReadOf (text ∷ texts) names =
    ((name : FileName) × (rest : List FileName) × (names ≡ name ∷ rest) × (text ≡ path_of name) × IsValid name
    × AreReadOf texts rest)
    ⊎ ((IsFilePath text → ⊥) × AreReadOf texts names)

-- the bytes under a path; an absent file has none
abbrev pub bytes_under : Files → List ℕ → List ℕ
bytes_under files path = unwrap_or (get files path) []

-- the bytes under a name, where the disk tells its content
abbrev pub TellsBytes : Told → FileName → List ℕ → Type 0
TellsBytes store name bytes = IfTold store (λ events. bytes ≡ bytes_under (files_after events) (path_of name))
