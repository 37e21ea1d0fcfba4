-- Paths, and words that name a scheme. This project's rule.
use Rattle.std.specs.Prelude.{ℕ, Bool, false, not, ◌||◌, ◌==◌, if◌then◌else◌, List, [], ◌∷◌, length, codes, Option}
use Rattle.std.specs.Prelude.{Some, None, nat_eq, bytes_eq}
use Rattle.std.specs.List.{starts_with}

-- a folder and a name in it
pub record Output : Type 0 where
  pub folder : List ℕ
  pub name : List ℕ

-- a character in front of a text that is cut at its last `/`, where it is
abbrev pub last_cut : ℕ → List ℕ → Option Output → Option Output
last_cut c rest (Some cut) = Some (record { folder = c ∷ cut.folder; name = cut.name })
last_cut c rest None = if c == 47 then Some (record { folder = []; name = rest }) else None

-- the text cut at its last `/`, where it has one
abbrev pub cut_at_last_slash : List ℕ → Option Output
cut_at_last_slash [] = None
cut_at_last_slash (c ∷ cs) = last_cut c cs (cut_at_last_slash cs)

-- what stands before the last `/` is the folder: `/` where that is empty, and `.` where there is no `/`
abbrev pub placed : List ℕ → Option Output → Output
placed path None = record { folder = codes "."; name = path }
placed path (Some cut) = record { folder = if length cut.folder == 0 then codes "/" else cut.folder; name = cut.name }

-- the name of a file: not empty, `.` or `..`
unfoldable pub is_file_name : List ℕ → Bool
is_file_name name = not ((length name == 0) || (bytes_eq name (codes ".") || bytes_eq name (codes "..")))

-- a path that leads to a file
unfoldable pub is_path : List ℕ → Bool
is_path path = let at = placed path (cut_at_last_slash path) in is_file_name at.name

-- the path that a text writes
unfoldable pub path_of : List ℕ → Option (List ℕ)
path_of text = if is_path text then Some text else None

-- the text holds `://`
abbrev pub names_scheme : List ℕ → Bool
names_scheme [] = false
names_scheme (c ∷ cs) = starts_with nat_eq (c ∷ cs) (codes "://") || names_scheme cs
