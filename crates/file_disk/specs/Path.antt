-- The paths of a disk's files.
use Rattle.std.specs.Prelude.{◌≡◌, ℕ, List, [], ◌∷◌, ◌++◌, Option, IfSome}

-- the path of a name below a folder; an empty folder is the current one
abbrev pub path_below : List ℕ → List ℕ → List ℕ
path_below [] name = name
path_below (first ∷ rest) name = (first ∷ rest) ++ 47 ∷ name

-- where there is a folder, the text is the path of the name below it
abbrev pub IsPathOf : Option (List ℕ) → List ℕ → List ℕ → Type 0
IsPathOf folder name path = IfSome folder (λ above. path ≡ path_below above name)
