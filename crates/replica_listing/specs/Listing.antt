-- The listing of a replica's files. This project's rule.
use Rattle.std.specs.Prelude.{ℕ, List, [], ◌∷◌, ◌++◌, codes, decimal}
use Rattle.ls_base.specs.Txid.{hex_digits}
use Rattle.replica_store.specs.declared.dated_names.Dated.{Dated}
use Rattle.replica_listing.specs.MomentText.{moment_text}

-- what the columns are
unfoldable pub head_line : List ℕ
head_line = codes "level min_txid max_txid size created\n"

-- the line of a file: level, first and last transaction in 16 digits, size in bytes, and moment
abbrev pub file_line : Dated → ℕ → List ℕ
file_line dated size =
    decimal dated.name.level ++ codes " " ++ hex_digits dated.name.min ++ codes " " ++ hex_digits dated.name.max
    ++ codes " " ++ decimal size ++ codes " " ++ moment_text dated.moment ++ codes "\n"

-- the lines of files, each with its size
unfoldable pub file_lines : List Dated → List ℕ → List ℕ
file_lines (dated ∷ names) (size ∷ sizes) = file_line dated size ++ file_lines names sizes
file_lines names sizes = []

-- the whole listing
abbrev pub listing : List Dated → List ℕ → List ℕ
listing names sizes = head_line ++ file_lines names sizes
