-- The names of a replica's files. This project's rule.
use Rattle.std.specs.Prelude.{◌≡◌, ℕ, ◌^◌, ◌<◌, ◌≤◌, Bool, List, [], ◌∷◌, ◌++◌, ◌==◌, ◌+◌, codes, IsTrue}
use Rattle.std.specs.List.{list_any}
use Rattle.ls_base.specs.Txid.{hex_digits}

-- the levels of files
abbrev pub is_level : ℕ → Bool
is_level level = list_any (λ known. known == level) (0 ∷ 1 ∷ 2 ∷ 3 ∷ 9 ∷ [])

-- a file may have this name: a known level, and transactions in order; level 9 begins with the first
pub record IsName (level min max : ℕ) : Type 0 where
  pub known : IsTrue (is_level level)
  pub from_first : 1 ≤ min
  pub in_order : min ≤ max
  pub max_fits : max < 2 ^ 64
  pub whole : level ≡ 9 → min ≡ 1

-- `ltx/<level>/<min>-<max>.ltx`, the transactions in 16 hexadecimal digits
unfoldable pub file_path : ℕ → ℕ → ℕ → List ℕ
file_path level min max =
    codes "ltx/" ++ (48 + level) ∷ codes "/" ++ hex_digits min ++ codes "-" ++ hex_digits max ++ codes ".ltx"

-- the path of the file that holds the whole database as of transaction t
abbrev pub whole_path : ℕ → List ℕ
whole_path t = file_path 9 1 t
