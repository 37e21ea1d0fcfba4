-- The levels that files are merged into, and how often. This project's rule.
use Rattle.std.specs.Prelude.{◌≡◌, ℕ, ◌≤◌, ◌==◌, ◌⊎◌, List, if◌then◌else◌}
use Rattle.std.specs.List.{Contains}
use Rattle.replica_store.specs.declared.file_name.FileName.{FileName}

-- a level of merged files
abbrev pub IsMergeLevel : ℕ → Type 0
IsMergeLevel level = (level ≡ 1) ⊎ (level ≡ 2) ⊎ (level ≡ 3) ⊎ (level ≡ 9)

-- its interval in milliseconds: 30 seconds for level 1, 5 minutes for 2, an hour for 3, a day for 9
abbrev pub interval : ℕ → ℕ
interval level =
    if level == 1 then 30000 else if level == 2 then 300000 else if level == 3 then 3600000 else 86400000

-- a file of this level
pub record IsOfLevel (names : List FileName) (level : ℕ) (name : FileName) : Type 0 where
  pub there : Contains names name
  pub of_level : name.level ≡ level

-- no file of the level ends beyond this transaction
abbrev pub IsBound : List FileName → ℕ → ℕ → Type 0
IsBound names level bound = (name : FileName) → IsOfLevel names level name → name.max ≤ bound

-- the transaction up to which the level's files go: the least that none ends beyond, 0 where the level has none
pub record IsEndOf (names : List FileName) (level end : ℕ) : Type 0 where
  pub bound : IsBound names level end
  pub least : (other : ℕ) → IsBound names level other → end ≤ other

-- the last file of the level: none ends beyond it, and of those that end with it none stands before it in list
-- order
pub record IsLastOf (names : List FileName) (level : ℕ) (name : FileName) : Type 0 where
  pub is : IsOfLevel names level name
  pub farthest : IsBound names level name.max
  pub first : (other : FileName) → IsOfLevel names level other → other.max ≡ name.max → name.min ≤ other.min
