-- The files that are merged into one. This project's rule, over names alone.
use Rattle.std.specs.Prelude.{◌≡◌, ◌≢◌, ℕ, ◌+◌, ◌-◌, ◌<◌, ◌≤◌, List, [], ◌∷◌, ◌++◌, IfSome, slice_get}
use Rattle.std.specs.List.{Contains, All}
use Rattle.replica_store.specs.declared.file_name.FileName.{FileName}
use Rattle.restore_plan.specs.ChosenChain.{IsChosenChain}
use Rattle.compact_levels.specs.Level.{IsMergeLevel, IsEndOf}
use Rattle.compact_levels.specs.declared.run.Run.{Run}

-- a file of the level that begins beyond this transaction
pub record BeginsBeyond (level after : ℕ) (name : FileName) : Type 0 where
  pub of_level : name.level ≡ level
  pub begins : after < name.min

-- a file of the level that begins one past this transaction
pub record GoesOnFrom (level end : ℕ) (name : FileName) : Type 0 where
  pub of_level : name.level ≡ level
  pub begins : name.min ≡ end + 1

-- files of the level, each beginning one past the end before it, from a transaction to another
abbrev pub IsGapless : ℕ → ℕ → List FileName → ℕ → Type 0
IsGapless level from [] to = from ≡ to
IsGapless level from (name ∷ rest) to = GoesOnFrom level from name × IsGapless level name.max rest to

-- The names are in list order, so those of one level stand together. The first file of the level that begins
-- beyond `after`, and those behind it as long as each goes on from the one before.
pub record IsPile (names : List FileName) (level after : ℕ) (first : FileName) (rest : List FileName) (to : ℕ)
    : Type 0 where
  pub before : List FileName
  pub behind : List FileName
  pub parts : names ≡ before ++ first ∷ rest ++ behind
  pub passed : All (λ name. BeginsBeyond level after name → ⊥) before
  pub begins : BeginsBeyond level after first
  pub gapless : IsGapless level first.max rest to
  pub ends : IfSome (slice_get behind 0) (λ name. GoesOnFrom level to name → ⊥)

-- the chosen chain to the newest transaction, where that is retained and beyond `after`
pub record IsWholeChain (names : List FileName) (after : ℕ) (first : FileName) (rest : List FileName) (to : ℕ)
    : Type 0 where
  pub newest : (name : FileName) → Contains names name → name.max ≤ to
  pub beyond : after < to
  pub chain : IsChosenChain names to (first ∷ rest)

-- these files are the run into its level: below level 9 what piled up in the level below behind the end of the
-- level's own files, and for level 9 the chain to the newest transaction
pub record IsRunOf (names : List FileName) (run : Run) (first : FileName) (rest : List FileName) : Type 0 where
  pub level : IsMergeLevel run.level
  pub begins : first.min ≡ run.min
  pub after : ℕ
  pub end : IsEndOf names run.level after
  pub piled : run.level ≢ 9 → IsPile names (run.level - 1) after first rest run.max
  pub whole : run.level ≡ 9 → IsWholeChain names after first rest run.max
