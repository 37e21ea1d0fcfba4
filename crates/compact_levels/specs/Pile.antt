-- Files that were found on the way through a list of names.
use Rattle.std.specs.Prelude.{◌≡◌, ◌≢◌, ℕ, ◌-◌, IfSome, Option, Some, None, List, ◌∷◌, ◌++◌}
use Rattle.std.specs.List.{All}
use Rattle.replica_store.specs.declared.file_name.FileName.{FileName}
use Rattle.compact_levels.specs.Level.{IsOfLevel, IsLastOf}
use Rattle.compact_levels.specs.Run.{BeginsBeyond, GoesOnFrom, IsGapless, IsPile, IsWholeChain}
use Rattle.compact_levels.specs.declared.files.Files.{Files}

-- the last file of the level among these names, if it has one
abbrev pub IsLastSoFar : List FileName → ℕ → Option FileName → Type 0
IsLastSoFar names level None = (name : FileName) → IsOfLevel names level name → ⊥
IsLastSoFar names level (Some last) = IsLastOf names level last

-- these names end with the files, of which the first is the first that begins beyond `after`
pub record IsOpenPile (passed : List FileName) (level after : ℕ) (files : Files) : Type 0 where
  pub before : List FileName
  pub rest : List FileName
  pub parts : passed ≡ before ++ files.first ∷ rest
  pub earlier : All (λ name. BeginsBeyond level after name → ⊥) before
  pub begins : BeginsBeyond level after files.first
  pub gapless : IsGapless level files.first.max rest files.end

-- the files that these names end with, or no name of these begins beyond `after`
abbrev pub IsPileSoFar : List FileName → ℕ → ℕ → Option Files → Type 0
IsPileSoFar passed level after None = All (λ name. BeginsBeyond level after name → ⊥) passed
IsPileSoFar passed level after (Some files) = IsOpenPile passed level after files

-- files were begun, and the name doesn't go on from them
abbrev pub IsEndedBy : ℕ → Option Files → FileName → Type 0
IsEndedBy level None name = ⊥
IsEndedBy level (Some files) name = GoesOnFrom level files.end name → ⊥

-- where files were begun, the name goes on from them
abbrev pub GoesOnAll : ℕ → Option Files → FileName → Type 0
GoesOnAll level files name = IfSome files (λ begun. GoesOnFrom level begun.end name)

-- the first file and the end of what piled up
pub record PilesUp (names : List FileName) (level after : ℕ) (files : Files) : Type 0 where
  pub rest : List FileName
  pub pile : IsPile names level after files.first rest files.end

-- the first file and the end of the chain to the newest transaction
pub record LeadsToNewest (names : List FileName) (after : ℕ) (files : Files) : Type 0 where
  pub rest : List FileName
  pub chain : IsWholeChain names after files.first rest files.end

-- the first file and the end of the run into this level, whose own files end with `after`
pub record AreFilesFor (names : List FileName) (level after : ℕ) (files : Files) : Type 0 where
  pub rest : List FileName
  pub piled : level ≢ 9 → IsPile names (level - 1) after files.first rest files.end
  pub whole : level ≡ 9 → IsWholeChain names after files.first rest files.end

-- the same level and transactions
pub record IsSameName (a b : FileName) : Type 0 where
  pub level : a.level ≡ b.level
  pub min : a.min ≡ b.min
  pub max : a.max ≡ b.max
