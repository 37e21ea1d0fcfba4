-- The names that the merges of a round add. This project's rule.
use Rattle.std.specs.Prelude.{◌≡◌, ℕ, List, [], ◌∷◌, ◌++◌, Some, ◌⊎◌}
use Rattle.std.specs.List.Sorted.{IsPermutation}
use Rattle.compact_levels.specs.Due.{IsDue, file_moment}
use Rattle.compact_levels.specs.Merged.{AreRunFiles, IsNameOf}
use Rattle.compact_levels.specs.declared.run.Run.{Run}
use Rattle.replica_store.specs.declared.dated_names.Dated.{Dated}
use Rattle.replica_store.specs.declared.file_name.FileName.{FileName}
use Rattle.replica_store.specs.Chain.{IsListOrdered, names_of}

-- the list with one name more, in list order
pub record IsWith (dated : List Dated) (one : Dated) (longer : List Dated) : Type 0 where
  pub same : IsPermutation (one ∷ dated) longer
  pub ordered : IsListOrdered (names_of longer)

-- the name of the run's merged file, with the moment of the last file of the run
pub record IsDatedRun (dated : List Dated) (run : Run) (one : Dated) : Type 0 where
  pub named : IsNameOf run one.name
  pub plan : List FileName
  pub files : AreRunFiles (names_of dated) run plan
  pub before : List FileName
  pub last : FileName
  pub ends : plan ≡ before ++ last ∷ []
  pub moment : file_moment dated last ≡ Some one.moment

-- a run is due at the level, and the name of its merged file joins the list
pub record JoinsRun (level now : ℕ) (dated longer : List Dated) : Type 0 where
  pub run : Run
  pub at_level : run.level ≡ level
  pub due : IsDue dated now run
  pub one : Dated
  pub dates : IsDatedRun dated run one
  pub joins : IsWith dated one longer

-- no run is due at the level
abbrev pub LacksDue : ℕ → ℕ → List Dated → Type 0
LacksDue level now dated = (run : Run) → run.level ≡ level → IsDue dated now run → ⊥

-- the turn of a level
abbrev pub MergesLevel : ℕ → ℕ → List Dated → List Dated → Type 0
MergesLevel level now dated longer = (LacksDue level now dated × (longer ≡ dated)) ⊎ JoinsRun level now dated longer

-- the turns of levels, each over the names as they are then
abbrev pub MergesLevels : List ℕ → ℕ → List Dated → List Dated → Type 0
MergesLevels [] now dated longer = longer ≡ dated
MergesLevels (level ∷ levels) now dated longer =
    (mid : List Dated) × MergesLevel level now dated mid × MergesLevels levels now mid longer

-- the levels that have a turn, in this order
abbrev pub merge_levels : List ℕ
merge_levels = 1 ∷ 2 ∷ 3 ∷ 9 ∷ []
