-- When a run is due. This project's rule.
use Rattle.std.specs.Prelude.{◌≡◌, ℕ, ◌<◌, ◌/◌, ◌==◌, ◌&&◌, List, [], ◌∷◌, Bool, Option, Some, None, if◌then◌else◌}
use Rattle.replica_store.specs.declared.dated_names.Dated.{Dated}
use Rattle.replica_store.specs.declared.file_name.FileName.{FileName}
use Rattle.replica_store.specs.Chain.{names_of}
use Rattle.compact_levels.specs.Level.{interval, IsLastOf, IsOfLevel}
use Rattle.compact_levels.specs.Run.{IsRunOf}
use Rattle.compact_levels.specs.declared.run.Run.{Run}

-- whether both have the same level and transactions
abbrev pub is_same_name : FileName → FileName → Bool
is_same_name a b = a.level == b.level && a.min == b.min && a.max == b.max

-- the moment that the list tells of a file
abbrev pub file_moment : List Dated → FileName → Option ℕ
file_moment [] name = None
file_moment (dated ∷ rest) name = if is_same_name dated.name name then Some dated.moment else file_moment rest name

-- the moment from which the run waits: that of the level's last file or, where the level has none, of the run's
-- first
pub record WaitsSince (dated : List Dated) (level : ℕ) (first : FileName) (moment : ℕ) : Type 0 where
  pub of_last : (last : FileName) → IsLastOf (names_of dated) level last → file_moment dated last ≡ Some moment
  pub of_first : ((name : FileName) → IsOfLevel (names_of dated) level name → ⊥)
      → file_moment dated first ≡ Some moment

-- the run is due: since that moment a multiple of the interval came
pub record IsDue (dated : List Dated) (now : ℕ) (run : Run) : Type 0 where
  pub first : FileName
  pub rest : List FileName
  pub files : IsRunOf (names_of dated) run first rest
  pub moment : ℕ
  pub waits : WaitsSince dated run.level first moment
  pub late : moment / interval run.level < now / interval run.level
