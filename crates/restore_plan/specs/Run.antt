-- The names of one level, taken in from the front as far as they may come next.
use Rattle.std.specs.Prelude.{◌≡◌, ℕ, ◌+◌, ◌<◌, ◌≤◌, Option, IfSome, IsSomeAnd}
use Rattle.std.specs.Prelude.{List, [], ◌∷◌, length, slice_index, slice_index_or}
use Rattle.std.specs.List.{Contains, All}
use Rattle.replica_store.specs.declared.file_name.FileName.{FileName}
use Rattle.restore_plan.specs.Choice.{IsAsGood}
use Rattle.restore_plan.specs.declared.run.Run.{Run}

-- a file that begins at most one past a transaction and doesn't end beyond t
pub record IsWithin (names : List FileName) (t after : ℕ) (name : FileName) : Type 0 where
  pub there : Contains names name
  pub begins : name.min ≤ after + 1
  pub ends : name.max ≤ t

-- there is one that is at least as good
abbrev pub IsMatched : Option FileName → FileName → Type 0
IsMatched best name = IsSomeAnd best (λ chosen. IsAsGood chosen name)

-- the best of the names of this level that were taken in
pub record IsRun (names : List FileName) (t after : ℕ) (run : Run) : Type 0 where
  pub best : IfSome run.best (IsWithin names t after)
  pub taken : (k : ℕ) (d : FileName) → k < run.at → k < length names → (slice_index_or names k d).level ≡ run.level
      → (slice_index_or names k d).max ≤ t
      → IsMatched run.best (slice_index_or names k d)

-- each name of this level that begins so early was taken in: no other does
pub record HasTakenIn (names : List FileName) (after : ℕ) (run : Run) : Type 0 where
  pub later : (k : ℕ) (d : FileName) → run.at ≤ k → k < length names → (slice_index_or names k d).level ≡ run.level
      → after + 1 < (slice_index_or names k d).min

-- the levels of files
abbrev pub levels : List ℕ
levels = 0 ∷ 1 ∷ 2 ∷ 3 ∷ 9 ∷ []

-- a run of each level
pub record AreRuns (names : List FileName) (t after : ℕ) (runs : List Run) : Type 0 where
  pub all : All (IsRun names t after) runs
  pub count : length runs ≡ 5
  pub each : (k : ℕ) (d : Run) → k < 5 → (slice_index_or runs k d).level ≡ slice_index levels k
