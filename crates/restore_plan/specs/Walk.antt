-- Names that are walked by their ends, each level's in its turn.
use Rattle.std.specs.Prelude.{◌≡◌, ◌≢◌, ℕ, ◌<◌, ◌≤◌, Option, Some, IsSomeAnd}
use Rattle.std.specs.Prelude.{List, length, slice_get, slice_index, slice_index_or}
use Rattle.std.specs.List.{Contains, All}
use Rattle.replica_store.specs.declared.file_name.FileName.{FileName}
use Rattle.replica_store.specs.Chain.{MayComeNext}
use Rattle.restore_plan.specs.Run.{levels}
use Rattle.restore_plan.specs.declared.walk.Walk.{Walk}

-- in each level the ends of the names never fall
abbrev pub AreRising : List FileName → Type 0
AreRising names = (i k : ℕ) (d : FileName) → i ≤ k → k < length names
    → (slice_index_or names i d).level ≡ (slice_index_or names k d).level
    → (slice_index_or names i d).max ≤ (slice_index_or names k d).max

-- no name of the level that was passed ends beyond the transaction
pub record IsWalk (names : List FileName) (after : ℕ) (walk : Walk) : Type 0 where
  pub passed : (k : ℕ) (d : FileName) → k < walk.at → k < length names → (slice_index_or names k d).level ≡ walk.level
      → (slice_index_or names k d).max ≤ after

-- it stands at this name of its level, which ends beyond the transaction
pub record StandsAt (names : List FileName) (after : ℕ) (walk : Walk) (name : FileName) : Type 0 where
  pub here : slice_get names walk.at ≡ Some name
  pub level : name.level ≡ walk.level
  pub beyond : after < name.max

-- it stands at the first name of its level that ends with the transaction
pub record StandsAtFirst (names : List FileName) (t : ℕ) (walk : Walk) : Type 0 where
  pub within : walk.at < length names
  pub level : (d : FileName) → (slice_index_or names walk.at d).level ≡ walk.level
  pub ends : (d : FileName) → (slice_index_or names walk.at d).max ≡ t
  pub others : (k : ℕ) (d : FileName) → k < walk.at → (slice_index_or names k d).level ≡ walk.level
      → (slice_index_or names k d).max ≢ t

-- a name that may come next after a transaction ends there
pub record IsEndOfNext (names : List FileName) (after end : ℕ) : Type 0 where
  pub name : FileName
  pub there : Contains names name
  pub next : MayComeNext after name
  pub ends : name.max ≡ end

-- there is an end, and it is no later
abbrev pub IsNoLater : Option ℕ → ℕ → Type 0
IsNoLater first end = IsSomeAnd first (λ own. own ≤ end)

-- a walk of each level
pub record AreWalks (names : List FileName) (after : ℕ) (walks : List Walk) : Type 0 where
  pub all : All (IsWalk names after) walks
  pub count : length walks ≡ 5
  pub each : (k : ℕ) (d : Walk) → k < 5 → (slice_index_or walks k d).level ≡ slice_index levels k
