-- What is dropped of a list of names with their moments. This project's rule.
use Rattle.std.specs.Prelude.{◌≡◌, ℕ, ◌<◌, Bool, true, false, List, length, Some, slice_get, slice_index, slice_set}
use Rattle.std.specs.List.{Contains}
use Rattle.replica_store.specs.declared.dated_names.Dated.{Dated}
use Rattle.replica_store.specs.declared.file_name.FileName.{FileName}
use Rattle.replica_store.specs.Chain.{IsRetained, names_of}
use Rattle.retention.specs.Protected.{IsOld, KeepsProtected}
use Rattle.retention.specs.Retained.{Rises}
use Rattle.retention.specs.Walk.{IsWalk, standing, dropped}

-- those of some numbers that aren't among others, rising
pub record AreMissing (before after lost : List ℕ) : Type 0 where
  pub rises : Rises lost
  pub each : (k : ℕ) → k < length lost
      → Contains before (slice_index lost k) × (Contains after (slice_index lost k) → ⊥)
  pub all : (t : ℕ) → Contains before t → (Contains after t → ⊥) → Contains lost t

-- the transactions that are retained in the names and not in those that are left, rising
pub record AreLost (names left : List FileName) (lost : List ℕ) : Type 0 where
  pub rises : Rises lost
  pub each : (k : ℕ) → k < length lost
      → IsRetained names (slice_index lost k) × (IsRetained left (slice_index lost k) → ⊥)
  pub all : (t : ℕ) → IsRetained names t → (IsRetained left t → ⊥) → Contains lost t

-- no old name that is kept could go without the loss of a protected transaction
abbrev pub IsLeast : List Dated → ℕ → List Bool → Type 0
IsLeast dated cut kept =
    (i : ℕ) (one : Dated) → slice_get dated i ≡ Some one → IsOld cut one → slice_get kept i ≡ Some true
    → KeepsProtected dated cut (standing (slice_set kept i false) dated) → ⊥

-- the names that the walk drops, in their order, and the transactions that are lost with them. No protected one is,
-- and no further old name could go.
pub record AreDrops (dated : List Dated) (cut : ℕ) (names : List FileName) (lost : List ℕ) : Type 0 where
  pub kept : List Bool
  pub walk : IsWalk dated cut kept
  pub drops : names ≡ dropped kept dated
  pub losses : AreLost (names_of dated) (standing kept dated) lost
  pub protected : KeepsProtected dated cut (standing kept dated)
  pub least : IsLeast dated cut kept

-- what was decided, and of what
pub record Decision : Type 0 where
  pub dated : List Dated
  pub cut : ℕ
  pub names : List FileName
  pub lost : List ℕ
