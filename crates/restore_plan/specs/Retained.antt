-- The greatest retained transaction below another. This project's rule.
use Rattle.std.specs.Prelude.{◌≡◌, ℕ, ◌<◌, ◌≤◌, ◌⊎◌, List}
use Rattle.replica_store.specs.declared.file_name.FileName.{FileName}
use Rattle.replica_store.specs.Chain.{IsRetained}

-- the greatest retained transaction below the bound, 0 where there is none
pub record IsGreatestRetainedBelow (names : List FileName) (bound greatest : ℕ) : Type 0 where
  pub is : (greatest ≡ 0) ⊎ IsRetained names greatest
  pub below : greatest < bound
  pub others : (other : ℕ) → IsRetained names other → other < bound → other ≤ greatest
