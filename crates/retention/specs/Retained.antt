-- The retained transactions of a list of names, all of them, rising.
use Rattle.std.specs.Prelude.{ℕ, ◌<◌, List, length, slice_index}
use Rattle.std.specs.List.{Contains}
use Rattle.replica_store.specs.declared.file_name.FileName.{FileName}
use Rattle.replica_store.specs.Chain.{IsRetained}

-- each number is below those after it
abbrev pub Rises : List ℕ → Type 0
Rises ts = (i j : ℕ) → i < j → j < length ts → slice_index ts i < slice_index ts j

pub record AreRetained (names : List FileName) (ts : List ℕ) : Type 0 where
  pub rises : Rises ts
  pub each : (k : ℕ) → k < length ts → IsRetained names (slice_index ts k)
  pub all : (t : ℕ) → IsRetained names t → Contains ts t
