-- A file that is being put: its bytes are appended when enough are gathered.
use Rattle.std.specs.Prelude.{◌≡◌, List, ℕ, ◌++◌}
use Rattle.crash_disk.specs.GoesOn.{GoesOn}
use Rattle.crash_disk.specs.Told.{Told}
use Rattle.replica_store.specs.Putting.{KeepsOthers, IsPutting}

-- These bytes were given since the file was begun: what was appended, and what is gathered behind it.
pub record HasGathered (path gathered : List ℕ) (begun now : Told) (all : List ℕ) : Type 0 where
  pub written : List ℕ
  pub is : all ≡ written ++ gathered
  pub putting : GoesOn begun now (IsPutting path written)

-- a file was begun, and some bytes were given
pub record IsGathering (path gathered : List ℕ) (now : Told) : Type 0 where
  pub begun : Told
  pub all : List ℕ
  pub gathers : HasGathered path gathered begun now all

-- whatever was given before, these bytes are given behind it
abbrev pub GathersMore : List ℕ → List ℕ → List ℕ → List ℕ → Told → Told → Type 0
GathersMore path before more after old new =
    (begun : Told) (all : List ℕ) → HasGathered path before begun old all
    → HasGathered path after begun new (all ++ more)

-- whatever was given, nothing but the temporary file has changed since it was begun
abbrev pub KeepsAllOthers : List ℕ → List ℕ → Told → Told → Type 0
KeepsAllOthers path gathered old new =
    (begun : Told) (all : List ℕ) → HasGathered path gathered begun old all → GoesOn begun new (KeepsOthers path)
