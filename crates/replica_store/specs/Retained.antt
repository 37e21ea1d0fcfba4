-- The transactions that files lead to, without a list of their names.
use Rattle.std.specs.Prelude.{ℕ, ◌≤◌, List}
use Rattle.crash_disk.specs.Files.{Files}
use Rattle.replica_store.specs.declared.file_name.FileName.{FileName}
use Rattle.replica_store.specs.Chain.{LeadsBy}
use Rattle.replica_store.specs.Listing.{IsIn}

-- a retained transaction of these files: a chain of them leads to it from nothing
pub record IsRetainedIn (files : Files) (t : ℕ) : Type 0 where
  pub positive : 1 ≤ t
  pub chain : List FileName
  pub leads : LeadsBy (IsIn files) 0 chain t
