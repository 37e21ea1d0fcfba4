-- Files that are dropped one after another.
use Rattle.std.specs.Prelude.{◌≡◌, ℕ, ◌<◌, ◌≤◌, List, length, None, ◌⊎◌}
use Rattle.std.specs.FinMap.{get}
use Rattle.std.specs.List.{Contains}
use Rattle.crash_disk.specs.declared.event.Event.{Event}
use Rattle.crash_disk.specs.Files.{Files, file_at}
use Rattle.crash_disk.specs.Images.{MayStandAt, WasCrashImageSince}
use Rattle.ls_base.specs.SyncLog.{SyncLog}
use Rattle.replica_store.specs.declared.file_name.FileName.{FileName}
use Rattle.replica_store.specs.CarriesOn.{IsYoung}
use Rattle.replica_store.specs.Chain.{LeadsBy}
use Rattle.replica_store.specs.Listing.{path_of, IsIn}
use Rattle.replica_store.specs.Putting.{IsAbsent}
use Rattle.replica_store.specs.Retained.{IsRetainedIn}

-- Each file is as it was, or is one of these and gone. A crash at any moment since leaves under each name what it
-- might have left before, or one of these gone.
pub record MayDropAll (paths : List (List ℕ)) (before now : List Event) : Type 0 where
  pub later : length before ≤ length now
  pub files : (q : List ℕ) → (file_at now q ≡ file_at before q) ⊎ (Contains paths q × IsAbsent now q)
  pub at_a_stop : (image : Files) → WasCrashImageSince now (length before) image
      → (q : List ℕ) → MayStandAt before q (get image q) ⊎ (Contains paths q × (get image q ≡ None))

-- the name is in the files and under none of the paths
pub record IsInWithout (files : Files) (paths : List (List ℕ)) (name : FileName) : Type 0 where
  pub there : IsIn files name
  pub left : Contains paths (path_of name) → ⊥

-- a chain that needs none of the paths leads to the transaction
pub record IsRetainedWithout (files : Files) (paths : List (List ℕ)) (t : ℕ) : Type 0 where
  pub positive : 1 ≤ t
  pub chain : List FileName
  pub leads : LeadsBy (IsInWithout files paths) 0 chain t

-- The files under the paths may go: none of them ends with a young transaction, each young transaction that is retained
-- stays so without them, and a file that ends with the newest is left.
pub record MayGo (files : Files) (log : SyncLog) (cut : ℕ) (paths : List (List ℕ)) : Type 0 where
  pub old : (name : FileName) → IsIn files name → Contains paths (path_of name) → IsYoung log cut name.max → ⊥
  pub kept : (t : ℕ) → IsYoung log cut t → IsRetainedIn files t → IsRetainedWithout files paths t
  pub newest : 0 < length log → (name : FileName) × IsInWithout files paths name × (name.max ≡ length log)
