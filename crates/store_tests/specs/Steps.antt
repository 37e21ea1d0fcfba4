-- Steps of a replica on a disk in memory.
use Rattle.std.specs.Prelude.{ℕ, ◌≤◌, List, [], ◌∷◌, ◌++◌}
use Rattle.crash_disk.specs.declared.event.Event.{Event}
use Rattle.crash_disk.specs.Files.{files_after}
use Rattle.crash_disk.specs.GoesOn.{IsGrown}
use Rattle.ls_base.specs.declared.line.Line.{Line}
use Rattle.ls_base.specs.History.{History}
use Rattle.ls_base.specs.SyncLog.{SyncLog}
use Rattle.replica_store.specs.declared.file_name.FileName.{FileName}
use Rattle.replica_store.specs.CarriesOn.{IsLonger, CarriesOn}
use Rattle.replica_store.specs.CrashFaithful.{IsCrashFaithful, IsSettled}
use Rattle.replica_store.specs.Dropping.{MayGo}
use Rattle.replica_store.specs.Listing.{path_of}
use Rattle.replica_store.specs.PutFiles.{IsNextFile}

-- the record grew so that this holds of what it was and what it is
pub record Went (before now : List Event) (P : List Event → List Event → Type 0) : Type 0 where
  pub grown : IsGrown before now
  pub holds : P before now

-- the replica went on to the later log, and is settled for it
pub record HasCarriedOn (history : History) (cut : ℕ) (before now : List Event) (log later : SyncLog) : Type 0 where
  pub carries_on : CarriesOn history cut before now log later
  pub settled : IsSettled now history later

-- the replica went on to the later log
pub record MayCarryOn (history : History) (cut : ℕ) (before now : List Event) (log later : SyncLog) : Type 0 where
  pub carries_on : CarriesOn history cut before now log later
  pub faithful : IsCrashFaithful now history later

-- where two files with the next lines, both young, were put one after the other
abbrev pub PutsBoth : FileName → List ℕ → FileName → List ℕ → List Event → List Event → Type 0
PutsBoth a first b second before now =
    (history : History) (cut : ℕ) (log : SyncLog) (line next : Line) → IsSettled before history log
    → IsNextFile history log line a first → IsNextFile history (log ++ line ∷ []) next b second
    → cut ≤ line.moment → cut ≤ next.moment → HasCarriedOn history cut before now log ((log ++ line ∷ []) ++ next ∷ [])

-- where that failed
abbrev pub MayPutBoth : FileName → List ℕ → FileName → List ℕ → List Event → List Event → Type 0
MayPutBoth a first b second before now =
    (history : History) (cut : ℕ) (log : SyncLog) (line next : Line) → IsSettled before history log
    → IsNextFile history log line a first → IsNextFile history (log ++ line ∷ []) next b second
    → cut ≤ line.moment → cut ≤ next.moment
    → (later : SyncLog) × IsLonger later ((log ++ line ∷ []) ++ next ∷ []) × MayCarryOn history cut before now log later

-- where two files that may go were dropped and the names brought to the disk
abbrev pub DropsBoth : FileName → FileName → List Event → List Event → Type 0
DropsBoth a b before now =
    (history : History) (cut : ℕ) (log : SyncLog) → IsSettled before history log
    → MayGo (files_after before) log cut (path_of a ∷ path_of b ∷ []) → HasCarriedOn history cut before now log log

-- where that failed
abbrev pub MayDropBoth : FileName → FileName → List Event → List Event → Type 0
MayDropBoth a b before now =
    (history : History) (cut : ℕ) (log : SyncLog) → IsSettled before history log
    → MayGo (files_after before) log cut (path_of a ∷ path_of b ∷ []) → MayCarryOn history cut before now log log
