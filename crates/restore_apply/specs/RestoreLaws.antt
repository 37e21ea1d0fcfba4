-- What the files of a plan make, whatever the files are.
use Rattle.std.specs.Prelude.{◌≡◌, ◌≢◌, ℕ, ◌≤◌, List, Some}
use Rattle.crash_disk.specs.Files.{Files}
use Rattle.ls_base.specs.History.{History}
use Rattle.ls_base.specs.PageSize.{lock_page}
use Rattle.ls_base.specs.State.{State}
use Rattle.ls_base.specs.SyncLog.{SyncLog, recorded_state}
use Rattle.ltx_format.specs.declared.file.LtxFile.{LtxFile}
use Rattle.replica_store.specs.declared.error.Damage.{Damage}
use Rattle.replica_store.specs.declared.file_name.FileName.{FileName}
use Rattle.replica_store.specs.Chain.{IsChain, BeginsOnce}
use Rattle.replica_store.specs.Faithful.{IsFaithful}
use Rattle.replica_store.specs.Listing.{AreListed}
use Rattle.page_cursors.specs.PlanFiles.{ArePlanFiles, Makes, IsFirstDamaged, IsFirstMissing}

-- the plan makes the state that is recorded for the transaction
pub record MakesRecorded (files : Files) (history : History) (log : SyncLog) (t : ℕ)
    (plan : List FileName) : Type 0 where
  pub state : State
  pub makes : Makes files plan state
  pub recorded : recorded_state history log t ≡ Some state

-- Where the files tell the truth, a chain of their names of which only the first begins with the first transaction
-- makes the recorded state.
abbrev pub FaithfulChainsMakeRecorded : Type 0
FaithfulChainsMakeRecorded =
    (files : Files) (history : History) (log : SyncLog) (names : List FileName) (t : ℕ) (chain : List FileName)
    → IsFaithful files history log → AreListed files names → 1 ≤ t → IsChain names t chain → BeginsOnce chain
    → MakesRecorded files history log t chain

-- a plan makes at most one state
abbrev pub OneState : Type 0
OneState = (files : Files) (plan : List FileName) (a b : State) → Makes files plan a → Makes files plan b → a ≡ b

-- where the files of a plan can be read, none of them is damaged
abbrev pub ReadFilesAreSound : Type 0
ReadFilesAreSound =
    (files : Files) (plan : List FileName) (read : List LtxFile) (name : FileName) (damage : Damage)
    → ArePlanFiles files plan read → IsFirstDamaged files plan name damage → ⊥

-- where a plan makes a state, no page is missing
abbrev pub MadeStatesAreWhole : Type 0
MadeStatesAreWhole =
    (files : Files) (plan : List FileName) (state : State) (name : FileName) (number : ℕ)
    → Makes files plan state → IsFirstMissing files plan name number → ⊥

-- the page that is missing is never the lock page, which no file has
abbrev pub MissingPagesAreStored : Type 0
MissingPagesAreStored =
    (files : Files) (plan : List FileName) (name : FileName) (number : ℕ)
    → (missing : IsFirstMissing files plan name number) → number ≢ lock_page missing.file.header.size
