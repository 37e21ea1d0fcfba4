-- What a restore of a plan does: the names of a chain of files, in their order.
use Rattle.std.specs.Prelude.{◌≡◌, ℕ, ◌+◌, ◌-◌, ◌^◌, ◌≤◌, min, List, [], ◌∷◌, ◌++◌, length, ◌⊎◌}
use Rattle.crash_disk.specs.Files.{Files, files_after}
use Rattle.crash_disk.specs.GoesOn.{GoesOn}
use Rattle.crash_disk.specs.Told.{Told, IfTold}
use Rattle.ls_base.specs.Fault.{Rose}
use Rattle.ls_base.specs.State.{State, state_bytes}
use Rattle.page_cursors.specs.PlanFiles.{Makes, IsFirstDamaged, IsFirstMissing}
use Rattle.replica_store.specs.declared.file_name.FileName.{FileName}
use Rattle.restore_apply.specs.declared.restored.Restored.{Restored}
use Rattle.restore_apply.specs.declared.restored.RestoreFault.{RestoreFault}
use Rattle.restore_apply.specs.declared.restored.RestoreFault.TheVariants.{Damaged, PageMissing, Store, Target, Memory}
use Rattle.restore_apply.specs.Staging.{WritesFile, MayWriteFile, LeavesUnwritten, LeavesNoTrace, Lacks, temporary_name}

-- these bytes are the state that the plan's files make, of so many pages
pub record AreStateOf (files : Files) (plan : List FileName) (pages : ℕ) (bytes : List ℕ) : Type 0 where
  pub state : State
  pub makes : Makes files plan state
  pub count : pages ≡ length state.pages
  pub are : bytes ≡ state_bytes state

-- the transaction is the last one of the plan
pub record IsLastOf (plan : List FileName) (txid : ℕ) : Type 0 where
  pub before : List FileName
  pub last : FileName
  pub split : plan ≡ before ++ last ∷ []
  pub is : txid ≡ last.max

-- The bytes were written under the name. Where the store tells its files, they are the state that the plan makes; so
-- many pages, as of the last transaction of the plan.
pub record Restores (store : Told) (plan : List FileName) (name : List ℕ) (target target_after : Told)
    (restored : Restored) : Type 0
  where
    pub bytes : List ℕ
    pub output : GoesOn target target_after (WritesFile name bytes)
    pub state : IfTold store (λ events. AreStateOf (files_after events) plan restored.pages bytes)
    pub txid : IsLastOf plan restored.txid

-- the count rose twice, or stands at its last value
pub record RoseTwice (before now : ℕ) : Type 0 where
  pub least : min (before + 2) (2 ^ 64 - 1) ≤ now

-- Nothing stands under the name, as read and after a crash. Where no call on the target failed, the temporary file is
-- gone too, also one that an earlier stop left.
pub record Abandons (name : List ℕ) (target target_after : Told) (before now : ℕ) : Type 0 where
  pub left : GoesOn target target_after (LeavesUnwritten name)
  pub cleared : (Rose before now → ⊥) → GoesOn target target_after (LeavesNoTrace name)

-- the bytes may have been written under the name; where the store tells its files, they are the state
pub record MayRestore (store : Told) (plan : List FileName) (name : List ℕ) (target target_after : Told) : Type 0 where
  pub bytes : List ℕ
  pub output : GoesOn target target_after (MayWriteFile name bytes)
  pub pages : ℕ
  pub state : IfTold store (λ events. AreStateOf (files_after events) plan pages bytes)

-- The target failed: the name is absent, or whole. The temporary file is gone, unless a second call failed.
pub record Breaks (store : Told) (plan : List FileName) (name : List ℕ) (target target_after : Told) (before now : ℕ)
    : Type 0
  where
    pub rose : Rose before now
    pub left : GoesOn target target_after (LeavesUnwritten name) ⊎ MayRestore store plan name target target_after
    pub cleared : (RoseTwice before now → ⊥) → GoesOn target target_after (Lacks (temporary_name name))

-- what a fault means
abbrev pub ExplainsRestore : Told → List FileName → List ℕ → Told → Told → ℕ → ℕ → ℕ → ℕ → RestoreFault → Type 0
ExplainsRestore store plan name target after store_before store_now before now (Damaged file damage) =
    Abandons name target after before now
    × IfTold store (λ events. IsFirstDamaged (files_after events) plan file damage)
ExplainsRestore store plan name target after store_before store_now before now (PageMissing file number) =
    Abandons name target after before now
    × IfTold store (λ events. IsFirstMissing (files_after events) plan file number)
ExplainsRestore store plan name target after store_before store_now before now (Store fault) =
    Abandons name target after before now × Rose store_before store_now
ExplainsRestore store plan name target after store_before store_now before now (Target fault) =
    Breaks store plan name target after before now
ExplainsRestore store plan name target after store_before store_now before now Memory = after ≡ target
