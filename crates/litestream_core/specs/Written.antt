-- What a restore wrote into the folder of its output.
use Rattle.std.specs.Prelude.{◌≡◌, ℕ, List, None, length, ◌⊎◌}
use Rattle.crash_disk.specs.Files.{Files, file_at, files_after}
use Rattle.crash_disk.specs.GoesOn.{GoesOn}
use Rattle.crash_disk.specs.Told.{Told, IfTold}
use Rattle.ls_base.specs.State.{State, state_bytes}
use Rattle.page_cursors.specs.PlanFiles.{Makes}
use Rattle.replica_store.specs.declared.file_name.FileName.{FileName}
use Rattle.restore_apply.specs.Restoring.{Abandons, RoseTwice}
use Rattle.restore_apply.specs.Staging.{WritesFile, MayWriteFile, LeavesUnwritten, Lacks, temporary_name}
use Rattle.litestream_core.specs.Asked.{IsPlan}
use Rattle.litestream_core.specs.Request.{Request}
use Rattle.litestream_core.specs.Scene.{Scene}

-- a fact about the files as they read, asked only where they are told
abbrev pub IfFilesTold : Told → (Files → Type 0) → Type 0
IfFilesTold told P = IfTold told (λ events. P (files_after events))

-- the output's name is not there
abbrev pub LacksOutput : Told → Request → Type 0
LacksOutput target r = IfTold target (λ events. file_at events r.output ≡ None)

-- these bytes are what the plan of the transaction makes, so many pages
pub record AreOfPlan (files : Files) (r : Request) (t pages : ℕ) (bytes : List ℕ) : Type 0 where
  pub plan : List FileName
  pub is : IsPlan files r t plan
  pub state : State
  pub makes : Makes files plan state
  pub count : pages ≡ length state.pages
  pub are : bytes ≡ state_bytes state

-- The bytes were written under the output's name. Where the store tells its files, they are what the plan makes.
pub record Restores (r : Request) (scene : Scene) : Type 0 where
  pub t : ℕ
  pub pages : ℕ
  pub bytes : List ℕ
  pub output : GoesOn scene.target scene.target_after (WritesFile r.output bytes)
  pub state : IfFilesTold scene.store (λ files. AreOfPlan files r t pages bytes)

-- the bytes, or nothing, were written
pub record MayWrite (r : Request) (scene : Scene) : Type 0 where
  pub t : ℕ
  pub pages : ℕ
  pub bytes : List ℕ
  pub output : GoesOn scene.target scene.target_after (MayWriteFile r.output bytes)
  pub state : IfFilesTold scene.store (λ files. AreOfPlan files r t pages bytes)

-- The target failed while the output was written: its name is absent or whole, and the temporary file is gone unless a
-- second call failed.
pub record MayRestore (r : Request) (scene : Scene) : Type 0 where
  pub absent : LacksOutput scene.target r
  pub left : GoesOn scene.target scene.target_after (LeavesUnwritten r.output) ⊎ MayWrite r scene
  pub cleared : (RoseTwice scene.target_faults scene.target_faults_after → ⊥)
      → GoesOn scene.target scene.target_after (Lacks (temporary_name r.output))

-- The output's name stays absent, as read and after a crash. Where no call on the target failed, the temporary file is
-- gone too, also one that an earlier stop left.
abbrev pub LeavesNoOutput : Request → Scene → Type 0
LeavesNoOutput r scene =
    Abandons r.output scene.target scene.target_after scene.target_faults scene.target_faults_after
