-- What the answers of a restore mean, and what stands after them.
use Rattle.std.specs.Prelude.{◌≡◌, ℕ, List, [], true, false, Some, IsSome, Result, Ok, Err, ◌⊎◌, length}
use Rattle.crash_disk.specs.declared.event.Event.{Event}
use Rattle.ls_base.specs.Fault.{Rose}
use Rattle.crash_disk.specs.GoesOn.{GoesOn}
use Rattle.crash_disk.specs.Told.{IfTold}
use Rattle.crash_disk.specs.Files.{Files, file_at, size_of, files_after}
use Rattle.crash_disk.specs.Output.{gains_text, GainsFront}
use Rattle.ls_base.specs.State.{State, state_bytes}
use Rattle.ls_base.specs.History.{History}
use Rattle.ls_base.specs.SyncLog.{SyncLog, recorded_state}
use Rattle.replica_store.specs.declared.error.Damage.{Damage}
use Rattle.replica_store.specs.declared.file_name.FileName.{FileName}
use Rattle.replica_store.specs.Faithful.{IsFaithful}
use Rattle.replica_store.specs.Listing.{AreListed}
use Rattle.page_cursors.specs.PlanFiles.{IsFirstDamaged, IsFirstMissing}
use Rattle.restore_apply.specs.Staging.{WritesFile}
use Rattle.crash_disk.specs.Stop.{LeavesNothing, LeavesAtMost}
use Rattle.ls_answers.specs.declared.outcome.Why.{Why}
use Rattle.ls_answers.specs.declared.outcome.Why.TheVariants.{Done, SkippedOutput, SkippedReplica, NotBuilt, Usage}
use Rattle.ls_answers.specs.declared.outcome.Why.TheVariants.{NoReplica, MissingRange, NoMoment, Damaged, PageMissing}
use Rattle.ls_answers.specs.declared.outcome.Why.TheVariants.{OutputExists, StoreFault, TargetFault, SinkFault, Memory}
use Rattle.litestream_core.specs.Asked.{AreNames, IsAsked, IsPlan, IsMissing, IsBefore, IsBadHeader}
use Rattle.litestream_core.specs.Line.{restored_text}
use Rattle.litestream_core.specs.Request.{Request}
use Rattle.litestream_core.specs.Scene.{Scene}
use Rattle.litestream_core.specs.Written.{IfFilesTold, LacksOutput, Restores, MayRestore, LeavesNoOutput}

-- why a restore that returned this ended
abbrev pub why_of : Result (Unit {0}) Why → Why
why_of (Ok x) = Done
why_of (Err why) = why

-- the line was printed as well
pub record RestoresAndTells (r : Request) (scene : Scene) : Type 0 where
  pub restored : Restores r scene
  pub line : scene.text_after ≡ gains_text scene.text (restored_text restored.t restored.pages)

-- or a front of it
pub record RestoresUntold (r : Request) (scene : Scene) : Type 0 where
  pub restored : Restores r scene
  pub line : GainsFront scene.text scene.text_after (restored_text restored.t restored.pages)

-- a file of the plan is damaged
pub record IsDamagedPlan (files : Files) (r : Request) (name : FileName) (damage : Damage) : Type 0 where
  pub t : ℕ
  pub plan : List FileName
  pub is : IsPlan files r t plan
  pub first : IsFirstDamaged files plan name damage

-- a page of the plan is missing
pub record IsMissingPage (files : Files) (r : Request) (name : FileName) (number : ℕ) : Type 0 where
  pub t : ℕ
  pub plan : List FileName
  pub is : IsPlan files r t plan
  pub first : IsFirstMissing files plan name number

-- a header that was looked at is damaged, and the target didn't change
pub record FindsBadHeader (r : Request) (scene : Scene) (name : FileName) (damage : Damage) : Type 0 where
  pub target : scene.target_after ≡ scene.target
  pub bad : IfFilesTold scene.store (λ files. IsBadHeader files r name damage)

-- a file of the plan is damaged, and no output is left
pub record FindsDamage (r : Request) (scene : Scene) (name : FileName) (damage : Damage) : Type 0 where
  pub target : LeavesNoOutput r scene
  pub bad : IfFilesTold scene.store (λ files. IsDamagedPlan files r name damage)

-- neither the target nor the text changed
pub record WritesNothing (scene : Scene) : Type 0 where
  pub target : scene.target_after ≡ scene.target
  pub text : scene.text_after ≡ scene.text

-- What each answer to a request means. A later step's answer comes only where no earlier step refused.
abbrev pub Explains : Request → Scene → Why → Type 0
Explains r scene Done =
    LacksOutput scene.target r × RestoresAndTells r scene
Explains r scene SkippedOutput =
    WritesNothing scene × (r.if_db_not_exists ≡ true)
    × IfTold scene.target (λ events. IsSome (file_at events r.output))
Explains r scene (OutputExists size) =
    WritesNothing scene × (r.if_db_not_exists ≡ false)
    × IfTold scene.target (λ events. size_of events r.output ≡ Some size)
Explains r scene SkippedReplica =
    WritesNothing scene × LacksOutput scene.target r × (r.if_replica_exists ≡ true)
    × IfFilesTold scene.store (λ files. AreListed files [])
Explains r scene NoReplica =
    WritesNothing scene × LacksOutput scene.target r × (r.if_replica_exists ≡ false)
    × IfFilesTold scene.store (λ files. AreListed files [])
Explains r scene NoMoment =
    WritesNothing scene × LacksOutput scene.target r × IfFilesTold scene.store (λ files. IsBefore files r)
Explains r scene (MissingRange after) =
    WritesNothing scene × LacksOutput scene.target r × IfFilesTold scene.store (λ files. IsMissing files r after)
Explains r scene (Damaged name damage) =
    (scene.text_after ≡ scene.text) × LacksOutput scene.target r
    × (FindsBadHeader r scene name damage ⊎ FindsDamage r scene name damage)
Explains r scene (PageMissing name number) =
    (scene.text_after ≡ scene.text) × LacksOutput scene.target r × LeavesNoOutput r scene
    × IfFilesTold scene.store (λ files. IsMissingPage files r name number)
Explains r scene StoreFault =
    (scene.text_after ≡ scene.text) × LacksOutput scene.target r × Rose scene.store_faults scene.store_faults_after
    × ((scene.target_after ≡ scene.target) ⊎ LeavesNoOutput r scene)
Explains r scene TargetFault =
    (scene.text_after ≡ scene.text) × Rose scene.target_faults scene.target_faults_after
    × ((scene.target_after ≡ scene.target) ⊎ MayRestore r scene)
Explains r scene SinkFault =
    Rose scene.sink_faults scene.sink_faults_after × LacksOutput scene.target r × RestoresUntold r scene
Explains r scene Memory = WritesNothing scene
Explains r scene NotBuilt = ⊥
Explains r scene (Usage usage) = ⊥
Explains r scene other = ⊥

-- The promise, for each history and sync log to which the store is faithful: what is written is the state that the
-- log records for the transaction that is asked for, and the line says how many pages it has.
pub record Restored (files : Files) (r : Request) (scene : Scene) (history : History) (log : SyncLog) : Type 0 where
  pub names : List FileName
  pub are : AreNames files names
  pub t : ℕ
  pub asked : IsAsked files names r.target t
  pub state : State
  pub recorded : recorded_state history log t ≡ Some state
  pub output : GoesOn scene.target scene.target_after (WritesFile r.output (state_bytes state))
  pub line : scene.text_after ≡ gains_text scene.text (restored_text t (length state.pages))

abbrev pub KeepsPromise : Request → Scene → Why → Type 0
KeepsPromise r scene why =
    (history : History) (log : SyncLog) (store : List Event) → scene.store ≡ Some store
    → IsFaithful (files_after store) history log → why ≡ Done → Restored (files_after store) r scene history log

-- these bytes are the state that the log records for a transaction that is asked for
pub record IsRecorded (files : Files) (r : Request) (history : History) (log : SyncLog) (bytes : List ℕ) : Type 0 where
  pub names : List FileName
  pub are : AreNames files names
  pub t : ℕ
  pub asked : IsAsked files names r.target t
  pub state : State
  pub recorded : recorded_state history log t ≡ Some state
  pub same : bytes ≡ state_bytes state

-- Wherever a stop falls: for each history and sync log to which the store is faithful, where a crash left nothing
-- under the output's name before the call, one at any moment since leaves nothing or the recorded state.
abbrev pub SurvivesAnyStop : Request → Scene → Type 0
SurvivesAnyStop r scene =
    (history : History) (log : SyncLog) (kept before after : List Event) → scene.store ≡ Some kept
    → IsFaithful (files_after kept) history log → scene.target ≡ Some before → scene.target_after ≡ Some after
    → LeavesNothing r.output before
    → LeavesAtMost r.output (IsRecorded (files_after kept) r history log) before after

-- the count of faults neither rose nor stands at its last value
abbrev pub NotRisen : ℕ → ℕ → Type 0
NotRisen before now = Rose before now → ⊥
