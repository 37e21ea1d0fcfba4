-- When each answer of a restore comes: where its condition holds, no earlier step refuses and no count of faults rose,
-- it is the answer, unless memory runs out.
use Rattle.std.specs.Prelude.{◌≡◌, ℕ, ℤ, pos, List, [], true, false, None, Some, ◌⊎◌}
use Rattle.crash_disk.specs.declared.event.Event.{Event}
use Rattle.crash_disk.specs.Files.{Files, file_at, size_of, files_after}
use Rattle.ls_base.specs.History.{History}
use Rattle.ls_base.specs.SyncLog.{SyncLog}
use Rattle.ls_words.specs.declared.command.Target.TheVariants.{Moment}
use Rattle.replica_store.specs.declared.error.Damage.{Damage}
use Rattle.replica_store.specs.declared.file_name.FileName.{FileName}
use Rattle.replica_store.specs.Chain.{IsRetained}
use Rattle.replica_store.specs.Dating.{IsFirstBadHeader}
use Rattle.replica_store.specs.Faithful.{IsFaithful}
use Rattle.replica_store.specs.Listing.{AreListed}
use Rattle.ls_base.specs.State.{State}
use Rattle.page_cursors.specs.PlanFiles.{Makes, IsFirstDamaged, IsFirstMissing}
use Rattle.ls_answers.specs.declared.outcome.Why.{Why}
use Rattle.ls_answers.specs.declared.outcome.Why.TheVariants.{Done, SkippedOutput, SkippedReplica, NoReplica}
use Rattle.ls_answers.specs.declared.outcome.Why.TheVariants.{MissingRange, NoMoment, Damaged, PageMissing}
use Rattle.ls_answers.specs.declared.outcome.Why.TheVariants.{OutputExists, Memory}
use Rattle.litestream_core.specs.Asked.{AreNames, IsAsked, IsOfMoment, LacksMoment, HasBadHeader, IsPlan, IsMissing}
use Rattle.litestream_core.specs.Command.{NotRisen}
use Rattle.litestream_core.specs.Request.{Request}
use Rattle.litestream_core.specs.Scene.{Scene}

-- the output's name is free, and neither disk failed
pub record IsFree (r : Request) (scene : Scene) : Type 0 where
  pub target : List Event
  pub told : scene.target ≡ Some target
  pub free : file_at target r.output ≡ None
  pub calm : NotRisen scene.target_faults scene.target_faults_after
  pub store_calm : NotRisen scene.store_faults scene.store_faults_after

-- the output's name isn't free, and its disk didn't fail
pub record IsTaken (r : Request) (scene : Scene) (size : ℕ) : Type 0 where
  pub target : List Event
  pub told : scene.target ≡ Some target
  pub there : size_of target r.output ≡ Some size
  pub calm : NotRisen scene.target_faults scene.target_faults_after

-- no header that is looked at for its moment is damaged
abbrev pub HeadersAreGood : Files → Request → Type 0
HeadersAreGood files r =
    (names : List FileName) → AreNames files names
    → (name : FileName) (damage : Damage) → HasBadHeader files names r.target name damage → ⊥

-- a header that is looked at for its moment is damaged
abbrev pub HasABadHeader : Files → Type 0
HasABadHeader files =
    (names : List FileName) → AreNames files names
    → (name : FileName) × (damage : Damage) × IsFirstBadHeader files names name damage

-- a transaction of the asked moment, if a moment is asked for, is retained
abbrev pub IsInTime : Files → Request → Type 0
IsInTime files r = (names : List FileName) → AreNames files names → LacksMoment files names r.target → ⊥

-- no transaction is retained at the moment or before it
abbrev pub HasNoneOf : Files → ℤ → Type 0
HasNoneOf files moment =
    (names : List FileName) → AreNames files names → (t : ℕ) → IsOfMoment files names moment t → ⊥

-- no chain leads to the transaction that is asked for
abbrev pub HasNoChain : Files → Request → Type 0
HasNoChain files r =
    (names : List FileName) → AreNames files names → (t : ℕ) → IsAsked files names r.target t → IsRetained names t → ⊥

-- there are names, and a chain leads to the transaction that is asked for
pub record LeadsToAsked (files : Files) (r : Request) : Type 0 where
  pub some : AreListed files [] → ⊥
  pub in_time : IsInTime files r
  pub chain : (after : ℕ) → IsMissing files r after → ⊥

-- a chain leads to the transaction that is asked for, and nothing refuses before the plan's files are read
pub record MayBePlanned (files : Files) (r : Request) : Type 0 where
  pub some : AreListed files [] → ⊥
  pub good : HeadersAreGood files r
  pub in_time : IsInTime files r
  pub chain : (after : ℕ) → IsMissing files r after → ⊥

-- a file of the plan is damaged
abbrev pub PlanIsDamaged : Files → Request → Type 0
PlanIsDamaged files r =
    (t : ℕ) (plan : List FileName) → IsPlan files r t plan
    → (name : FileName) × (damage : Damage) × IsFirstDamaged files plan name damage

-- a page of the plan is missing, and no file of it is damaged
abbrev pub PlanLacksPage : Files → Request → Type 0
PlanLacksPage files r =
    (t : ℕ) (plan : List FileName) → IsPlan files r t plan
    → (name : FileName) × (number : ℕ) × IsFirstMissing files plan name number

-- the plan's files make a state
abbrev pub PlanMakesState : Files → Request → Type 0
PlanMakesState files r =
    (t : ℕ) (plan : List FileName) → IsPlan files r t plan → (state : State) × Makes files plan state

-- this is the answer, unless memory ran out
abbrev pub Answers : Why → Why → Type 0
Answers why answer = (why ≡ answer) ⊎ (why ≡ Memory)

-- the answer tells of some damage, unless memory ran out
abbrev pub AnswersDamaged : Why → Type 0
AnswersDamaged why = ((name : FileName) × (damage : Damage) × (why ≡ Damaged name damage)) ⊎ (why ≡ Memory)

-- the answer tells of a page that is missing, unless memory ran out
abbrev pub AnswersPageMissing : Why → Type 0
AnswersPageMissing why = ((name : FileName) × (number : ℕ) × (why ≡ PageMissing name number)) ⊎ (why ≡ Memory)

-- the answer tells that no chain leads there, unless memory ran out
abbrev pub AnswersMissingRange : Why → Type 0
AnswersMissingRange why = ((after : ℕ) × (why ≡ MissingRange after)) ⊎ (why ≡ Memory)

-- the output's name is free, no disk failed, and the store tells: then this holds of its files
abbrev pub WhereFree : Request → Scene → (Files → Type 0) → Type 0
WhereFree r scene P = (store : List Event) → scene.store ≡ Some store → IsFree r scene → P (files_after store)

-- there are names
abbrev pub HasNames : Files → Type 0
HasNames files = AreListed files [] → ⊥

-- the answer tells of no damage and of no page that is missing
abbrev pub TellsNoDamage : Why → Type 0
TellsNoDamage why =
    ((name : FileName) (damage : Damage) → why ≡ Damaged name damage → ⊥)
    × ((name : FileName) (number : ℕ) → why ≡ PageMissing name number → ⊥)

pub record ComesExactly (r : Request) (scene : Scene) (why : Why) : Type 0 where
  pub output_exists : (size : ℕ) → IsTaken r scene size → r.if_db_not_exists ≡ false → Answers why (OutputExists size)
  pub skipped_output : (size : ℕ) → IsTaken r scene size → r.if_db_not_exists ≡ true
      → Answers why SkippedOutput
  pub no_replica : WhereFree r scene (λ files. AreListed files [] → r.if_replica_exists ≡ false → Answers why NoReplica)
  pub skipped_replica : WhereFree r scene (λ files. AreListed files [] → r.if_replica_exists ≡ true
      → Answers why SkippedReplica)
  pub no_moment : WhereFree r scene (λ files. (moment : ℤ) → HasNames files → r.target ≡ Moment moment
      → HeadersAreGood files r → HasNoneOf files moment → Answers why NoMoment)
  pub bad_header : WhereFree r scene (λ files. (ms : ℕ) → HasNames files → r.target ≡ Moment (pos ms)
      → HasABadHeader files → AnswersDamaged why)
  pub missing_range : WhereFree r scene (λ files. HasNames files → HeadersAreGood files r → IsInTime files r
      → HasNoChain files r → AnswersMissingRange why)
  pub damaged : WhereFree r scene (λ files. MayBePlanned files r → PlanIsDamaged files r → AnswersDamaged why)
  pub page_missing : WhereFree r scene (λ files. MayBePlanned files r → PlanLacksPage files r
      → AnswersPageMissing why)
  pub done : WhereFree r scene (λ files. MayBePlanned files r → PlanMakesState files r
      → NotRisen scene.sink_faults scene.sink_faults_after → Answers why Done)
  -- a store that tells the truth is never damaged and lacks no page
  pub faithful : WhereFree r scene (λ files. (history : History) (log : SyncLog) → IsFaithful files history log
      → LeadsToAsked files r → NotRisen scene.sink_faults scene.sink_faults_after → Answers why Done)
  -- also where a disk failed
  pub undamaged : (store : List Event) → scene.store ≡ Some store → (history : History) (log : SyncLog)
      → IsFaithful (files_after store) history log → TellsNoDamage why
