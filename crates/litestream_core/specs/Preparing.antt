-- What a restore has in hand before it writes, and why it may not come so far.
use Rattle.std.specs.Prelude.{◌≡◌, ℕ, ℤ, List, [], true, false, Some, IsSome, ⊤, ◌⊎◌}
use Rattle.crash_disk.specs.declared.fault.NamesFault.{NamesFault}
use Rattle.crash_disk.specs.declared.fault.NamesFault.TheVariants.{Disk, Memory as no_memory}
use Rattle.ls_base.specs.Fault.{Rose}
use Rattle.crash_disk.specs.Told.{Told, IfTold}
use Rattle.crash_disk.specs.Files.{file_at, size_of}
use Rattle.replica_store.specs.declared.error.StoreError.{StoreError}
use Rattle.replica_store.specs.declared.error.StoreError.TheVariants as error
use Rattle.replica_store.specs.declared.file_name.FileName.{FileName}
use Rattle.replica_store.specs.Listing.{AreListed}
use Rattle.restore_apply.specs.declared.restored.RestoreFault.{RestoreFault}
use Rattle.restore_apply.specs.declared.restored.RestoreFault.TheVariants as fault
use Rattle.restore_plan.specs.declared.chain.PlanFault.{PlanFault}
use Rattle.restore_plan.specs.declared.chain.PlanFault.TheVariants as plan
use Rattle.ls_answers.specs.declared.outcome.Why.{Why}
use Rattle.ls_answers.specs.declared.outcome.Why.TheVariants.{Done, SkippedOutput, SkippedReplica, NotBuilt, Usage}
use Rattle.ls_answers.specs.declared.outcome.Why.TheVariants.{NoReplica, MissingRange, NoMoment, Damaged, PageMissing}
use Rattle.ls_answers.specs.declared.outcome.Why.TheVariants.{OutputExists, StoreFault, TargetFault, SinkFault, Memory}
use Rattle.litestream_core.specs.Asked.{IsMissing, IsBefore, IsBadHeader, IsTooEarly, HasBadHeaderAt}
use Rattle.litestream_core.specs.Request.{Request}
use Rattle.litestream_core.specs.Written.{LacksOutput, IfFilesTold}

-- the refusal that a fault of an `attach` becomes
abbrev pub IsRefusalOf : Why → NamesFault → Why → Type 0
IsRefusalOf outside (Disk fault) why = why ≡ outside
IsRefusalOf outside no_memory why = why ≡ Memory

-- the answer that an error of the replica becomes
abbrev pub why_of_error : StoreError → Why
why_of_error (error.Store fault) = StoreFault
why_of_error (error.Damaged name damage) = Damaged name damage
why_of_error error.Memory = Memory

-- the answer that the lack of a plan becomes
abbrev pub why_of_plan : PlanFault → Why
why_of_plan (plan.MissingRange after) = MissingRange after
why_of_plan plan.Memory = Memory

-- the answer that a fault of a restore becomes
abbrev pub why_of_fault : RestoreFault → Why
why_of_fault (fault.Damaged name damage) = Damaged name damage
why_of_fault (fault.PageMissing name number) = PageMissing name number
why_of_fault (fault.Store disk) = StoreFault
why_of_fault (fault.Target disk) = TargetFault
why_of_fault fault.Memory = Memory

-- why the output may not be written
abbrev pub ExplainsOutput : Request → Told → ℕ → ℕ → Why → Type 0
ExplainsOutput r target before now SkippedOutput =
    (r.if_db_not_exists ≡ true) × IfTold target (λ events. IsSome (file_at events r.output))
ExplainsOutput r target before now (OutputExists size) =
    (r.if_db_not_exists ≡ false) × IfTold target (λ events. size_of events r.output ≡ Some size)
ExplainsOutput r target before now TargetFault = Rose before now
ExplainsOutput r target before now Memory = ⊤
ExplainsOutput r target before now Done = ⊥
ExplainsOutput r target before now SkippedReplica = ⊥
ExplainsOutput r target before now NotBuilt = ⊥
ExplainsOutput r target before now (Usage usage) = ⊥
ExplainsOutput r target before now NoReplica = ⊥
ExplainsOutput r target before now (MissingRange after) = ⊥
ExplainsOutput r target before now NoMoment = ⊥
ExplainsOutput r target before now (Damaged name damage) = ⊥
ExplainsOutput r target before now (PageMissing name number) = ⊥
ExplainsOutput r target before now StoreFault = ⊥
ExplainsOutput r target before now SinkFault = ⊥
ExplainsOutput r target before now other = ⊥

-- why the replica gives no plan
abbrev pub ExplainsReading : Request → Told → ℕ → ℕ → Why → Type 0
ExplainsReading r store before now SkippedReplica =
    (r.if_replica_exists ≡ true) × IfFilesTold store (λ files. AreListed files [])
ExplainsReading r store before now NoReplica =
    (r.if_replica_exists ≡ false) × IfFilesTold store (λ files. AreListed files [])
ExplainsReading r store before now NoMoment = IfFilesTold store (λ files. IsBefore files r)
ExplainsReading r store before now (MissingRange after) = IfFilesTold store (λ files. IsMissing files r after)
ExplainsReading r store before now (Damaged name damage) = IfFilesTold store (λ files. IsBadHeader files r name damage)
ExplainsReading r store before now StoreFault = Rose before now
ExplainsReading r store before now Memory = ⊤
ExplainsReading r store before now Done = ⊥
ExplainsReading r store before now SkippedOutput = ⊥
ExplainsReading r store before now NotBuilt = ⊥
ExplainsReading r store before now (Usage usage) = ⊥
ExplainsReading r store before now (PageMissing name number) = ⊥
ExplainsReading r store before now (OutputExists size) = ⊥
ExplainsReading r store before now TargetFault = ⊥
ExplainsReading r store before now SinkFault = ⊥
ExplainsReading r store before now other = ⊥

-- why there is no transaction of a moment
abbrev pub ExplainsMoment : Told → ℕ → ℕ → List FileName → ℤ → Why → Type 0
ExplainsMoment store before now names moment NoMoment = IfFilesTold store (λ files. IsTooEarly files names moment)
ExplainsMoment store before now names moment (Damaged name damage) =
    IfFilesTold store (λ files. HasBadHeaderAt files names moment name damage)
ExplainsMoment store before now names moment StoreFault = Rose before now
ExplainsMoment store before now names moment Memory = ⊤
ExplainsMoment store before now names moment Done = ⊥
ExplainsMoment store before now names moment SkippedOutput = ⊥
ExplainsMoment store before now names moment SkippedReplica = ⊥
ExplainsMoment store before now names moment NotBuilt = ⊥
ExplainsMoment store before now names moment (Usage usage) = ⊥
ExplainsMoment store before now names moment NoReplica = ⊥
ExplainsMoment store before now names moment (MissingRange after) = ⊥
ExplainsMoment store before now names moment (PageMissing name number) = ⊥
ExplainsMoment store before now names moment (OutputExists size) = ⊥
ExplainsMoment store before now names moment TargetFault = ⊥
ExplainsMoment store before now names moment SinkFault = ⊥
ExplainsMoment store before now names moment other = ⊥

-- why a restore didn't come so far that it could write
abbrev pub ExplainsPrepare : Request → Told → ℕ → ℕ → Told → ℕ → ℕ → Why → Type 0
ExplainsPrepare r store store_before store_now target target_before target_now why =
    ExplainsOutput r target target_before target_now why
    ⊎ (LacksOutput target r × ExplainsReading r store store_before store_now why)
