-- The promise of a restore.
use Rattle.std.proofs.Common.{◌≡◌, ℕ, arith, List, length, drop, IfSome, Option, Some, None, sym, ap, subst, ◌∙◌, inl}
use Rattle.std.proofs.Common.{inr}
use Rattle.std.specs.FinMap.{get}
use Rattle.crash_disk.specs.declared.event.Event.{Event}
use Rattle.crash_disk.specs.Files.{files_after}
use Rattle.crash_disk.specs.GoesOn.{GoesOn}
use Rattle.crash_disk.specs.Images.{IsCrashImage, WasCrashImageSince}
use Rattle.ls_base.specs.History.{History}
use Rattle.ls_base.specs.SyncLog.{SyncLog}
use Rattle.replica_store.specs.Faithful.{IsFaithful}
use Rattle.crash_disk.specs.Output.{gains_text}
use Rattle.restore_apply.specs.Staging.{WritesFile, MayWriteFile, LeavesUnwritten}
use Rattle.crash_disk.specs.Stop.{LeavesNothing, LeavesAtMost}
use Rattle.ls_answers.specs.declared.outcome.Why.{Why}
use Rattle.ls_answers.specs.declared.outcome.Why.TheVariants.{Done, SkippedOutput, SkippedReplica, NotBuilt, Usage}
use Rattle.ls_answers.specs.declared.outcome.Why.TheVariants.{NoReplica, MissingRange, NoMoment, Damaged, PageMissing}
use Rattle.ls_answers.specs.declared.outcome.Why.TheVariants.{OutputExists, StoreFault, TargetFault, SinkFault, Memory}
use Rattle.ls_answers.specs.declared.outcome.Why.TheVariants.{NoDatabase, Header, SizesDiffer, WalTooLong, TooLarge}
use Rattle.ls_answers.specs.declared.outcome.Why.TheVariants.{GateBroken, TxidSpent, LiveFault}
use Rattle.litestream_core.specs.Command.{Explains, KeepsPromise, IsRecorded, SurvivesAnyStop}
use Rattle.litestream_core.specs.Laws.{Laws}
use Rattle.litestream_core.specs.Request.{Request}
use Rattle.litestream_core.specs.Line.{restored_text}
use Rattle.litestream_core.specs.Scene.{Scene}
use Rattle.litestream_core.specs.Written.{AreOfPlan, Restores}
use Rattle.litestream_core.proofs.PlanLemmas.{plan_recorded}

pub keeps_promise : Laws → (r : Request) (scene : Scene) (why : Why) → Explains r scene why → KeepsPromise r scene why
keeps_promise laws r scene why explains history log events told faithful is_done =
    let done : Explains r scene Done = subst (λ (answer : Why). Explains r scene answer) is_done explains in
    let tells = done.1 in
    let restored = tells.restored in
    let made = restored.state events told in
    record {
      names = made.is.names;
      are = made.is.are;
      t = restored.t;
      asked = made.is.asked;
      state = made.state;
      recorded = plan_recorded laws (files_after events) r history log faithful restored.t made.plan made.state
          made.is made.makes;
      output = subst (λ (bytes : List ℕ). GoesOn scene.target scene.target_after (WritesFile r.output bytes)) made.are
          restored.output;
      line = tells.line ∙ ap (λ (n : ℕ). gains_text scene.text (restored_text restored.t n)) made.count;
    }

some_weaker : (file : Option (List ℕ)) (P Q : List ℕ → Type 0) → ((bytes : List ℕ) → P bytes → Q bytes)
    → IfSome file P → IfSome file Q
some_weaker None P Q implies held = tt
some_weaker (Some bytes) P Q implies held = implies bytes held

none_has : (file : Option (List ℕ)) (P : List ℕ → Type 0) → file ≡ None → IfSome file P
none_has None P none = tt
none_has (Some bytes) P none = absurd cc

-- where nothing was changed, a crash leaves what one left before
stop_same : (name : List ℕ) (P : List ℕ → Type 0) (x y : List Event) → y ≡ x → LeavesNothing name x
    → LeavesAtMost name P x y
stop_same name P x y same nothing image was =
    let now : was.ago ≡ 0 = omega (arith, was.since, ap length same) in
    let is : IsCrashImage x image = subst (λ (events : List Event). IsCrashImage events image) same
    (subst (λ ago. IsCrashImage (drop ago y) image) now was.was) in
    none_has (get image name) P (nothing image is)

same_events : (a b : List Event) (o : Option (List Event)) → o ≡ Some a → o ≡ Some b → a ≡ b
same_events a b o is_a is_b = let e : Some a ≡ Some b = sym is_a ∙ is_b in cc

module _ (laws : Laws) (r : Request) (scene : Scene) (history : History) (log : SyncLog)
    (store before after : List Event) (told : scene.store ≡ Some store)
    (faithful : IsFaithful (files_after store) history log)
    (told_before : scene.target ≡ Some before) (told_after : scene.target_after ≡ Some after)
    (nothing : LeavesNothing r.output before) where
  abbrev Recorded : List ℕ → Type 0
  Recorded bytes = IsRecorded (files_after store) r history log bytes

  -- the target wasn't changed
  stop_unchanged : scene.target_after ≡ scene.target → LeavesAtMost r.output Recorded before after
  stop_unchanged same = stop_same r.output Recorded before after
      (same_events after before scene.target_after told_after (same ∙ told_before)) nothing

  -- nothing got the name
  stop_unwritten : GoesOn scene.target scene.target_after (LeavesUnwritten r.output)
      → LeavesAtMost r.output Recorded before after
  stop_unwritten goes image was =
      let went = goes.told before told_before in
      let same = same_events went.0 after scene.target_after went.1 told_after in
      none_has (get image r.output) Recorded
      (went.2.at_a_stop nothing image
      (subst (λ (es : List Event). WasCrashImageSince es (length before) image) (sym same) was))

  -- what the plan makes was written, or may have been
  stop_written : (t pages : ℕ) (bytes : List ℕ) (P : List Event → List Event → Type 0)
      → AreOfPlan (files_after store) r t pages bytes → GoesOn scene.target scene.target_after P
      → ((x y : List Event) → P x y → LeavesNothing r.output x → LeavesAtMost r.output (λ found. found ≡ bytes) x y)
      → LeavesAtMost r.output Recorded before after
  stop_written t pages bytes P made goes holds image was =
      let went = goes.told before told_before in
      let same = same_events went.0 after scene.target_after went.1 told_after in
      some_weaker (get image r.output) (λ found. found ≡ bytes) Recorded
      (λ found whole. record {
        names = made.is.names;
        are = made.is.are;
        t = t;
        asked = made.is.asked;
        state = made.state;
        recorded = plan_recorded laws (files_after store) r history log faithful t made.plan made.state made.is
            made.makes;
        same = whole ∙ made.are;
      })
      (holds before went.0 went.2 nothing image
      (subst (λ (es : List Event). WasCrashImageSince es (length before) image) (sym same) was))

  stop_restored : Restores r scene → LeavesAtMost r.output Recorded before after
  stop_restored it = stop_written it.t it.pages it.bytes (WritesFile r.output it.bytes) (it.state store told)
      it.output (λ x y is. is.at_a_stop)

  stop_of : (why : Why) → Explains r scene why → LeavesAtMost r.output Recorded before after
  stop_of Done (_, tells) = stop_restored tells.restored
  stop_of SkippedOutput (writes, _, _) = stop_unchanged writes.target
  stop_of (OutputExists size) (writes, _, _) = stop_unchanged writes.target
  stop_of SkippedReplica (writes, _, _, _) = stop_unchanged writes.target
  stop_of NoReplica (writes, _, _, _) = stop_unchanged writes.target
  stop_of NoMoment (writes, _, _) = stop_unchanged writes.target
  stop_of (MissingRange past) (writes, _, _) = stop_unchanged writes.target
  stop_of (Damaged name damage) (_, _, inl header) = stop_unchanged header.target
  stop_of (Damaged name damage) (_, _, inr plan) = stop_unwritten plan.target.left
  stop_of (PageMissing name number) (_, _, left, _) = stop_unwritten left.left
  stop_of StoreFault (_, _, _, inl same) = stop_unchanged same
  stop_of StoreFault (_, _, _, inr left) = stop_unwritten left.left
  stop_of TargetFault (_, _, inl same) = stop_unchanged same
  stop_of TargetFault (_, _, inr may) = elim may.left [
    | inl unwritten ↦ stop_unwritten unwritten
    | inr maybe ↦ stop_written maybe.t maybe.pages maybe.bytes (MayWriteFile r.output maybe.bytes)
        (maybe.state store told) maybe.output (λ x y is. is.at_a_stop)
  ]
  stop_of SinkFault (_, _, untold) = stop_restored untold.restored
  stop_of Memory writes = stop_unchanged writes.target
  stop_of NotBuilt explains = absurd explains
  stop_of (Usage usage) explains = absurd explains
  stop_of NoDatabase explains = absurd explains
  stop_of (Header fault) explains = absurd explains
  stop_of (SizesDiffer db wal) explains = absurd explains
  stop_of (WalTooLong size) explains = absurd explains
  stop_of (TooLarge size) explains = absurd explains
  stop_of (GateBroken broken) explains = absurd explains
  stop_of TxidSpent explains = absurd explains
  stop_of LiveFault explains = absurd explains

pub survives_any_stop : Laws → (r : Request) (scene : Scene) (why : Why) → Explains r scene why
    → SurvivesAnyStop r scene
survives_any_stop laws r scene why explains history log store before after told faithful told_before told_after
    nothing = stop_of laws r scene history log store before after told faithful told_before told_after nothing why
    explains
