-- From the steps of a restore to what its answers mean.
use Rattle.std.proofs.Common.{◌≡◌, ℕ, ◌≤◌, List, refl, subst, inl, inr, arith}
use Rattle.std.specs.Prelude.{◌⊎◌}
use Rattle.std.specs.Prelude.{Result, Ok, Err, OnOk, IfErr}
use Rattle.ls_base.specs.Fault.{Rose}
use Rattle.crash_disk.specs.Told.{Told, IfTold}
use Rattle.crash_disk.specs.Files.{files_after}
use Rattle.crash_disk.specs.Output.{gains_text, GainsFront}
use Rattle.replica_store.specs.declared.file_name.FileName.{FileName}
use Rattle.restore_apply.specs.declared.restored.Restored.{Restored}
use Rattle.restore_apply.specs.declared.restored.RestoreFault.{RestoreFault}
use Rattle.restore_apply.specs.declared.restored.RestoreFault.TheVariants as fault
use Rattle.crash_disk.specs.GoesOn.{GoesOn}
use Rattle.restore_apply.specs.Restoring.{Restores as Applies, MayRestore as Maybe, ExplainsRestore, AreStateOf}
use Rattle.restore_apply.specs.Restoring.{Abandons, RoseTwice}
use Rattle.restore_apply.specs.Staging.{LeavesUnwritten}
use Rattle.ls_answers.specs.declared.outcome.Why.{Why}
use Rattle.ls_answers.specs.declared.outcome.Why.TheVariants.{Done, SinkFault}
use Rattle.replica_store.specs.Chain.{IsRetained}
use Rattle.restore_plan.specs.declared.chain.PlanFault.{PlanFault}
use Rattle.restore_plan.specs.declared.chain.PlanFault.TheVariants as plan
use Rattle.restore_plan.specs.Retained.{IsGreatestRetainedBelow}
use Rattle.litestream_core.specs.Asked.{IsPlan, IsAsked, AreNames}
use Rattle.litestream_core.specs.Command.{Explains, why_of}
use Rattle.litestream_core.specs.Line.{restored_text}
use Rattle.litestream_core.specs.Preparing.{why_of_fault, why_of_plan, ExplainsReading}
use Rattle.litestream_core.specs.Request.{Request}
use Rattle.litestream_core.specs.Scene.{Scene}
use Rattle.litestream_core.specs.Written.{IfFilesTold, LacksOutput, AreOfPlan, Restores, MayWrite, LeavesNoOutput}

-- a count that rose from a later moment on rose from an earlier one on
pub rose_sooner : (before mid now : ℕ) → before ≤ mid → Rose mid now → Rose before now
rose_sooner before mid now later rose = record { least = omega (arith, rose.least) }

module _ (r : Request) (scene : Scene) (t : ℕ) (plan : List FileName) (lacks : LacksOutput scene.target r)
    (is : IfFilesTold scene.store (λ files. IsPlan files r t plan)) where
  -- bytes that the plan's files make
  of_plan : (pages : ℕ) (bytes : List ℕ)
      → IfTold scene.store (λ events. AreStateOf (files_after events) plan pages bytes)
      → IfFilesTold scene.store (λ files. AreOfPlan files r t pages bytes)
  of_plan pages bytes state events told =
      let made = state events told in
      record {
        plan = plan;
        is = is events told;
        state = made.state;
        makes = made.makes;
        count = made.count;
        are = made.are;
      }

  module _ (store_mid target_mid : ℕ) (store_later : scene.store_faults ≤ store_mid)
      (target_later : scene.target_faults ≤ target_mid) (text : scene.text_after ≡ scene.text) where
    no_output : Abandons r.output scene.target scene.target_after target_mid scene.target_faults_after
        → LeavesNoOutput r scene
    no_output left = record {
      left = left.left;
      cleared = λ calm. left.cleared (λ rose. calm (rose_sooner scene.target_faults target_mid
          scene.target_faults_after target_later rose));
    }

    twice_sooner : RoseTwice target_mid scene.target_faults_after
        → RoseTwice scene.target_faults scene.target_faults_after
    twice_sooner rose = record { least = omega (arith, rose.least, target_later) }

    left_by : (GoesOn scene.target scene.target_after (LeavesUnwritten r.output))
        ⊎ Maybe scene.store plan r.output scene.target scene.target_after
        → (GoesOn scene.target scene.target_after (LeavesUnwritten r.output)) ⊎ MayWrite r scene
    left_by (inl unwritten) = inl unwritten
    left_by (inr may) = inr (record {
      t = t;
      pages = may.pages;
      bytes = may.bytes;
      output = may.output;
      state = of_plan may.pages may.bytes may.state;
    })

    pub explains_fault : (found : RestoreFault)
        → ExplainsRestore scene.store plan r.output scene.target scene.target_after store_mid scene.store_faults_after
        target_mid scene.target_faults_after found → Explains r scene (why_of_fault found)
    explains_fault (fault.Damaged name damage) (left, first) = (
      text,
      lacks,
      inr (record {
        target = no_output left;
        bad = λ events told. record { t = t; plan = plan; is = is events told; first = first events told };
      }),
    )
    explains_fault (fault.PageMissing name number) (left, first) = (
      text,
      lacks,
      no_output left,
      λ events told. record { t = t; plan = plan; is = is events told; first = first events told },
    )
    explains_fault (fault.Store disk) (left, rose) = (
      text,
      lacks,
      rose_sooner scene.store_faults store_mid scene.store_faults_after store_later rose,
      inr (no_output left),
    )
    explains_fault (fault.Target disk) broke = (
      text,
      rose_sooner scene.target_faults target_mid scene.target_faults_after target_later broke.rose,
      inr (record {
        absent = lacks;
        left = left_by broke.left;
        cleared = λ calm. broke.cleared (λ rose. calm (twice_sooner rose));
      }),
    )
    explains_fault fault.Memory same = record { target = same; text = text }

  module _ (restored : Restored)
      (ok : Applies scene.store plan r.output scene.target scene.target_after restored) where
    restores : Restores r scene
    restores = record {
      t = t;
      pages = restored.pages;
      bytes = ok.bytes;
      output = ok.output;
      state = of_plan restored.pages ok.bytes ok.state;
    }

    pub explains_done : scene.text_after ≡ gains_text scene.text (restored_text t restored.pages)
        → Explains r scene Done
    unfolding restores
    explains_done line = (lacks, record { restored = restores; line = line })

    pub explains_sink_fault : Rose scene.sink_faults scene.sink_faults_after
        → GainsFront scene.text scene.text_after (restored_text t restored.pages) → Explains r scene SinkFault
    unfolding restores
    explains_sink_fault rose front = (rose, lacks, record { restored = restores; line = front })

-- what was told after the reading and after the writing, of what lay in the folders before it and after it
module _ (store store_mid target target_mid target_after after_mid : Told) (plan lent : List FileName)
    (output : List ℕ) (same_store : store_mid ≡ store) (same_target : target_mid ≡ target)
    (same_after : after_mid ≡ target_after) (same_plan : lent ≡ plan) where
  pub explained_from : (a b c d : ℕ) (found : RestoreFault) → ExplainsRestore store_mid lent output target_mid
      after_mid a b c d found → ExplainsRestore store plan output target target_after a b c d found
  explained_from a b c d found explained =
      subst (λ (p : List FileName). ExplainsRestore store p output target target_after a b c d found) same_plan
      (subst (λ (u : Told). ExplainsRestore store lent output target u a b c d found) same_after
      (subst (λ (u : Told). ExplainsRestore store lent output u after_mid a b c d found) same_target
      (subst (λ (u : Told). ExplainsRestore u lent output target_mid after_mid a b c d found) same_store
      explained)))

  pub applied_from : (restored : Restored) → Applies store_mid lent output target_mid after_mid restored
      → Applies store plan output target target_after restored
  applied_from restored applied =
      subst (λ (p : List FileName). Applies store p output target target_after restored) same_plan
      (subst (λ (u : Told). Applies store lent output target u restored) same_after
      (subst (λ (u : Told). Applies store lent output u after_mid restored) same_target
      (subst (λ (u : Told). Applies u lent output target_mid after_mid restored) same_store applied)))

-- why there is no plan to the transaction that is asked for
pub explains_plan : (r : Request) (store : Told) (before now : ℕ) (names : List FileName) (t : ℕ) (found : PlanFault)
    → IfFilesTold store (λ files. AreNames files names) → IfFilesTold store (λ files. IsAsked files names r.target t)
    → ((after : ℕ) → found ≡ plan.MissingRange after → IsRetained names t → ⊥)
    → ((after : ℕ) → found ≡ plan.MissingRange after → IsGreatestRetainedBelow names t after)
    → ExplainsReading r store before now (why_of_plan found)
explains_plan r store before now names t (plan.MissingRange after) are asked missing greatest = λ events told. record {
  names = names;
  are = are events told;
  t = t;
  asked = asked events told;
  missing = missing after refl;
  greatest = greatest after refl;
}
explains_plan r store before now names t plan.Memory are asked missing greatest = tt

-- what holds of a restore that returned well holds where the answer is Done
pub where_done : (ended : Result (Unit {0}) Why) (P : Type 0) → OnOk ended P → IfErr ended (λ why. why ≡ Done → ⊥)
    → why_of ended ≡ Done → P
where_done (Ok x) P holds never done = holds
where_done (Err why) P holds never done = absurd (never done)
