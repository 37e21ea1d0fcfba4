-- Where the condition of an answer holds and no count rose, no other answer is left but want of memory.
use Rattle.std.proofs.Common.{◌≡◌, ℕ, List, [], ◌∷◌, length, Bool, true, false, Option, Some, None, refl, ap, subst}
use Rattle.std.proofs.Common.{inl, inr, arith}
use Rattle.std.specs.Prelude.{◌⊎◌, option_map, IsSome, ℤ, pos}
use Rattle.std.specs.List.{Contains}
use Rattle.crash_disk.specs.declared.event.Event.{Event}
use Rattle.crash_disk.specs.Files.{Files, files_after}
use Rattle.ls_words.specs.declared.command.Target.{Target}
use Rattle.ls_words.specs.declared.command.Target.TheVariants.{Moment}
use Rattle.replica_store.specs.declared.error.Damage.{Damage}
use Rattle.replica_store.specs.declared.file_name.FileName.{FileName}
use Rattle.replica_store.specs.declared.dated_names.Dated.{Dated}
use Rattle.replica_store.specs.Dating.{AreDated}
use Rattle.replica_store.specs.Listing.{AreListed, path_of, paths_of}
use Rattle.ls_base.specs.Fault.{Rose}
use Rattle.ls_base.specs.History.{History}
use Rattle.ls_base.specs.SyncLog.{SyncLog}
use Rattle.ls_base.specs.State.{State}
use Rattle.replica_store.specs.Faithful.{IsFaithful}
use Rattle.page_cursors.specs.PlanFiles.{Makes, IsFirstDamaged, IsFirstMissing}
use Rattle.ls_answers.specs.declared.outcome.Why.{Why}
use Rattle.ls_answers.specs.declared.outcome.Why.TheVariants.{Done, SkippedOutput, SkippedReplica, NotBuilt, Usage}
use Rattle.ls_answers.specs.declared.outcome.Why.TheVariants.{NoReplica, MissingRange, NoMoment, Damaged, PageMissing}
use Rattle.ls_answers.specs.declared.outcome.Why.TheVariants.{OutputExists, StoreFault, TargetFault, SinkFault, Memory}
use Rattle.ls_answers.specs.declared.outcome.Why.TheVariants.{NoDatabase, Header, SizesDiffer, WalTooLong, TooLarge}
use Rattle.ls_answers.specs.declared.outcome.Why.TheVariants.{GateBroken, TxidSpent, LiveFault}
use Rattle.litestream_core.specs.Asked.{AreNames, IsAsked, IsOfMoment, IsPlan, IsMissing, IsBefore, IsBadHeader}
use Rattle.litestream_core.specs.Asked.{LacksMoment}
use Rattle.litestream_core.specs.Command.{Explains, NotRisen}
use Rattle.litestream_core.specs.Exact.{IsFree, IsTaken, HeadersAreGood, HasABadHeader, IsInTime, HasNoneOf, HasNoChain}
use Rattle.litestream_core.specs.Exact.{LeadsToAsked, MayBePlanned, PlanIsDamaged, PlanLacksPage, PlanMakesState}
use Rattle.litestream_core.specs.Exact.{TellsNoDamage, ComesExactly}
use Rattle.litestream_core.specs.Laws.{Laws}
use Rattle.litestream_core.specs.Request.{Request}
use Rattle.litestream_core.specs.Scene.{Scene}
use Rattle.litestream_core.proofs.PlanLemmas.{plan_makes}
use Rattle.litestream_core.proofs.HeaderLemmas.{all_headers_good}
use Rattle.litestream_core.proofs.TruthLemmas.{true_headers}

absent_size : (o : Option (List ℕ)) (n : ℕ) → o ≡ None → option_map length o ≡ Some n → ⊥
absent_size None n none some = absurd cc
absent_size (Some x) n none some = absurd cc

absent_there : (o : Option (List ℕ)) → o ≡ None → IsSome o → ⊥
absent_there None none some = absurd cc
absent_there (Some x) none some = absurd cc

same_size : (o : Option ℕ) (m n : ℕ) → o ≡ Some m → o ≡ Some n → n ≡ m
same_size o m n e f = cc

both_ways : (b : Bool) → b ≡ true → b ≡ false → ⊥
both_ways b set unset = cc

-- a replica without names has none
none_listed : (store : Files) (names : List FileName) → AreListed store [] → AreNames store names → ⊥
none_listed store [] none are = are.some refl
none_listed store (name ∷ names) none are =
    let has : Contains (paths_of (name ∷ names)) (path_of name) = (0, omega arith, refl) in
    let there = (are.listed.each (path_of name)).0 has in
    let never = (none.each (path_of name)).1 there in
    absurd (omega (arith, never.1))

-- what became of a plan
data Ended (scene : Scene) (store : Files) (plan : List FileName) (why : Why) : Type 0 where
  Made : (state : State) → Makes store plan state → (why ≡ Done) ⊎ Rose scene.sink_faults scene.sink_faults_after
      → Ended scene store plan why
  Spoilt : (name : FileName) (damage : Damage) → why ≡ Damaged name damage → IsFirstDamaged store plan name damage
      → Ended scene store plan why
  Lacked : (name : FileName) (number : ℕ) → why ≡ PageMissing name number → IsFirstMissing store plan name number
      → Ended scene store plan why

-- how far a restore came, where its output's name was free and no disk failed
data Reached (r : Request) (scene : Scene) (store : Files) (why : Why) : Type 0 where
  OutOfMemory : why ≡ Memory → Reached r scene store why
  NamesNone : AreListed store [] → ((why ≡ SkippedReplica) × (r.if_replica_exists ≡ true))
      ⊎ ((why ≡ NoReplica) × (r.if_replica_exists ≡ false)) → Reached r scene store why
  TooEarly : why ≡ NoMoment → IsBefore store r → Reached r scene store why
  LacksChain : (after : ℕ) → why ≡ MissingRange after → IsMissing store r after → Reached r scene store why
  ReadsBadHeader : (name : FileName) (damage : Damage) → why ≡ Damaged name damage → IsBadHeader store r name damage
      → Reached r scene store why
  HasPlan : (t : ℕ) (plan : List FileName) → IsPlan store r t plan → Ended scene store plan why
      → Reached r scene store why

module _ (r : Request) (scene : Scene) (store : List Event) (told : scene.store ≡ Some store) (is : IsFree r scene)
  where
    reached : (why : Why) → Explains r scene why → Reached r scene (files_after store) why
    reached Done (_, tells) =
        let it = tells.restored.state store told in
        HasPlan tells.restored.t it.plan it.is (Made it.state it.makes (inl refl))
    reached SkippedOutput (_, _, there) = absurd (absent_there _ is.free (there is.target is.told))
    reached (OutputExists n) (_, _, there) = absurd (absent_size _ n is.free (there is.target is.told))
    reached SkippedReplica (_, _, flag, none) = NamesNone (none store told) (inl (refl, flag))
    reached NoReplica (_, _, flag, none) = NamesNone (none store told) (inr (refl, flag))
    reached NoMoment (_, _, before) = TooEarly refl (before store told)
    reached (MissingRange after) (_, _, missing) = LacksChain after refl (missing store told)
    reached (Damaged name damage) (_, _, inl header) = ReadsBadHeader name damage refl (header.bad store told)
    reached (Damaged name damage) (_, _, inr plan) =
        let it = plan.bad store told in HasPlan it.t it.plan it.is (Spoilt name damage refl it.first)
    reached (PageMissing name number) (_, _, _, missing) = let it = missing store told in HasPlan it.t it.plan it.is
        (Lacked name number refl it.first)
    reached StoreFault (_, _, rose, _) = absurd (is.store_calm rose)
    reached TargetFault (_, rose, _) = absurd (is.calm rose)
    reached SinkFault (rose, _, untold) =
        let it = untold.restored.state store told in
        HasPlan untold.restored.t it.plan it.is (Made it.state it.makes (inr rose))
    reached Memory _ = OutOfMemory refl
    reached NotBuilt never = absurd never
    reached (Usage usage) never = absurd never
    reached NoDatabase never = absurd never
    reached (Header fault) never = absurd never
    reached (SizesDiffer db wal) never = absurd never
    reached (WalTooLong size) never = absurd never
    reached (TooLarge size) never = absurd never
    reached (GateBroken broken) never = absurd never
    reached TxidSpent never = absurd never
    reached LiveFault never = absurd never

module _ (laws : Laws) (r : Request) (scene : Scene) (store : Files) where
  no_replica : (why : Why) → AreListed store [] → r.if_replica_exists ≡ false → Reached r scene store why
      → (why ≡ NoReplica) ⊎ (why ≡ Memory)
  no_replica why none flag (OutOfMemory e) = inr e
  no_replica why none flag (NamesNone _ (inl (e, set))) = absurd (both_ways r.if_replica_exists set flag)
  no_replica why none flag (NamesNone _ (inr (e, unset))) = inl e
  no_replica why none flag (TooEarly _ before) = absurd (none_listed store before.names none before.are)
  no_replica why none flag (LacksChain after _ missing) = absurd (none_listed store missing.names none missing.are)
  no_replica why none flag (ReadsBadHeader name damage _ bad) = absurd (none_listed store bad.names none bad.are)
  no_replica why none flag (HasPlan t plan planned _) = absurd (none_listed store planned.names none planned.are)

  skipped_replica : (why : Why) → AreListed store [] → r.if_replica_exists ≡ true → Reached r scene store why
      → (why ≡ SkippedReplica) ⊎ (why ≡ Memory)
  skipped_replica why none flag (OutOfMemory e) = inr e
  skipped_replica why none flag (NamesNone _ (inl (e, set))) = inl e
  skipped_replica why none flag (NamesNone _ (inr (e, unset))) = absurd (both_ways r.if_replica_exists flag unset)
  skipped_replica why none flag (TooEarly _ before) = absurd (none_listed store before.names none before.are)
  skipped_replica why none flag (LacksChain after _ missing) = absurd (none_listed store missing.names none missing.are)
  skipped_replica why none flag (ReadsBadHeader name damage _ bad) = absurd (none_listed store bad.names none bad.are)
  skipped_replica why none flag (HasPlan t plan planned _) = absurd (none_listed store planned.names none planned.are)

  of_moment : (moment : ℤ) (names : List FileName) (t : ℕ) → r.target ≡ Moment moment → IsAsked store names r.target t
      → IsOfMoment store names moment t
  of_moment moment names t is asked = subst (λ (target : Target). IsAsked store names target t) is asked

  no_moment : (why : Why) (moment : ℤ) → (AreListed store [] → ⊥) → r.target ≡ Moment moment → HeadersAreGood store r
      → HasNoneOf store moment → Reached r scene store why → (why ≡ NoMoment) ⊎ (why ≡ Memory)
  no_moment why moment some is good none (OutOfMemory e) = inr e
  no_moment why moment some is good none (NamesNone listed _) = absurd (some listed)
  no_moment why moment some is good none (TooEarly e _) = inl e
  no_moment why moment some is good none (LacksChain after _ missing) = absurd
      (none missing.names missing.are missing.t (of_moment moment missing.names missing.t is missing.asked))
  no_moment why moment some is good none (ReadsBadHeader name damage _ bad) = absurd
      (good bad.names bad.are name damage bad.bad)
  no_moment why moment some is good none (HasPlan t plan planned _) = absurd
      (none planned.names planned.are t (of_moment moment planned.names t is planned.asked))

  too_early : (ms : ℕ) (names : List FileName) → r.target ≡ Moment (pos ms) → LacksMoment store names r.target
      → (dated : List Dated) × AreDated store names dated
  too_early ms names is lacks = let early = subst (λ (target : Target). LacksMoment store names target) is lacks in
      (early.0, early.1)

  bad_header : (why : Why) (ms : ℕ) → (AreListed store [] → ⊥) → r.target ≡ Moment (pos ms) → HasABadHeader store
      → Reached r scene store why
      → ((name : FileName) × (damage : Damage) × (why ≡ Damaged name damage)) ⊎ (why ≡ Memory)
  bad_header why ms some is bad (OutOfMemory e) = inr e
  bad_header why ms some is bad (NamesNone listed _) = absurd (some listed)
  bad_header why ms some is bad (TooEarly _ before) =
      let first = bad before.names before.are in
      let early = too_early ms before.names is before.lacks in
      absurd (all_headers_good laws store before.names early.0 first.0 first.1 early.1 first.2)
  bad_header why ms some is bad (LacksChain after _ missing) =
      let first = bad missing.names missing.are in
      let own = of_moment (pos ms) missing.names missing.t is missing.asked in
      absurd (all_headers_good laws store missing.names own.dated first.0 first.1 own.moments first.2)
  bad_header why ms some is bad (ReadsBadHeader name damage e _) = inl (name, damage, e)
  bad_header why ms some is bad (HasPlan t plan planned _) =
      let first = bad planned.names planned.are in
      let own = of_moment (pos ms) planned.names t is planned.asked in
      absurd (all_headers_good laws store planned.names own.dated first.0 first.1 own.moments first.2)

  missing_range : (why : Why) → (AreListed store [] → ⊥) → HeadersAreGood store r → IsInTime store r
      → HasNoChain store r → Reached r scene store why → ((after : ℕ) × (why ≡ MissingRange after)) ⊎ (why ≡ Memory)
  missing_range why some good timely none (OutOfMemory e) = inr e
  missing_range why some good timely none (NamesNone listed _) = absurd (some listed)
  missing_range why some good timely none (TooEarly _ before) = absurd (timely before.names before.are before.lacks)
  missing_range why some good timely none (LacksChain after e _) = inl (after, e)
  missing_range why some good timely none (ReadsBadHeader name damage _ bad) = absurd
      (good bad.names bad.are name damage bad.bad)
  missing_range why some good timely none (HasPlan t plan planned _) = absurd
      (none planned.names planned.are t planned.asked planned.retained)

  -- with a plan, only what became of it is left
  planned : (why : Why) → MayBePlanned store r → Reached r scene store why → (why ≡ Memory)
      ⊎ ((t : ℕ) × (plan : List FileName) × IsPlan store r t plan × Ended scene store plan why)
  planned why may (OutOfMemory e) = inl e
  planned why may (NamesNone listed _) = absurd (may.some listed)
  planned why may (TooEarly _ before) = absurd (may.in_time before.names before.are before.lacks)
  planned why may (LacksChain after _ missing) = absurd (may.chain after missing)
  planned why may (ReadsBadHeader name damage _ bad) = absurd (may.good bad.names bad.are name damage bad.bad)
  planned why may (HasPlan t plan is ended) = inr (t, plan, is, ended)

  damaged : (why : Why) → PlanIsDamaged store r → (why ≡ Memory)
      ⊎ ((t : ℕ) × (plan : List FileName) × IsPlan store r t plan × Ended scene store plan why)
      → ((name : FileName) × (damage : Damage) × (why ≡ Damaged name damage)) ⊎ (why ≡ Memory)
  damaged why bad (inl e) = inr e
  damaged why bad (inr (t, plan, is, Made state makes _)) = let first = bad t plan is in absurd
      (laws.sound store plan makes.read first.0 first.1 makes.are first.2)
  damaged why bad (inr (t, plan, is, Spoilt name damage e _)) = inl (name, damage, e)
  damaged why bad (inr (t, plan, is, Lacked name number _ missing)) = let first = bad t plan is in absurd
      (laws.sound store plan missing.read first.0 first.1 missing.are first.2)

  page_missing : (why : Why) → PlanLacksPage store r → (why ≡ Memory)
      ⊎ ((t : ℕ) × (plan : List FileName) × IsPlan store r t plan × Ended scene store plan why)
      → ((name : FileName) × (number : ℕ) × (why ≡ PageMissing name number)) ⊎ (why ≡ Memory)
  page_missing why bad (inl e) = inr e
  page_missing why bad (inr (t, plan, is, Made state makes _)) = let first = bad t plan is in absurd
      (laws.whole store plan state first.0 first.1 makes first.2)
  page_missing why bad (inr (t, plan, is, Spoilt name damage _ spoilt)) = let first = bad t plan is in absurd
      (laws.sound store plan first.2.read name damage first.2.are spoilt)
  page_missing why bad (inr (t, plan, is, Lacked name number e _)) = inl (name, number, e)

  done : (why : Why) → PlanMakesState store r → NotRisen scene.sink_faults scene.sink_faults_after → (why ≡ Memory)
      ⊎ ((t : ℕ) × (plan : List FileName) × IsPlan store r t plan × Ended scene store plan why)
      → (why ≡ Done) ⊎ (why ≡ Memory)
  done why good calm (inl e) = inr e
  done why good calm (inr (t, plan, is, Made state makes (inl e))) = inl e
  done why good calm (inr (t, plan, is, Made state makes (inr rose))) = absurd (calm rose)
  done why good calm (inr (t, plan, is, Spoilt name damage _ spoilt)) = let makes = good t plan is in absurd
      (laws.sound store plan makes.1.read name damage makes.1.are spoilt)
  done why good calm (inr (t, plan, is, Lacked name number _ missing)) = let makes = good t plan is in absurd
      (laws.whole store plan makes.0 name number makes.1 missing)

module _ (r : Request) (scene : Scene) (size : ℕ) (is : IsTaken r scene size) where
  exists : r.if_db_not_exists ≡ false → (why : Why) → Explains r scene why → (why ≡ OutputExists size) ⊎ (why ≡ Memory)
  exists flag Done (lacks, _) = absurd (absent_size _ size (lacks is.target is.told) is.there)
  exists flag SkippedOutput (_, set, _) = absurd (both_ways r.if_db_not_exists set flag)
  exists flag (OutputExists n) (_, _, there) = inl
      (ap (λ m. OutputExists m) (same_size _ size n is.there (there is.target is.told)))
  exists flag SkippedReplica (_, lacks, _, _) = absurd (absent_size _ size (lacks is.target is.told) is.there)
  exists flag NoReplica (_, lacks, _, _) = absurd (absent_size _ size (lacks is.target is.told) is.there)
  exists flag NoMoment (_, lacks, _) = absurd (absent_size _ size (lacks is.target is.told) is.there)
  exists flag (MissingRange after) (_, lacks, _) = absurd (absent_size _ size (lacks is.target is.told) is.there)
  exists flag (Damaged name damage) (_, lacks, _) = absurd (absent_size _ size (lacks is.target is.told) is.there)
  exists flag (PageMissing name number) (_, lacks, _, _) = absurd
      (absent_size _ size (lacks is.target is.told) is.there)
  exists flag StoreFault (_, lacks, _, _) = absurd (absent_size _ size (lacks is.target is.told) is.there)
  exists flag TargetFault (_, rose, _) = absurd (is.calm rose)
  exists flag SinkFault (_, lacks, _) = absurd (absent_size _ size (lacks is.target is.told) is.there)
  exists flag Memory _ = inr refl
  exists flag NotBuilt never = absurd never
  exists flag (Usage usage) never = absurd never
  exists flag NoDatabase never = absurd never
  exists flag (Header fault) never = absurd never
  exists flag (SizesDiffer db wal) never = absurd never
  exists flag (WalTooLong size) never = absurd never
  exists flag (TooLarge size) never = absurd never
  exists flag (GateBroken broken) never = absurd never
  exists flag TxidSpent never = absurd never
  exists flag LiveFault never = absurd never

  skipped : r.if_db_not_exists ≡ true → (why : Why) → Explains r scene why → (why ≡ SkippedOutput) ⊎ (why ≡ Memory)
  skipped flag Done (lacks, _) = absurd (absent_size _ size (lacks is.target is.told) is.there)
  skipped flag SkippedOutput _ = inl refl
  skipped flag (OutputExists n) (_, unset, _) = absurd (both_ways r.if_db_not_exists flag unset)
  skipped flag SkippedReplica (_, lacks, _, _) = absurd (absent_size _ size (lacks is.target is.told) is.there)
  skipped flag NoReplica (_, lacks, _, _) = absurd (absent_size _ size (lacks is.target is.told) is.there)
  skipped flag NoMoment (_, lacks, _) = absurd (absent_size _ size (lacks is.target is.told) is.there)
  skipped flag (MissingRange after) (_, lacks, _) = absurd (absent_size _ size (lacks is.target is.told) is.there)
  skipped flag (Damaged name damage) (_, lacks, _) = absurd (absent_size _ size (lacks is.target is.told) is.there)
  skipped flag (PageMissing name number) (_, lacks, _, _) = absurd
      (absent_size _ size (lacks is.target is.told) is.there)
  skipped flag StoreFault (_, lacks, _, _) = absurd (absent_size _ size (lacks is.target is.told) is.there)
  skipped flag TargetFault (_, rose, _) = absurd (is.calm rose)
  skipped flag SinkFault (_, lacks, _) = absurd (absent_size _ size (lacks is.target is.told) is.there)
  skipped flag Memory _ = inr refl
  skipped flag NotBuilt never = absurd never
  skipped flag (Usage usage) never = absurd never
  skipped flag NoDatabase never = absurd never
  skipped flag (Header fault) never = absurd never
  skipped flag (SizesDiffer db wal) never = absurd never
  skipped flag (WalTooLong size) never = absurd never
  skipped flag (TooLarge size) never = absurd never
  skipped flag (GateBroken broken) never = absurd never
  skipped flag TxidSpent never = absurd never
  skipped flag LiveFault never = absurd never

module _ (laws : Laws) (r : Request) (scene : Scene) (store : List Event) (told : scene.store ≡ Some store)
    (history : History) (log : SyncLog) (faithful : IsFaithful (files_after store) history log)
    (good : HeadersAreGood (files_after store) r) where
  no_damage : (name : FileName) (damage : Damage) → Explains r scene (Damaged name damage) → ⊥
  no_damage name damage (_, _, inl header) = let bad = header.bad store told in good bad.names bad.are name damage
      bad.bad
  no_damage name damage (_, _, inr plan) =
      let it = plan.bad store told in
      let makes = plan_makes laws (files_after store) r history log faithful it.t it.plan it.is in
      laws.sound (files_after store) it.plan makes.1.read name damage makes.1.are it.first

  no_page_missing : (name : FileName) (number : ℕ) → Explains r scene (PageMissing name number) → ⊥
  no_page_missing name number (_, _, _, missing) =
      let it = missing store told in
      let makes = plan_makes laws (files_after store) r history log faithful it.t it.plan it.is in
      laws.whole (files_after store) it.plan makes.0 name number makes.1 it.first

  tells_no_damage : (why : Why) → Explains r scene why → TellsNoDamage why
  tells_no_damage why explains = (
    λ name damage is. no_damage name damage (subst (λ (answer : Why). Explains r scene answer) is explains),
    λ name number is. no_page_missing name number (subst (λ (answer : Why). Explains r scene answer) is explains),
  )

-- nothing refuses before the files are read, where they tell the truth
may_be_planned : Laws → (files : Files) (r : Request) (history : History) (log : SyncLog) → IsFaithful files history log
    → LeadsToAsked files r → MayBePlanned files r
may_be_planned laws files r history log faithful leads = record {
  some = leads.some;
  good = true_headers laws files history log faithful r;
  in_time = leads.in_time;
  chain = leads.chain;
}

pub comes_exactly : Laws → (r : Request) (scene : Scene) (why : Why) → Explains r scene why → ComesExactly r scene why
comes_exactly laws r scene why explains = record {
  output_exists = λ size taken flag. exists r scene size taken flag why explains;
  skipped_output = λ size taken flag. skipped r scene size taken flag why explains;
  no_replica = λ store told free none flag. no_replica laws r scene (files_after store) why none flag
      (reached r scene store told free why explains);
  skipped_replica = λ store told free none flag. skipped_replica laws r scene (files_after store) why none flag
      (reached r scene store told free why explains);
  no_moment = λ store told free moment some is good none. no_moment laws r scene (files_after store) why moment some
      is good none (reached r scene store told free why explains);
  bad_header = λ store told free ms some is bad. bad_header laws r scene (files_after store) why ms some is bad
      (reached r scene store told free why explains);
  missing_range = λ store told free some good timely none. missing_range laws r scene (files_after store) why some
      good timely none (reached r scene store told free why explains);
  damaged = λ store told free may bad. damaged laws r scene (files_after store) why bad
      (planned laws r scene (files_after store) why may (reached r scene store told free why explains));
  page_missing = λ store told free may bad. page_missing laws r scene (files_after store) why bad
      (planned laws r scene (files_after store) why may (reached r scene store told free why explains));
  done = λ store told free may good calm. done laws r scene (files_after store) why good calm
      (planned laws r scene (files_after store) why may (reached r scene store told free why explains));
  faithful = λ store told free history log faithful leads calm.
      done laws r scene (files_after store) why (plan_makes laws (files_after store) r history log faithful) calm
      (planned laws r scene (files_after store) why
      (may_be_planned laws (files_after store) r history log faithful leads)
      (reached r scene store told free why explains));
  undamaged = λ store told history log faithful.
      tells_no_damage laws r scene store told history log faithful
      (true_headers laws (files_after store) history log faithful r) why explains;
}
