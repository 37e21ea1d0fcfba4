-- What explains an answer at the end of a part of a replication explains it at the end of the whole.
use Rattle.std.proofs.Common.{◌≡◌, ℕ, ◌+◌, ◌≤◌, List, length, true, Some, Err, sym, ap, subst, ◌∙◌, inl, inr, ⊎_elim}
use Rattle.std.proofs.Common.{arith}
use Rattle.crash_disk.specs.declared.event.Event.{Event}
use Rattle.crash_disk.specs.GoesOn.{IsGrown}
use Rattle.crash_disk.proofs.GoesOnLemmas.{grown_then, goes_on-same}
use Rattle.live_gate.specs.LiveRecord.{Database, LiveRecord, Asked, GoesOn}
use Rattle.wal_follow.specs.declared.fault.Broken.TheVariants as found
use Rattle.wal_follow.specs.declared.fault.FollowFault.TheVariants as follow
use Rattle.wal_follow.specs.Calls.{IsAnswerToSalts}
use Rattle.ls_answers.specs.declared.outcome.Broken.{Broken}
use Rattle.ls_answers.specs.declared.outcome.Broken.TheVariants.{Salts, Short}
use Rattle.ls_answers.specs.declared.outcome.Why.{Why}
use Rattle.ls_answers.specs.declared.outcome.Why.TheVariants.{Done, SkippedOutput, SkippedReplica, NotBuilt, Usage}
use Rattle.ls_answers.specs.declared.outcome.Why.TheVariants.{NoReplica, MissingRange, NoMoment, Damaged, PageMissing}
use Rattle.ls_answers.specs.declared.outcome.Why.TheVariants.{OutputExists, StoreFault, TargetFault, SinkFault, Memory}
use Rattle.ls_answers.specs.declared.outcome.Why.TheVariants.{NoDatabase, Header, SizesDiffer, WalTooLong, TooLarge}
use Rattle.ls_answers.specs.declared.outcome.Why.TheVariants.{GateBroken, TxidSpent, LiveFault}
use Rattle.replica_upkeep.specs.declared.answer.UpkeepStop.{UpkeepStop}
use Rattle.replica_upkeep.specs.declared.answer.UpkeepStop.TheVariants as upkeep
use Rattle.replica_upkeep.specs.Answers as upkeep_run
use Rattle.replicate_command.specs.Answers.{Explains, IfCalm, IfHeader, IfLength, HadBadRun, ShowsBroken}
use Rattle.replicate_command.specs.Asked.{Asked as Wish}
use Rattle.replica_round.specs.Later.{IsLater}
use Rattle.replicate_command.specs.Later.{ObjectsGoOn}
use Rattle.replicate_command.specs.Seen.{Seen, FaultsStay}
use Rattle.replicate_command.proofs.LaterLemmas.{later_then, told_before, rose_since, rose_until}

-- from the start of the first part to the end of the second one
abbrev pub joined : Seen → Seen → Seen
joined first second = record {
  asked = first.asked;
  live = first.live;
  live_after = second.live_after;
  is_there = first.is_there;
  attached_after = second.attached_after;
  store = first.store;
  store_after = second.store_after;
  folder_after = second.folder_after;
  text = first.text;
  text_after = second.text_after;
  live_faults = first.live_faults;
  live_faults_after = second.live_faults_after;
  store_faults = first.store_faults;
  store_faults_after = second.store_faults_after;
  sink_faults = first.sink_faults;
  sink_faults_after = second.sink_faults_after;
}

-- the second part begins where the first one ends
pub record Meets (first second : Seen) : Type 0 where
  pub asked : second.asked ≡ first.asked
  pub live : second.live ≡ first.live_after
  pub there : second.is_there ≡ first.is_there
  pub attached : second.attached_after ≡ first.attached_after
  pub store : second.store ≡ first.store_after
  pub text : second.text ≡ first.text_after
  pub live_faults : second.live_faults ≡ first.live_faults_after
  pub store_faults : second.store_faults ≡ first.store_faults_after
  pub sink_faults : second.sink_faults ≡ first.sink_faults_after

pub faults_then : (first second : Seen) → Meets first second → FaultsStay first → FaultsStay second
    → FaultsStay (joined first second)
faults_then first second meets one two = record {
  live = omega (arith, one.live, two.live, meets.live_faults);
  store = omega (arith, one.store, two.store, meets.store_faults);
  sink = omega (arith, one.sink, two.sink, meets.sink_faults);
}

pub objects_then : (first second : Seen) → Meets first second → ObjectsGoOn first → ObjectsGoOn second
    → ObjectsGoOn (joined first second)
objects_then first second meets one two = record {
  live = record {
    told = λ r is.
        let mid = one.live.told r is in
        let last = two.live.told mid.0 (meets.live ∙ mid.1) in
        (last.0, last.1, later_then r.database mid.0.database last.0.database mid.2 last.2);
    silent = λ none. two.live.silent (meets.live ∙ one.live.silent none);
  };
  store = record {
    told = λ events is.
        let mid = one.store.told events is in
        let last = two.store.told mid.0 (meets.store ∙ mid.1) in
        (last.0, last.1, tt, grown_then events mid.0 last.0 mid.3 last.3);
    silent = λ none. two.store.silent (meets.store ∙ one.store.silent none);
  };
}

module _ (first second : Seen) (meets : Meets first second) (on : ObjectsGoOn first) (stay : FaultsStay first) where
  calm_since : (found : Database → Database → Type 0) → IfCalm second found → IfCalm (joined first second) found
  calm_since found calm old new is_old is_new none =
      let mid = on.live.told old is_old in
      let was = calm mid.0 new (meets.live ∙ mid.1) is_new none in
      record {
        first = was.first;
        second = was.second;
        before = later_then old.database mid.0.database was.first mid.2 was.before;
        between = was.between;
        after = was.after;
        is = was.is;
      }

  bad_since : (refusal : UpkeepStop) (before mid now : List Event) → IsGrown before mid
      → HadBadRun second.asked.now refusal mid now → HadBadRun first.asked.now refusal before now
  bad_since refusal before mid now up is = record {
    at = is.at;
    from = grown_then before mid is.at up is.from;
    to = is.to;
    dated = is.dated;
    are = is.are;
    explained = subst (λ (a : Wish). upkeep_run.Explains is.dated a.now refusal is.at) meets.asked is.explained;
  }

  -- what explains the end of the second part explains that of both
  pub explains_since : (why : Why) → Explains second why → Explains (joined first second) why
  explains_since Done is = is
  explains_since NoDatabase is = λ r told.
      let mid = on.live.told r told in sym meets.there ∙ is mid.0 (meets.live ∙ mid.1)
  explains_since (Header fault) is = is
  explains_since (SizesDiffer db wal) is = (is.0, calm_since _ is.1)
  explains_since (WalTooLong size) is = is
  explains_since (TooLarge size) is = calm_since _ is
  explains_since (GateBroken how) is = is
  explains_since (Damaged name damage) is = λ before now is_before is_now.
      let mid = on.store.told before is_before in
      ⊎_elim inl (λ run. inr (bad_since (upkeep.Damaged name damage) before mid.0 now mid.3 run))
      (is mid.0 now (meets.store ∙ mid.1) is_now)
  explains_since (PageMissing name number) is = λ before now is_before is_now.
      let mid = on.store.told before is_before in
      bad_since (upkeep.PageMissing name number) before mid.0 now mid.3 (is mid.0 now (meets.store ∙ mid.1) is_now)
  explains_since TxidSpent is = λ before now is_before is_now.
      let mid = on.store.told before is_before in
      let spent = is mid.0 now (meets.store ∙ mid.1) is_now in
      record {
        at = spent.at;
        from = grown_then before mid.0 spent.at mid.3 spent.from;
        to = spent.to;
        dated = spent.dated;
        are = spent.are;
        last = spent.last;
      }
  explains_since LiveFault is =
      let below : first.live_faults ≤ second.live_faults = omega (arith, stay.live, meets.live_faults) in
      rose_since first.live_faults second.live_faults second.live_faults_after below is
  explains_since StoreFault is =
      let below : first.store_faults ≤ second.store_faults = omega (arith, stay.store, meets.store_faults) in
      rose_since first.store_faults second.store_faults second.store_faults_after below is
  explains_since SinkFault is =
      let below : first.sink_faults ≤ second.sink_faults = omega (arith, stay.sink, meets.sink_faults) in
      rose_since first.sink_faults second.sink_faults second.sink_faults_after below is
  explains_since Memory is = is
  explains_since SkippedOutput is = absurd is
  explains_since SkippedReplica is = absurd is
  explains_since NotBuilt is = absurd is
  explains_since (Usage usage) is = absurd is
  explains_since NoReplica is = absurd is
  explains_since (MissingRange after) is = absurd is
  explains_since NoMoment is = absurd is
  explains_since (OutputExists size) is = absurd is
  explains_since TargetFault is = absurd is

-- ---- the end

-- Nothing but the hold and the writer's moves changed, and nothing was asked.
pub record Closes (closing : Seen) : Type 0 where
  pub live : GoesOn closing.live closing.live_after
      (λ old new. IsLater old.database new.database × (new.asked ≡ old.asked))
  pub store : closing.store_after ≡ closing.store
  pub text : closing.text_after ≡ closing.text
  pub faults : FaultsStay closing

pub closes_on : (closing : Seen) → Closes closing → ObjectsGoOn closing
closes_on closing closes = record {
  live = record {
    told = λ r is. let next = closes.live.told r is in (next.0, next.1, next.2.0);
    silent = closes.live.silent;
  };
  store = goes_on-same closing.store closing.store_after (λ old new. Unit {0}) closes.store (λ events. tt);
}

-- what was asked shows as much afterwards
still_broken : (how : Broken) (r after : LiveRecord) → after.asked ≡ r.asked → ShowsBroken how r → ShowsBroken how after
still_broken (Short at) r after same is =
    subst (λ (a : Asked). (a.gave_none ≡ true) × (at ≡ a.aimed + length a.answered)) (sym same) is
still_broken (Salts was now) r after same is = (
  is.0,
  subst (λ (a : Asked). IsAnswerToSalts is.0 (Err (follow.GateBroken (found.Salts was now))) a.answered) (sym same)
      is.1,
)

module _ (first closing : Seen) (meets : Meets first closing) (closes : Closes closing) where
  -- the record at the end of the first part
  abbrev ended_at : (r : LiveRecord) → closing.live_after ≡ Some r
      → (x : LiveRecord) × (closing.live ≡ Some x) × (IsLater x.database r.database × (r.asked ≡ x.asked))
  ended_at r is = told_before closing.live closing.live_after _ closes.live r is

  calm_until : (found : Database → Database → Type 0) → IfCalm first found → IfCalm (joined first closing) found
  calm_until found calm old new is_old is_new none =
      let mid = ended_at new is_new in
      let zero : mid.0.database.chances ≡ 0 = omega (arith, none, mid.2.0.chances) in
      let was = calm old mid.0 is_old (sym meets.live ∙ mid.1) zero in
      record {
        first = was.first;
        second = was.second;
        before = was.before;
        between = was.between;
        after = later_then was.second mid.0.database new.database was.after mid.2.0;
        is = was.is;
      }

  header_until : (P : List ℕ → Type 0) → IfHeader first P → IfHeader (joined first closing) P
  header_until P is r told bytes given =
      let mid = ended_at r told in
      is mid.0 (sym meets.live ∙ mid.1) bytes (ap (λ (a : Asked). a.head) (sym mid.2.1) ∙ given)

  length_until : (P : ℕ → Type 0) → IfLength first P → IfLength (joined first closing) P
  length_until P is r told size given =
      let mid = ended_at r told in
      is mid.0 (sym meets.live ∙ mid.1) size (ap (λ (a : Asked). a.wal_size) (sym mid.2.1) ∙ given)

  -- what explains the end of the first part explains that of both
  pub explains_until : (why : Why) → Explains first why → Explains (joined first closing) why
  explains_until Done is = is
  explains_until NoDatabase is = is
  explains_until (Header fault) is = header_until _ is
  explains_until (SizesDiffer db wal) is = (header_until _ is.0, calm_until _ is.1)
  explains_until (WalTooLong size) is = length_until _ is
  explains_until (TooLarge size) is = calm_until _ is
  explains_until (GateBroken how) is = λ r told.
      let mid = ended_at r told in
      let was = is mid.0 (sym meets.live ∙ mid.1) in (
        still_broken how mid.0 r mid.2.1 was.0,
        λ none. was.1 (let zero : mid.0.database.chances ≡ 0 = omega (arith, none, mid.2.0.chances) in zero),
      )
  explains_until (Damaged name damage) is = λ before now is_before is_now.
      is before now is_before (sym meets.store ∙ sym closes.store ∙ is_now)
  explains_until (PageMissing name number) is = λ before now is_before is_now.
      is before now is_before (sym meets.store ∙ sym closes.store ∙ is_now)
  explains_until TxidSpent is = λ before now is_before is_now.
      is before now is_before (sym meets.store ∙ sym closes.store ∙ is_now)
  explains_until LiveFault is =
      let below : first.live_faults_after ≤ closing.live_faults_after
      = omega (arith, closes.faults.live, meets.live_faults) in
      rose_until first.live_faults first.live_faults_after closing.live_faults_after below is
  explains_until StoreFault is =
      let below : first.store_faults_after ≤ closing.store_faults_after
      = omega (arith, closes.faults.store, meets.store_faults) in
      rose_until first.store_faults first.store_faults_after closing.store_faults_after below is
  explains_until SinkFault is =
      let below : first.sink_faults_after ≤ closing.sink_faults_after
      = omega (arith, closes.faults.sink, meets.sink_faults) in
      rose_until first.sink_faults first.sink_faults_after closing.sink_faults_after below is
  explains_until Memory is = is
  explains_until SkippedOutput is = absurd is
  explains_until SkippedReplica is = absurd is
  explains_until NotBuilt is = absurd is
  explains_until (Usage usage) is = absurd is
  explains_until NoReplica is = absurd is
  explains_until (MissingRange after) is = absurd is
  explains_until NoMoment is = absurd is
  explains_until (OutputExists size) is = absurd is
  explains_until TargetFault is = absurd is
