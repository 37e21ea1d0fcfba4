-- What a round does to the replica's disk, at each of its exits.
use Rattle.std.proofs.Common.{◌≡◌, ℕ, ◌-◌, Bool, List, Ok, Err, sym, subst, ◌∙◌, inl, inr}
use Rattle.crash_disk.specs.declared.event.Event.{Event}
use Rattle.crash_disk.specs.declared.fault.DiskFault.{DiskFault}
use Rattle.crash_disk.specs.GoesOn.{GoesOn, IsGrown}
use Rattle.crash_disk.specs.Told.{Told, IfTold}
use Rattle.crash_disk.proofs.GoesOnLemmas.{goes_on-weaker, grown_then}
use Rattle.live_gate.specs.declared.fault.PassFault.{PassFault}
use Rattle.live_gate.specs.declared.fault.PassFault.TheVariants as pass
use Rattle.replica_store.specs.declared.dated_names.Dated.{Dated}
use Rattle.round_line.specs.declared.round.Round.{Round}
use Rattle.round_line.specs.RoundText.{name_in}
use Rattle.wal_follow.specs.declared.fault.FollowFault.{FollowFault}
use Rattle.wal_follow.specs.declared.fault.FollowFault.TheVariants.{Header, SizesDiffer, WalTooLong, TooLarge}
use Rattle.wal_follow.specs.declared.fault.FollowFault.TheVariants.{GateBroken, Live, Memory}
use Rattle.replica_sync.specs.Newest.{next_moment}
use Rattle.replica_upkeep.specs.declared.answer.Upkeep.{Upkeep}
use Rattle.replica_upkeep.specs.declared.answer.UpkeepStop.{UpkeepStop}
use Rattle.replica_upkeep.specs.declared.answer.UpkeepStop.TheVariants as upkeep
use Rattle.replica_upkeep.specs.Kept.{KeepsFiles}
use Rattle.replica_round.specs.declared.changing.Changed.{Changed}
use Rattle.replica_round.specs.declared.stop.RoundStop.{RoundStop}
use Rattle.replica_round.specs.declared.stop.RoundStop.TheVariants as stop
use Rattle.replica_round.specs.ChangesStore.{ChangesStore, HasStoredChanges}
use Rattle.replica_round.specs.Keeping.{AreFilesWith, ExplainsUpkeep, HasKeptUp, StopsKeeping}
use Rattle.replica_round.specs.Stop.{stop_of_pass, stop_of_upkeep}
use Rattle.replica_round.specs.StoreSide.{JoinsStored, HasRounded, StopsSynced, StopsUpkeep, StoresRound}
use Rattle.replica_round.proofs.ResultLemmas.{same_events}

-- ---- storing the changes is refused

unfollowed_one : (keep now : ℕ) (fault : FollowFault) (x y : List Event)
    → ChangesStore now (Err (stop.Follow fault)) x y → StoresRound keep now (Err (stop.Follow fault)) x y
unfollowed_one keep now (Live cause) x y is = is
unfollowed_one keep now (Header cause) x y is = is
unfollowed_one keep now (SizesDiffer db wal) x y is = is
unfollowed_one keep now (WalTooLong n) x y is = is
unfollowed_one keep now (TooLarge n) x y is = is
unfollowed_one keep now (GateBroken broken) x y is = is
unfollowed_one keep now Memory x y is = is

store_one : (keep now : ℕ) (x y : List Event) (cause : DiskFault) → ChangesStore now (Err (stop.Store cause)) x y
    → StoresRound keep now (Err (stop.Store cause)) x y
store_one keep now x y cause (inl same) = inl same
store_one keep now x y cause (inr syncs) = inr (inl syncs)

memory_one : (keep now : ℕ) (x y : List Event) → ChangesStore now (Err stop.Memory) x y
    → StoresRound keep now (Err stop.Memory) x y
memory_one keep now x y (inl same) = inl same
memory_one keep now x y (inr syncs) = inr (inl syncs)

unchanged_one : (keep now : ℕ) (refusal : RoundStop) (x y : List Event) → ChangesStore now (Err refusal) x y
    → StoresRound keep now (Err refusal) x y
unchanged_one keep now (stop.Follow fault) x y is = unfollowed_one keep now fault x y is
unchanged_one keep now stop.TxidSpent x y is = is
unchanged_one keep now (stop.Store cause) x y is = store_one keep now x y cause is
unchanged_one keep now (stop.Damaged name damage) x y is = inl is
unchanged_one keep now (stop.PageMissing name number) x y is = absurd is
unchanged_one keep now stop.Memory x y is = memory_one keep now x y is

pub unchanged_stores : (keep now : ℕ) (refusal : RoundStop) (old new : Told)
    → GoesOn old new (ChangesStore now (Err refusal)) → GoesOn old new (StoresRound keep now (Err refusal))
unchanged_stores keep now refusal old new goes =
    goes_on-weaker old new (ChangesStore now (Err refusal)) (StoresRound keep now (Err refusal)) goes
    (unchanged_one keep now refusal)

-- ---- the pass is

unpassed_one : (keep now : ℕ) (changed : Changed) (fault : PassFault) (x y : List Event)
    → HasStoredChanges now changed x y → StoresRound keep now (Err (stop_of_pass fault)) x y
unpassed_one keep now changed (pass.Live cause) x y is = inr (changed.sync, is.syncs)
unpassed_one keep now changed pass.Memory x y is = inr (inr (inl (changed.sync, is.syncs)))

pub unpassed_stores : (keep now : ℕ) (changed : Changed) (fault : PassFault) (old new : Told)
    → GoesOn old new (ChangesStore now (Ok changed)) → GoesOn old new (StoresRound keep now (Err (stop_of_pass fault)))
unpassed_stores keep now changed fault old new goes =
    goes_on-weaker old new (HasStoredChanges now changed) (StoresRound keep now (Err (stop_of_pass fault))) goes
    (unpassed_one keep now changed fault)

-- ---- the upkeep was asked

-- storing the changes, and then the upkeep, of which two facts are told
then_kept : (old mid new : Told) (P Q F R : List Event → List Event → Type 0) (A : List Event → Type 0)
    → GoesOn old mid P → IfTold mid A → GoesOn mid new Q → GoesOn mid new F
    → ((x y z : List Event) → IsGrown x y → P x y → A y → IsGrown y z → Q y z → F y z → R x z) → GoesOn old new R
then_kept old mid new P Q F R A first are second third joins = record {
  told = λ events told.
      let f = first.told events told in
      let s = second.told f.0 f.1 in
      let t = third.told f.0 f.1 in
      let kept = subst (λ (es : List Event). F f.0 es) (same_events t.0 s.0 (sym t.1 ∙ s.1)) t.2 in (
        s.0,
        s.1,
        joins events f.0 s.0 f.3 f.2 (are f.0 f.1) s.3 s.2 kept,
        grown_then events f.0 s.0 f.3 s.3,
      );
  silent = λ silent. second.silent (first.silent silent);
}

-- what joined the list joined that of the sync
joins_synced : (now : ℕ) (changed : Changed) (x y : List Event) (is : HasStoredChanges now changed x y)
    (longer : List Dated) → JoinsStored (name_in changed.sync) (next_moment changed.files now) changed.files longer
    → JoinsStored (name_in changed.sync) (next_moment is.syncs.dated now) is.syncs.dated longer
joins_synced now changed x y is longer joins =
    subst (λ (d : List Dated). JoinsStored (name_in changed.sync) (next_moment d now) d longer) (sym is.list) joins

-- what the round tells of it
abbrev pub round_of : Changed → Bool → Upkeep → Round
round_of changed passed kept = record {
  sync = changed.sync;
  passed = passed;
  merged = kept.merged;
  dropped = kept.dropped;
  lost = kept.lost;
}

module _ (keep now : ℕ) (changed : Changed) (x y z : List Event) (grown : IsGrown x y) where
  stops_upkeep : (refusal : UpkeepStop) → HasStoredChanges now changed x y → AreFilesWith changed now y → IsGrown y z
      → StopsKeeping changed now refusal y → KeepsFiles (now - keep) y z → StopsUpkeep keep now refusal x z
  stops_upkeep refusal is are up stops keeps = record {
    synced = changed.sync;
    stored = y;
    syncs = is.syncs;
    grown = grown;
    up = up;
    longer = stops.longer;
    joins = joins_synced now changed x y is stops.longer stops.joins;
    files = are stops.longer stops.joins;
    explained = stops.explained;
    keeps = keeps;
  }

  stopped_one : (refusal : UpkeepStop) → StopsUpkeep keep now refusal x z
      → StoresRound keep now (Err (stop_of_upkeep refusal)) x z
  stopped_one (upkeep.Damaged name damage) is = inr is
  stopped_one (upkeep.PageMissing name number) is = is
  stopped_one (upkeep.Store cause) is = inr (inr is)
  stopped_one upkeep.Memory is = inr (inr (inr is))

  unlisted_one : (refusal : UpkeepStop) → HasStoredChanges now changed x y → refusal ≡ upkeep.Memory → z ≡ y
      → StoresRound keep now (Err (stop_of_upkeep refusal)) x z
  unlisted_one refusal is memory same =
      let synced = subst (λ (es : List Event). StopsSynced now x es) (sym same) (changed.sync, is.syncs) in
      subst (λ (r : UpkeepStop). StoresRound keep now (Err (stop_of_upkeep r)) x z) (sym memory)
      (inr (inr (inl synced)))

  unkept_one : (refusal : UpkeepStop) → HasStoredChanges now changed x y → AreFilesWith changed now y → IsGrown y z
      → ExplainsUpkeep changed now refusal y z → KeepsFiles (now - keep) y z
      → StoresRound keep now (Err (stop_of_upkeep refusal)) x z
  unkept_one refusal is are up (inl none) keeps = unlisted_one refusal is none.0 none.1
  unkept_one refusal is are up (inr stops) keeps =
      stopped_one refusal (stops_upkeep refusal is are up stops keeps)

  kept_one : (passed : Bool) (kept : Upkeep) → HasStoredChanges now changed x y → AreFilesWith changed now y
      → IsGrown y z → HasKeptUp changed keep now kept y z → KeepsFiles (now - keep) y z
      → HasRounded keep now (round_of changed passed kept) x z
  kept_one passed kept is are up has keeps = record {
    stored = y;
    syncs = is.syncs;
    grown = grown;
    up = up;
    later = has.maintains.later;
    rounds = record {
      longer = has.longer;
      joins = joins_synced now changed x y is has.longer has.joins;
      maintained = has.maintains.maintained;
    };
    files = has.maintains.files;
    keeps = keeps;
  }

pub unkept_stores : (keep now : ℕ) (changed : Changed) (refusal : UpkeepStop) (old mid new : Told)
    → GoesOn old mid (ChangesStore now (Ok changed)) → IfTold mid (AreFilesWith changed now)
    → GoesOn mid new (ExplainsUpkeep changed now refusal) → GoesOn mid new (KeepsFiles (now - keep))
    → GoesOn old new (StoresRound keep now (Err (stop_of_upkeep refusal)))
unkept_stores keep now changed refusal old mid new stores are explains keeps =
    then_kept old mid new (HasStoredChanges now changed) (ExplainsUpkeep changed now refusal) (KeepsFiles (now - keep))
    (StoresRound keep now (Err (stop_of_upkeep refusal))) (AreFilesWith changed now) stores are explains keeps
    (λ x y z grown. unkept_one keep now changed x y z grown refusal)

pub kept_stores : (keep now : ℕ) (changed : Changed) (passed : Bool) (kept : Upkeep) (old mid new : Told)
    → GoesOn old mid (ChangesStore now (Ok changed)) → IfTold mid (AreFilesWith changed now)
    → GoesOn mid new (HasKeptUp changed keep now kept) → GoesOn mid new (KeepsFiles (now - keep))
    → GoesOn old new (StoresRound keep now (Ok (round_of changed passed kept)))
kept_stores keep now changed passed kept old mid new stores are has keeps =
    then_kept old mid new (HasStoredChanges now changed) (HasKeptUp changed keep now kept) (KeepsFiles (now - keep))
    (HasRounded keep now (round_of changed passed kept)) (AreFilesWith changed now) stores are has keeps
    (λ x y z grown. kept_one keep now changed x y z grown passed kept)
