-- Facts of what is told and answered.
use Rattle.std.proofs.Common.{◌≡◌, ℕ, ◌≤◌, List, Option, Some, Result, Ok, Err, refl, sym, ◌∙◌, ap, arith}
use Rattle.std.specs.Prelude.{IsErrAnd}
use Rattle.crash_disk.specs.declared.event.Event.{Event}
use Rattle.crash_disk.specs.declared.fault.DiskFault.{DiskFault}
use Rattle.ls_base.specs.Fault.{HasCause}
use Rattle.live_gate.specs.declared.fault.LiveFault.{LiveFault}
use Rattle.live_gate.specs.LiveRecord.{LiveRecord}
use Rattle.replica_store.specs.declared.error.StoreError.{StoreError}
use Rattle.replica_store.specs.declared.error.StoreError.TheVariants as files
use Rattle.replica_store.specs.StoreError.{StoreHasCause}
use Rattle.wal_follow.specs.declared.fault.FollowFault.TheVariants.{Live}
use Rattle.replica_sync.specs.declared.answer.SyncFault.{SyncFault}
use Rattle.replica_sync.specs.declared.answer.SyncFault.TheVariants as sync
use Rattle.replica_sync.specs.Answers as synced
use Rattle.replica_round.specs.declared.stop.RoundStop.{RoundStop}
use Rattle.replica_round.specs.declared.stop.RoundStop.TheVariants.{Follow, TxidSpent, Store, Damaged, Memory}
use Rattle.replica_round.specs.Causes.{HasCauses}
use Rattle.replica_round.specs.Stop.{stop_of_files, stop_of_sync, stop_of_hold}

pub same_record : (a b : LiveRecord) → ◌≡◌ {A = Option LiveRecord} (Some a) (Some b) → a ≡ b
same_record a b e = cc

pub same_events : (a b : List Event) → ◌≡◌ {A = Option (List Event)} (Some a) (Some b) → a ≡ b
same_events a b e = cc

-- the answer of a `?` that hands on an error
pub err_of : {T E : Type 0} (r : Result T E) (e : E) → IsErrAnd r (λ x. x ≡ e) → r ≡ Err e
err_of (Ok x) e is = absurd is
err_of {T} {E} (Err x) e is = let same : x ≡ e = is in cc

same_stop : {T : Type 0} (a b : RoundStop) → ◌≡◌ {A = Result T RoundStop} (Err a) (Err b) → a ≡ b
same_stop a b e = cc

-- ---- causes

files_store : (error : StoreError) (cause : DiskFault) → stop_of_files error ≡ Store cause → error ≡ files.Store cause
files_store (files.Store c) cause is = by is
  where
    by : ◌≡◌ {A = RoundStop} (Store c) (Store cause) → files.Store c ≡ files.Store cause
    by e = cc
files_store (files.Damaged name damage) cause is = absurd (by is)
  where
    by : ◌≡◌ {A = RoundStop} (Damaged name damage) (Store cause) → ⊥
    by e = cc
files_store files.Memory cause is = absurd (by is)
  where
    by : ◌≡◌ {A = RoundStop} Memory (Store cause) → ⊥
    by e = cc

files_live : (error : StoreError) (cause : LiveFault) → stop_of_files error ≡ Follow (Live cause) → ⊥
files_live (files.Store c) cause is = by is
  where
    by : ◌≡◌ {A = RoundStop} (Store c) (Follow (Live cause)) → ⊥
    by e = cc
files_live (files.Damaged name damage) cause is = by is
  where
    by : ◌≡◌ {A = RoundStop} (Damaged name damage) (Follow (Live cause)) → ⊥
    by e = cc
files_live files.Memory cause is = by is
  where
    by : ◌≡◌ {A = RoundStop} Memory (Follow (Live cause)) → ⊥
    by e = cc

sync_store : (fault : SyncFault) (cause : DiskFault) → stop_of_sync fault ≡ Store cause → fault ≡ sync.Store cause
sync_store (sync.Store c) cause is = by is
  where
    by : ◌≡◌ {A = RoundStop} (Store c) (Store cause) → sync.Store c ≡ sync.Store cause
    by e = cc
sync_store (sync.Follow f) cause is = absurd (by is)
  where
    by : ◌≡◌ {A = RoundStop} (Follow f) (Store cause) → ⊥
    by e = cc
sync_store sync.TxidSpent cause is = absurd (by is)
  where
    by : ◌≡◌ {A = RoundStop} TxidSpent (Store cause) → ⊥
    by e = cc
sync_store sync.Memory cause is = absurd (by is)
  where
    by : ◌≡◌ {A = RoundStop} Memory (Store cause) → ⊥
    by e = cc

sync_live : (fault : SyncFault) (cause : LiveFault) → stop_of_sync fault ≡ Follow (Live cause)
    → fault ≡ sync.Follow (Live cause)
sync_live (sync.Follow f) cause is = by is
  where
    by : ◌≡◌ {A = RoundStop} (Follow f) (Follow (Live cause)) → sync.Follow f ≡ sync.Follow (Live cause)
    by e = cc
sync_live (sync.Store c) cause is = absurd (by is)
  where
    by : ◌≡◌ {A = RoundStop} (Store c) (Follow (Live cause)) → ⊥
    by e = cc
sync_live sync.TxidSpent cause is = absurd (by is)
  where
    by : ◌≡◌ {A = RoundStop} TxidSpent (Follow (Live cause)) → ⊥
    by e = cc
sync_live sync.Memory cause is = absurd (by is)
  where
    by : ◌≡◌ {A = RoundStop} Memory (Follow (Live cause)) → ⊥
    by e = cc

module _ {T : Type 0} (result : Result T RoundStop) (stop : RoundStop) (was : result ≡ Err stop) where
  is_stop : (other : RoundStop) → result ≡ Err other → stop ≡ other
  is_stop other is = same_stop stop other (sym was ∙ is)

  -- the list of the files was refused
  pub files_causes : {S : Type 0} (error : StoreError) (live old new : ℕ) → stop ≡ stop_of_files error
      → StoreHasCause {T = S} old new (Err error) → HasCauses live live old new result
  files_causes error live old new kind cause = record {
    live_later = omega arith;
    store_later = cause.later;
    live_rose = λ fault is. absurd (files_live error fault (sym kind ∙ is_stop _ is));
    store_rose = λ fault is.
        cause.rose fault (ap (λ (x : StoreError). Err x) (files_store error fault (sym kind ∙ is_stop _ is)));
  }

  -- the sync was
  pub sync_causes : {S : Type 0} (fault : SyncFault) (live_old live_new old mid new : ℕ) → stop ≡ stop_of_sync fault
      → old ≤ mid → synced.HasCauses {T = S} live_old live_new mid new (Err fault)
      → HasCauses live_old live_new old new result
  sync_causes fault live_old live_new old mid new kind up causes = record {
    live_later = causes.live_later;
    store_later = omega (arith, up, causes.store_later);
    live_rose = λ cause is.
        causes.live_rose cause (ap (λ (x : SyncFault). Err x) (sync_live fault cause (sym kind ∙ is_stop _ is)));
    store_rose = λ cause is.
        let rose = causes.store_rose cause
        (ap (λ (x : SyncFault). Err x) (sync_store fault cause (sym kind ∙ is_stop _ is))) in
        record { least = omega (arith, up, rose.least) };
  }

  -- the hold didn't move
  pub hold_causes : {S : Type 0} (fault : LiveFault) (live_old live_mid live_new old new : ℕ)
      → stop ≡ stop_of_hold fault → live_old ≤ live_mid → old ≤ new → HasCause {T = S} live_mid live_new (Err fault)
      → HasCauses live_old live_new old new result
  hold_causes fault live_old live_mid live_new old new kind up later cause = record {
    live_later = omega (arith, up, cause.later);
    store_later = later;
    live_rose = λ other is.
        let rose = cause.rose refl in
        record { least = omega (arith, up, rose.least) };
    store_rose = λ other is. absurd (apart other (sym kind ∙ is_stop _ is));
  }
    where
      apart : (other : DiskFault) → ◌≡◌ {A = RoundStop} (Follow (Live fault)) (Store other) → ⊥
      apart other e = cc

pub all_well : {T : Type 0} (value : T) (live_old live_new old new : ℕ) → live_old ≤ live_new → old ≤ new
    → HasCauses live_old live_new old new (Ok value)
all_well value live_old live_new old new live store = record {
  live_later = live;
  store_later = store;
  live_rose = λ fault same. absurd cc;
  store_rose = λ fault same. absurd cc;
}
