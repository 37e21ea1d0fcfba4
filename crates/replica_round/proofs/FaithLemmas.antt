-- Storing the changes keeps the faith of the replica, at each of its exits.
use Rattle.std.proofs.Common.{◌≡◌, ℕ, List, Option, Some, Result, Ok, Err, sym, subst, ◌∙◌, arith}
use Rattle.crash_disk.specs.declared.event.Event.{Event}
use Rattle.crash_disk.specs.Files.{files_after}
use Rattle.crash_disk.specs.Told as store
use Rattle.ls_base.specs.SyncLog.{SyncLog}
use Rattle.live_gate.specs.declared.fault.LiveFault.{LiveFault}
use Rattle.live_gate.specs.LiveRecord.{Database, LiveRecord, Told, GoesOn, IfTold}
use Rattle.live_gate.specs.Legal.{IsLegal}
use Rattle.live_gate.specs.Step.{IsWriterStep}
use Rattle.live_gate.proofs.StepLemmas.{step_itself}
use Rattle.replica_store.specs.declared.dated_names.Dated.{Dated}
use Rattle.replica_round.specs.declared.changing.Changed.{Changed}
use Rattle.round_line.specs.declared.round.Synced.{Synced}
use Rattle.wal_follow.specs.declared.following.Following.{Following}
use Rattle.replica_sync.specs.declared.answer.SyncFault.{SyncFault}
use Rattle.replica_sync.specs.Faith as sync
use Rattle.replica_sync.specs.Faith.{MayHaveSynced, HasSynced, IfBothTell, SyncKeepsFaith}
use Rattle.replica_sync.specs.LiveSide.{Syncs}
use Rattle.replica_sync.proofs.FaithSync.{unchanged}
use Rattle.replica_round.specs.declared.stop.RoundStop.{RoundStop}
use Rattle.replica_upkeep.specs.Kept.{AreFiles}
use Rattle.replica_round.specs.Followed.{IsFollowed}
use Rattle.replica_round.specs.ChangesFaith.{HasChanged, ChangesKeepFaith}
use Rattle.replica_round.specs.Steps.{HoldsAt}
use Rattle.replica_round.proofs.KeepLemmas.{still_synced, synced_may}
use Rattle.replica_round.proofs.ResultLemmas.{same_record, same_events}

-- ---- the list of the files is refused

pub read_faith : (f : Following) (now : ℕ) (stop : RoundStop) (live : Told) (store_old store_new : store.Told)
    → store_new ≡ store_old → IfBothTell live live store_old store_new (ChangesKeepFaith f f now (Err stop))
read_faith f now stop live store_old store_new same old new before current l0 l1 s0 s1 log calm followed =
    let stays : IsWriterStep old.database new.database =
    subst (λ (x : LiveRecord). IsWriterStep old.database x.database) (same_record old new (sym l0 ∙ l1))
    (step_itself old.database) in
    subst (λ (x : List Event). MayHaveSynced now log old.database new.database before x)
    (same_events before current (sym s0 ∙ sym same ∙ s1))
    (unchanged now log old.database new.database stays before followed.faithful)

-- ---- the sync was asked

module _ (f after : Following) (now : ℕ) (dated : List Dated) (result : Result Synced SyncFault)
    (live_old live_mid live_new : Told) (store_old store_mid store_new : store.Told) (same : store_mid ≡ store_old)
    (are : store.IfTold store_old (λ events. AreFiles (files_after events) dated))
    (legal : IfTold live_old (λ r. IsLegal r.database))
    (kept : IfBothTell live_old live_mid store_mid store_new (SyncKeepsFaith f after dated now result)) where
  sync_kept : (old mid : LiveRecord) (before current : List Event) → live_old ≡ Some old → live_mid ≡ Some mid
      → store_old ≡ Some before → store_new ≡ Some current → (log : SyncLog) → mid.database.chances ≡ 0
      → IsFollowed old.database.history before log f.place
      → sync.KeepsFaith f after now result log old.database mid.database before current
  sync_kept old mid before current l0 l1 s0 s1 log calm followed =
      let files = are before s0 in
      kept old mid before current l0 l1 (same ∙ s0) s1 log (legal old l0) calm (record {
        faithful = followed.faithful;
        listed = files.listed;
        moments = files.moments;
        newest = followed.newest;
      })

-- the sync is refused
pub refused_faith : (f after : Following) (now : ℕ) (dated : List Dated) (fault : SyncFault) (stop : RoundStop)
    (live_old live_new : Told) (store_old store_mid store_new : store.Told) → store_mid ≡ store_old
    → store.IfTold store_old (λ events. AreFiles (files_after events) dated)
    → IfTold live_old (λ r. IsLegal r.database)
    → IfBothTell live_old live_new store_mid store_new (SyncKeepsFaith f after dated now (Err fault))
    → IfBothTell live_old live_new store_old store_new (ChangesKeepFaith f after now (Err stop))
refused_faith f after now dated fault stop live_old live_new store_old store_mid store_new same are legal kept old new
    before current l0 l1 s0 s1 log calm followed =
    sync_kept f after now dated (Err fault) live_old live_new live_new store_old store_mid store_new same are legal kept
    old new before current l0 l1 s0 s1 log calm followed

module _ (f after : Following) (now : ℕ) (dated : List Dated) (synced : Synced)
    (live_old live_mid live_new : Told) (store_old store_mid store_new : store.Told) (same : store_mid ≡ store_old)
    (are : store.IfTold store_old (λ events. AreFiles (files_after events) dated))
    (legal : IfTold live_old (λ r. IsLegal r.database))
    (syncs : GoesOn live_old live_mid (Syncs f after (Ok synced)))
    (kept : IfBothTell live_old live_mid store_mid store_new (SyncKeepsFaith f after dated now (Ok synced)))
    (end : Option ℕ) where
  -- whatever step the database went on by, with some hold put in
  gone_on : (result : Result (Unit {0}) LiveFault) → GoesOn live_mid live_new (HoldsAt end result)
      → (old new : LiveRecord) (before current : List Event) → live_old ≡ Some old → live_new ≡ Some new
      → store_old ≡ Some before → store_new ≡ Some current → (log : SyncLog) → new.database.chances ≡ 0
      → IsFollowed old.database.history before log f.place
      → (mid : LiveRecord) × HoldsAt end result mid new
      × HasSynced f after now synced log old.database mid.database before current
  gone_on result holds old new before current l0 l1 s0 s1 log calm followed =
      let first = syncs.told old l0 in
      let mid = first.0 in
      let second = holds.told mid first.1 in
      let moved : HoldsAt end result mid new =
      subst (λ (x : LiveRecord). HoldsAt end result mid x) (same_record second.0 new (sym second.1 ∙ l1)) second.2 in
      let calm_mid : mid.database.chances ≡ 0 = let more = moved.step.step.chances in omega (arith, more, calm) in (
        mid,
        moved,
        sync_kept f after now dated (Ok synced) live_old live_mid live_new store_old store_mid store_new same are legal
            kept old mid before current l0 first.1 s0 s1 log calm_mid followed,
      )

  -- the hold stays by a fault
  pub held_faith : (cause : LiveFault) (stop : RoundStop) → GoesOn live_mid live_new (HoldsAt end (Err cause))
      → IfBothTell live_old live_new store_old store_new (ChangesKeepFaith f after now (Err stop))
  held_faith cause stop holds old new before current l0 l1 s0 s1 log calm followed =
      let gone = gone_on (Err cause) holds old new before current l0 l1 s0 s1 log calm followed in
      synced_may f after now synced log old.database new.database before current
      (still_synced old.database gone.0.database new.database gone.1.err f after now synced log before current gone.2)

  -- it moves
  pub done_faith : (changed : Changed) → changed.sync ≡ synced → GoesOn live_mid live_new (HoldsAt end (Ok tt))
      → IfBothTell live_old live_new store_old store_new (ChangesKeepFaith f after now (Ok changed))
  done_faith changed is holds old new before current l0 l1 s0 s1 log calm followed =
      let gone = gone_on (Ok tt) holds old new before current l0 l1 s0 s1 log calm followed in
      let moved = gone.1.step in
      let between : Database = record new.database { held = moved.held } in
      subst (λ (one : Synced). HasChanged f after now one log old.database new.database before current) (sym is)
      (record {
        held = moved.held;
        keeps = still_synced old.database gone.0.database between moved.step f after now synced log before current
            gone.2;
      })
