-- A round keeps the faith of the replica, at each of its exits.
use Rattle.std.proofs.Common.{◌≡◌, ℕ, ◌-◌, Bool, List, Some, Result, Ok, Err}
use Rattle.std.proofs.Common.{sym, subst, ◌∙◌, arith}
use Rattle.crash_disk.specs.declared.event.Event.{Event}
use Rattle.crash_disk.specs.GoesOn as disk
use Rattle.crash_disk.specs.Told as store
use Rattle.ls_base.specs.SyncLog.{SyncLog}
use Rattle.live_gate.specs.declared.fault.PassFault.{PassFault}
use Rattle.live_gate.specs.declared.fault.PassFault.TheVariants as pass
use Rattle.live_gate.specs.LiveRecord.{Database, LiveRecord, Told, GoesOn}
use Rattle.round_line.specs.declared.round.Round.{Round}
use Rattle.round_line.specs.declared.round.Synced.{Synced}
use Rattle.wal_follow.specs.declared.following.Following.{Following}
use Rattle.wal_follow.specs.Calls.{KnowsPlace}
use Rattle.replica_sync.specs.Faith.{IfBothTell, HasSynced}
use Rattle.replica_sync.specs.Newest.{moment_behind}
use Rattle.replica_upkeep.specs.declared.answer.UpkeepStop.{UpkeepStop}
use Rattle.replica_upkeep.specs.declared.answer.UpkeepStop.TheVariants as upkeep
use Rattle.replica_upkeep.specs.Answers as upkeep_spec
use Rattle.replica_upkeep.specs.Answers.{IsSound}
use Rattle.replica_upkeep.specs.Faith as upkeep_faith
use Rattle.replica_upkeep.specs.Faith.{Settles}
use Rattle.replica_upkeep.specs.Kept.{KeepsFiles}
use Rattle.replica_round.specs.declared.changing.Changed.{Changed}
use Rattle.replica_round.specs.declared.stop.RoundStop.{RoundStop}
use Rattle.replica_round.specs.ChangesFaith.{ChangesKeepFaith}
use Rattle.replica_round.specs.ChangesLive.{ChangesLive}
use Rattle.replica_round.specs.ChangesStore.{ChangesStore}
use Rattle.replica_round.specs.Faith.{HasKept, RoundKeepsFaith}
use Rattle.replica_round.specs.Followed.{IsFollowed}
use Rattle.replica_round.specs.Later.{IsLater}
use Rattle.replica_round.specs.Passing.{PassesWhenLong}
use Rattle.replica_round.specs.Stop.{BlamesNoFile, stop_of_pass, stop_of_upkeep}
use Rattle.replica_round.proofs.KeepLemmas.{adds_longer}
use Rattle.replica_round.proofs.ResultLemmas.{same_record, same_events}
use Rattle.replica_round.proofs.RoundFile.{stores_still}
use Rattle.replica_round.proofs.RoundKept.{synced_read, synced_ends, synced_settled, synced_carries, kept_true}
use Rattle.replica_round.proofs.RoundKept.{kept_carries, kept_crash_faithful, kept_retains, kept_settled, kept_follows}
use Rattle.replica_round.proofs.RoundPassed.{later_by}
use Rattle.replica_round.proofs.SoundLemmas.{changes_sound}

-- ---- storing the changes is refused

module _ (f after : Following) (keep now : ℕ) (stop : RoundStop) (live_old live_new : Told)
    (store_old store_new : store.Told) (stores : disk.GoesOn store_old store_new (ChangesStore now (Err stop)))
    (kept : IfBothTell live_old live_new store_old store_new (ChangesKeepFaith f after now (Err stop))) where
  pub refused_keeps : IfBothTell live_old live_new store_old store_new (RoundKeepsFaith f after keep now (Err stop))
  refused_keeps old new before current l0 l1 s0 s1 log calm followed =
      let is = kept old new before current l0 l1 s0 s1 log calm followed in
      let stored = stores.told before s0 in
      record {
        later = is.later;
        lines = is.lines;
        one = is.one;
        read = is.read;
        sound = changes_sound now stop before stored.0 old.database.history log followed.faithful stored.2;
        carries = λ settled. is.carries (now - keep) (omega arith) settled;
        faithful = is.faithful;
      }

-- ---- they are stored, and the database went on

-- the sync kept this, with some hold, and the database is a later one
record IsBehind
    (f kept : Following) (now : ℕ) (synced : Synced) (log : SyncLog) (old new : Database) (before stored : List Event)
    : Type 0 where
  mid : Database
  synced_so : HasSynced f kept now synced log old mid before stored
  on : IsLater mid new

module _ (f kept after : Following) (at_rest : Bool) (passed : Result Bool PassFault) (keep now : ℕ)
    (changed : Changed) (live_old live_mid live_new : Told) (store_old store_mid : store.Told)
    (live : GoesOn live_old live_mid (ChangesLive f kept (Ok changed)))
    (faith : IfBothTell live_old live_mid store_old store_mid (ChangesKeepFaith f kept now (Ok changed)))
    (passes : GoesOn live_mid live_new (PassesWhenLong kept after at_rest passed)) where
  behind : (old new : LiveRecord) (before stored : List Event) → live_old ≡ Some old → live_new ≡ Some new
      → store_old ≡ Some before → store_mid ≡ Some stored → (log : SyncLog) → new.database.chances ≡ 0
      → IsFollowed old.database.history before log f.place
      → IsBehind f kept now changed.sync log old.database new.database before stored
  behind old new before stored l0 l1 s0 s1 log calm followed =
      let first = live.told old l0 in
      let mid = first.0 in
      let second = passes.told mid first.1 in
      let went : PassesWhenLong kept after at_rest passed mid new =
      subst (λ (x : LiveRecord). PassesWhenLong kept after at_rest passed mid x)
      (same_record second.0 new (sym second.1 ∙ l1)) second.2 in
      let later = later_by kept after at_rest passed mid new went in
      let calm_mid : mid.database.chances ≡ 0 = let more = later.chances in omega (arith, more, calm) in
      let has = faith old mid before stored l0 first.1 s0 s1 log calm_mid followed in
      record {
        mid = record mid.database { held = has.held };
        synced_so = has.keeps;
        on = record {
          legal = λ is. later.legal first.2.legal;
          history = later.history;
          chances = later.chances;
        };
      }

  -- ---- the pass is refused

  no_blame : (fault : PassFault) → BlamesNoFile (stop_of_pass fault)
  no_blame (pass.Live cause) = tt
  no_blame pass.Memory = tt

  pub unpassed_keeps : (fault : PassFault)
      → IfBothTell live_old live_new store_old store_mid (RoundKeepsFaith f after keep now (Err (stop_of_pass fault)))
  unpassed_keeps fault old new before current l0 l1 s0 s1 log calm followed =
      let b = behind old new before current l0 l1 s0 s1 log calm followed in
      let is = b.synced_so in
      let longer = adds_longer (moment_behind log now) changed.sync log is.later is.lines in
      let history = new.database.history in
      record {
        later = is.later;
        lines = longer.0;
        one = longer.1;
        read = synced_read f kept now changed.sync log old.database b.mid history before current is b.on.history
            (now - keep) (omega arith);
        sound = no_blame fault;
        carries = synced_carries f kept now changed.sync log old.database b.mid history before current is b.on.history
            (now - keep) (omega arith);
        faithful = λ settled. (synced_settled f kept now changed.sync log old.database b.mid history before current is
            b.on.history (now - keep) (omega arith) settled).faithful;
      }

  -- ---- behind the upkeep

  module _ (known : KnowsPlace kept) (stores : disk.GoesOn store_old store_mid (ChangesStore now (Ok changed)))
      (store_new : store.Told)
      (upkeeps : disk.GoesOn store_mid store_new (upkeep_faith.KeepsFaith (now - keep))) where
    blamed_none : (cause : UpkeepStop) → upkeep_spec.BlamesNoFile cause → BlamesNoFile (stop_of_upkeep cause)
    blamed_none (upkeep.Damaged name damage) is = is
    blamed_none (upkeep.PageMissing name number) is = is
    blamed_none (upkeep.Store cause) is = tt
    blamed_none upkeep.Memory is = tt

    -- it is refused
    pub unkept_keeps : (cause : UpkeepStop) → store.IfTold store_mid (IsSound cause)
        → IfBothTell live_old live_new store_old store_new
        (RoundKeepsFaith f after keep now (Err (stop_of_upkeep cause)))
    unkept_keeps cause sound old new before current l0 l1 s0 s1 log calm followed =
        let first = stores.told before s0 in
        let stored = first.0 in
        let second = upkeeps.told stored first.1 in
        let same = same_events second.0 current (sym second.1 ∙ s1) in
        let up = first.3 in
        let on : disk.IsGrown stored current = subst (disk.IsGrown stored) same second.3 in
        let upkept : upkeep_faith.KeepsFaith (now - keep) stored current =
        subst (upkeep_faith.KeepsFaith (now - keep) stored) same second.2 in
        let b = behind old new before stored l0 l1 s0 first.1 log calm followed in
        let is = b.synced_so in
        let history = new.database.history in
        let longer = adds_longer (moment_behind log now) changed.sync log is.later is.lines in
        record {
          later = is.later;
          lines = longer.0;
          one = longer.1;
          read = (kept_true f kept now changed.sync log old.database b.mid history before stored is b.on.history
              (now - keep) (omega arith) known.place known.is_place current up on upkept).faithful;
          sound = blamed_none cause (sound stored first.1 history is.later (synced_read f kept now changed.sync log
              old.database b.mid history before stored is b.on.history (now - keep) (omega arith)));
          carries = kept_carries f kept now changed.sync log old.database b.mid history before stored is b.on.history
              (now - keep) (omega arith) known.place known.is_place current up on upkept;
          faithful = kept_crash_faithful f kept now changed.sync log old.database b.mid history before stored is
              b.on.history (now - keep) (omega arith) known.place known.is_place current up on upkept;
        }

    -- it is done
    pub done_keeps : (round : Round) → round.sync ≡ changed.sync → after.place ≡ kept.place
        → disk.GoesOn store_mid store_new (KeepsFiles (now - keep)) → disk.GoesOn store_mid store_new Settles
        → IfBothTell live_old live_new store_old store_new (RoundKeepsFaith f after keep now (Ok round))
    done_keeps round sync_same place files settles old new before current l0 l1 s0 s1 log calm followed =
        let first = stores.told before s0 in
        let stored = first.0 in
        let second = upkeeps.told stored first.1 in
        let third = files.told stored first.1 in
        let fourth = settles.told stored first.1 in
        let same = same_events second.0 current (sym second.1 ∙ s1) in
        let up = first.3 in
        let on : disk.IsGrown stored current = subst (disk.IsGrown stored) same second.3 in
        let upkept : upkeep_faith.KeepsFaith (now - keep) stored current =
        subst (upkeep_faith.KeepsFaith (now - keep) stored) same second.2 in
        let keeps : KeepsFiles (now - keep) stored current =
        subst (KeepsFiles (now - keep) stored) (same_events third.0 current (sym third.1 ∙ s1)) third.2 in
        let settled_so : Settles stored current =
        subst (Settles stored) (same_events fourth.0 current (sym fourth.1 ∙ s1)) fourth.2 in
        let b = behind old new before stored l0 l1 s0 first.1 log calm followed in
        let is = b.synced_so in
        let history = new.database.history in
        subst (λ (one : Synced). HasKept f after (now - keep) now one log old.database new.database before current)
        (sym sync_same)
        (record {
          later = is.later;
          lines = is.lines;
          follows = kept_follows f kept now changed.sync log old.database b.mid history before stored is b.on.history
              (now - keep) (omega arith) known.place known.is_place current up on upkept after place;
          read = (kept_true f kept now changed.sync log old.database b.mid history before stored is b.on.history
              (now - keep) (omega arith) known.place known.is_place current up on upkept).faithful;
          ends = synced_ends f kept now changed.sync log old.database b.mid history before stored is b.on.history
              (now - keep) (omega arith);
          mid = b.mid;
          on = b.on;
          stores = stores_still f log is.later b.mid.history now (now - keep) (omega arith) old.database b.mid stored
              current is.read keeps changed.sync is.lines is.stores;
          carries = kept_carries f kept now changed.sync log old.database b.mid history before stored is b.on.history
              (now - keep) (omega arith) known.place known.is_place current up on upkept;
          settled = kept_settled f kept now changed.sync log old.database b.mid history before stored is b.on.history
              (now - keep) (omega arith) known.place known.is_place current up on upkept settled_so;
          retains = kept_retains f kept now changed.sync log old.database b.mid history before stored is b.on.history
              (now - keep) (omega arith) known.place known.is_place current up on upkept;
        })
