-- What storing the changes does to what a live database tells, at each of its exits.
use Rattle.std.proofs.Common.{◌≡◌, ℕ, true, false, Option, Ok, Err, refl, sym, subst, inl, inr}
use Rattle.std.specs.Prelude.{None}
use Rattle.live_gate.specs.declared.fault.LiveFault.{LiveFault}
use Rattle.live_gate.specs.LiveRecord.{Asked, LiveRecord}
use Rattle.live_gate.specs.Legal.{IsLegal}
use Rattle.live_gate.proofs.StepLemmas.{step_itself, step_join}
use Rattle.replica_store.specs.declared.error.StoreError.{StoreError}
use Rattle.replica_store.specs.declared.error.StoreError.TheVariants as files
use Rattle.replica_round.specs.declared.changing.Changed.{Changed}
use Rattle.round_line.specs.declared.round.Synced.{Synced}
use Rattle.wal_follow.specs.declared.fault.FollowFault.{FollowFault}
use Rattle.wal_follow.specs.declared.fault.FollowFault.TheVariants.{Header, SizesDiffer, WalTooLong, TooLarge}
use Rattle.wal_follow.specs.declared.fault.FollowFault.TheVariants.{GateBroken, Live, Memory}
use Rattle.wal_follow.specs.declared.following.Following.{Following}
use Rattle.wal_follow.specs.Calls.{KeepsPasses}
use Rattle.wal_follow.specs.Following.{Fits}
use Rattle.wal_follow.specs.LogEnd.{log_end_of}
use Rattle.wal_follow.proofs.FitsLemmas.{fits_stays}
use Rattle.replica_sync.specs.declared.answer.SyncFault.{SyncFault}
use Rattle.replica_sync.specs.declared.answer.SyncFault.TheVariants as sync
use Rattle.replica_sync.specs.LiveSide.{Syncs}
use Rattle.replica_round.specs.ChangesLive.{HasSyncedLive, ShowsChanges, ChangesLive}
use Rattle.replica_round.specs.Steps.{HoldsAt}
use Rattle.replica_round.specs.Stop.{stop_of_files, stop_of_sync, stop_of_hold}
use Rattle.replica_round.proofs.HoldLemmas.{but_hold, step_but_hold, fits_moved, held_moved}

never : false ≡ true → ⊥
never e = cc

-- ---- the list of the files is refused

shows_read : (f : Following) (error : StoreError) (r : LiveRecord) → ShowsChanges f f (Err (stop_of_files error)) r r
shows_read f (files.Store cause) r = inl refl
shows_read f (files.Damaged name damage) r = refl
shows_read f files.Memory r = inl refl

pub read_rounds : (f : Following) (error : StoreError) (r : LiveRecord) → IsLegal r.database → Fits f r.database
    → ChangesLive f f (Err (stop_of_files error)) r r
read_rounds f error r legal fits = record {
  step = but_hold r.database r.database (step_itself r.database);
  legal = legal;
  awake = λ ok. absurd (never ok);
  fits = λ awake. fits;
  hold = λ ok. absurd (never ok);
  err = step_itself r.database;
  passes = (refl, refl);
  shows = shows_read f error r;
}

-- ---- the sync is

shows_follow : (f after : Following) (fault : FollowFault) (r s : LiveRecord)
    → Syncs f after (Err (sync.Follow fault)) r s → ShowsChanges f after (Err (stop_of_sync (sync.Follow fault))) r s
shows_follow f after (Live cause) r s is = inl is
shows_follow f after (Header cause) r s is = is
shows_follow f after (SizesDiffer db wal) r s is = is
shows_follow f after (WalTooLong n) r s is = is
shows_follow f after (TooLarge n) r s is = is
shows_follow f after (GateBroken broken) r s is = is
shows_follow f after Memory r s is = is

shows_refused : (f after : Following) (fault : SyncFault) (r s : LiveRecord) → Syncs f after (Err fault) r s
    → ShowsChanges f after (Err (stop_of_sync fault)) r s
shows_refused f after (sync.Follow fault) r s is = shows_follow f after fault r s is
shows_refused f after sync.TxidSpent r s is = is
shows_refused f after (sync.Store cause) r s is = inr is
shows_refused f after sync.Memory r s is = inr is

pub refused_rounds : (f after : Following) (fault : SyncFault) (r s : LiveRecord) → IsLegal r.database
    → Syncs f after (Err fault) r s → ChangesLive f after (Err (stop_of_sync fault)) r s
refused_rounds f after fault r s legal is = record {
  step = but_hold r.database s.database is.step;
  legal = is.step.legal legal;
  awake = λ ok. absurd (never ok);
  fits = λ awake. is.fits legal awake;
  hold = λ ok. absurd (never ok);
  err = is.step;
  passes = is.passes;
  shows = shows_refused f after fault r s is;
}

-- ---- the sync is answered Ok

module _ (f after : Following) (synced : Synced) (r mid s : LiveRecord) (legal : IsLegal r.database)
    (none : after.found ≡ None) (syncs : Syncs f after (Ok synced) r mid) where
  fits_mid : Fits after mid.database
  fits_mid = syncs.fits legal (syncs.awake refl)

  -- moving the hold asks for no pass
  asked_same : s.asked ≡ mid.asked → KeepsPasses r.asked s.asked
  asked_same same = subst (λ (asked : Asked). KeepsPasses r.asked asked) (sym same) syncs.passes

  -- and a fault leaves the hold
  pub held_rounds : (end : Option ℕ) (cause : LiveFault) → HoldsAt end (Err cause) mid s
      → ChangesLive f after (Err (stop_of_hold cause)) r s
  held_rounds end cause holds = record {
    step = step_but_hold r.database mid.database s.database syncs.step holds.step;
    legal = holds.step.legal (syncs.step.legal legal);
    awake = λ ok. absurd (never ok);
    fits = λ awake. fits_stays after mid.database s.database holds.err awake fits_mid;
    hold = λ ok. absurd (never ok);
    err = step_join r.database mid.database s.database syncs.step holds.err;
    passes = asked_same holds.asked;
    shows = inr (synced, record { mid = mid; syncs = syncs; on = holds.step });
  }

  -- and the hold moves
  pub done_rounds : (changed : Changed) → changed.sync ≡ synced → HoldsAt (log_end_of after after.passed) (Ok tt) mid s
      → ChangesLive f after (Ok changed) r s
  done_rounds changed is holds = record {
    step = step_but_hold r.database mid.database s.database syncs.step holds.step;
    legal = holds.step.legal (syncs.step.legal legal);
    awake = λ ok. awake;
    fits = λ stays. fits;
    hold = λ ok calm.
        held_moved after mid s (λ stays. syncs.hold legal refl stays) holds.step fits calm (holds.ok refl);
    err = tt;
    passes = asked_same holds.asked;
    shows = subst (λ (one : Synced). HasSyncedLive f after one r s) (sym is)
        (record { mid = mid; syncs = syncs; on = holds.step });
  }
    where
      awake : s.database.stopped ≡ false
      awake = holds.awake refl (syncs.awake refl)

      fits : Fits after s.database
      fits = fits_moved after mid s none fits_mid holds.step awake (holds.ok refl)
