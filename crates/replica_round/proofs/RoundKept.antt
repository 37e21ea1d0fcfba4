-- What a round keeps, from what each of its steps keeps.
use Rattle.std.proofs.Common.{◌≡◌, ℕ, ◌≤◌, List, length, Option, Some}
use Rattle.std.proofs.Common.{sym, ap, subst, ◌∙◌, arith}
use Rattle.crash_disk.specs.declared.event.Event.{Event}
use Rattle.crash_disk.specs.Files.{Files, files_after}
use Rattle.crash_disk.specs.GoesOn.{IsGrown}
use Rattle.ls_base.specs.declared.place.Place.{Place}
use Rattle.ls_base.specs.History.{History}
use Rattle.ls_base.specs.SyncLog.{SyncLog, recorded_state}
use Rattle.live_gate.specs.LiveRecord.{Database, IsPrefix}
use Rattle.replica_store.specs.CarriesOn.{CarriesOn, RetainsNew}
use Rattle.replica_store.specs.CrashFaithful.{IsCrashFaithful, IsSettled}
use Rattle.replica_store.specs.Faithful.{IsFaithful}
use Rattle.replica_store.specs.Retained.{IsRetainedIn}
use Rattle.replica_store.proofs.CarryLemmas.{carries_on_then}
use Rattle.replica_store.proofs.CrashLemmas.{grown_longer}
use Rattle.replica_store.proofs.FaithLemmas.{faithful_longer}
use Rattle.replica_store.proofs.GrowthLemmas.{longer_history_keeps}
use Rattle.replica_store.proofs.LogLemmas.{recorded_longer}
use Rattle.round_line.specs.declared.round.Synced.{Synced}
use Rattle.wal_follow.specs.declared.following.Following.{Following}
use Rattle.replica_sync.specs.Faith.{IsPlaceOfNewest, EndsSince, HasSynced}
use Rattle.replica_sync.specs.Newest.{moment_behind}
use Rattle.replica_sync.proofs.FaithSince.{since_later}
use Rattle.replica_upkeep.specs.Faith.{RetainsNewest, IsTrue, IsReady, KeepsFaith, Settles}
use Rattle.replica_round.proofs.KeepLemmas.{adds_longer}

-- ---- a longer history

module _ (mid new : History) (grows : IsPrefix mid new) where
  grown_read : (files : Files) (log : SyncLog) → IsFaithful files mid log → IsFaithful files new log
  grown_read files log is = subst (λ (h : History). IsFaithful files h log) (sym grows.is)
      (faithful_longer files mid grows.rest log is)

  grown_settled : (events : List Event) (log : SyncLog) → IsSettled events mid log → IsSettled events new log
  grown_settled events log is = subst (λ (h : History). IsSettled events h log) (sym grows.is)
      ((longer_history_keeps mid grows.rest 0 events events log log).1 is)

  pub grown_crash_faithful : (events : List Event) (log : SyncLog) → IsCrashFaithful events mid log
      → IsCrashFaithful events new log
  grown_crash_faithful events log is = subst (λ (h : History). IsCrashFaithful events h log) (sym grows.is)
      ((longer_history_keeps mid grows.rest 0 events events log log).0 is)

  pub grown_carries : (cut : ℕ) (before now : List Event) (log later : SyncLog)
      → CarriesOn mid cut before now log later → CarriesOn new cut before now log later
  grown_carries cut before now log later is =
      subst (λ (h : History). CarriesOn h cut before now log later) (sym grows.is)
      ((longer_history_keeps mid grows.rest cut before now log later).2 is)

  grown_ends : (old : History) (log : SyncLog) → EndsSince old mid log → EndsSince old new log
  grown_ends old log is = record {
    state = is.state;
    recorded = ap (λ (h : History). recorded_state h log (length log)) grows.is
        ∙ recorded_longer mid grows.rest log (length log) is.state is.recorded;
    since = since_later old mid new grows.rest is.state grows.is is.since;
  }

-- ---- behind a sync that was answered Ok

module _ (f kept : Following) (now : ℕ) (synced : Synced) (log : SyncLog) (old mid : Database) (new : History)
    (before stored : List Event) (is : HasSynced f kept now synced log old mid before stored)
    (grows : IsPrefix mid.history new) (cut : ℕ) (low : cut ≤ now) where
  pub synced_read : IsFaithful (files_after stored) new is.later
  synced_read = grown_read mid.history new grows (files_after stored) is.later is.read

  pub synced_ends : EndsSince old.history new is.later
  synced_ends = grown_ends mid.history new grows old.history is.later is.ends

  pub synced_settled : IsSettled before old.history log → IsSettled stored new is.later
  synced_settled settled = grown_settled mid.history new grows stored is.later (is.settled settled)

  pub synced_carries : IsSettled before old.history log → CarriesOn new cut before stored log is.later
  synced_carries settled = grown_carries mid.history new grows cut before stored log is.later
      (is.carries cut low settled)

  -- the newest transaction is retained, since the follower has a place
  module _ (place : Place) (has : kept.place ≡ Some place) where
    pub synced_newest : RetainsNewest (files_after stored) is.later
    synced_newest some =
        (subst (λ (p : Option Place). IsPlaceOfNewest (files_after stored) is.later p) has is.follows).0

    pub synced_true : IsTrue new is.later stored
    synced_true = record { faithful = synced_read; newest = synced_newest }

    pub synced_ready : IsSettled before old.history log → IsReady new is.later stored
    synced_ready settled = record { settled = synced_settled settled; newest = synced_newest }

    -- ---- and behind what the upkeep did, whatever it answered

    module _ (current : List Event) (up : IsGrown before stored) (on : IsGrown stored current)
        (faith : KeepsFaith cut stored current) where
      pub kept_true : IsTrue new is.later current
      kept_true = faith.read new is.later synced_true

      pub kept_carries : IsSettled before old.history log → CarriesOn new cut before current log is.later
      kept_carries settled = carries_on_then new cut before stored current log is.later is.later up on
          (synced_carries settled) (faith.at_a_stop new is.later (synced_ready settled)).carries

      pub kept_crash_faithful : IsSettled before old.history log → IsCrashFaithful current new is.later
      kept_crash_faithful settled = (faith.at_a_stop new is.later (synced_ready settled)).faithful

      -- the one line more
      pub kept_retains : IsSettled before old.history log → RetainsNew current log is.later
      kept_retains settled t above within image crash =
          let one = (adds_longer (moment_behind log now) synced log is.later is.lines).1 in
          let last : length is.later ≡ t = omega (arith, one, above, within) in
          subst (IsRetainedIn image) last
          ((faith.at_a_stop new is.later (synced_ready settled)).newest image (record {
            ago = 0;
            since = omega (arith, grown_longer stored current on);
            was = crash;
          }) (omega (arith, above, within)))

      pub kept_settled : Settles stored current → IsSettled before old.history log → IsSettled current new is.later
      kept_settled settles settled = (settles.ready new is.later (synced_ready settled)).settled

      pub kept_follows : (after : Following) → after.place ≡ kept.place
          → IsPlaceOfNewest (files_after current) is.later after.place
      kept_follows after same =
          let was = subst (λ (p : Option Place). IsPlaceOfNewest (files_after stored) is.later p) has is.follows in
          subst (λ (p : Option Place). IsPlaceOfNewest (files_after current) is.later p) (sym (same ∙ has))
          (kept_true.newest was.0.positive, was.1)
