-- What a sync keeps is kept while the database goes on.
use Rattle.std.proofs.Common.{◌≡◌, ℕ, ◌+◌, ◌≤◌, List, [], ◌∷◌, length, sym, ap, subst, ◌∙◌, length-append, arith}
use Rattle.crash_disk.specs.declared.event.Event.{Event}
use Rattle.crash_disk.specs.Files.{files_after}
use Rattle.ls_base.specs.History.{History}
use Rattle.ls_base.specs.SyncLog.{SyncLog, recorded_state}
use Rattle.live_gate.specs.LiveRecord.{Database}
use Rattle.live_gate.specs.Step.{IsWriterStep}
use Rattle.live_gate.proofs.StepLemmas.{step_join}
use Rattle.replica_store.specs.declared.file_name.FileName.{FileName}
use Rattle.replica_store.specs.CarriesOn.{IsLonger, CarriesOn}
use Rattle.replica_store.proofs.GrowthLemmas.{longer_history_keeps}
use Rattle.replica_store.proofs.LogLemmas.{longer_same, recorded_longer}
use Rattle.round_line.specs.declared.round.Synced.{Synced}
use Rattle.round_line.specs.declared.round.Synced.TheVariants.{Same, Piece, Whole}
use Rattle.wal_follow.specs.declared.following.Following.{Following}
use Rattle.replica_sync.specs.Faith.{IsBetween, StoresRight, AddsLine, AddsLines, EndsSince}
use Rattle.replica_sync.specs.Faith.{HasSynced, MayHaveSynced}
use Rattle.replica_sync.specs.Newest.{moment_behind}
use Rattle.replica_sync.proofs.FaithNext.{still_faithful, still_settled}
use Rattle.replica_sync.proofs.FaithSince.{since_later}
use Rattle.replica_sync.proofs.LiveLemmas.{state_stays}

-- ---- the database goes on behind the sync

module _ (old mid new : Database) (step : IsWriterStep mid new) where
  still_carries : (cut : ℕ) (before now : List Event) (log later : SyncLog)
      → CarriesOn mid.history cut before now log later → CarriesOn new.history cut before now log later
  still_carries cut before now log later is =
      subst (λ (h : History). CarriesOn h cut before now log later) (sym step.history.is)
      ((longer_history_keeps mid.history step.history.rest cut before now log later).2 is)

  still_ends : (log : SyncLog) → EndsSince old.history mid.history log → EndsSince old.history new.history log
  still_ends log is = record {
    state = is.state;
    recorded = ap (λ (h : History). recorded_state h log (length log)) step.history.is
        ∙ recorded_longer mid.history step.history.rest log (length log) is.state is.recorded;
    since = since_later old.history mid.history new.history step.history.rest is.state step.history.is is.since;
  }

  still_between : (at : Database) → IsBetween old at mid → IsBetween old at new
  still_between at is = record { to = is.to; on = step_join at mid new is.on step }

  still_right : (f : Following) (synced : Synced) (now : List Event) → StoresRight f synced old mid now
      → StoresRight f synced old new now
  still_right f Same now is = tt
  still_right f (Piece name) now is = record {
    bytes = is.bytes;
    there = is.there;
    header = is.header;
    change = is.change;
    file = is.file;
    at = is.at;
    between = still_between is.at is.between;
    h = is.h;
    q = is.q;
    finds = is.finds;
    place = is.place;
    follows = is.follows;
    later = is.later;
    start = is.start;
    since = is.since;
    are_since = is.are_since;
    piece = is.piece;
  }
  still_right f (Whole name) now is = record {
    bytes = is.bytes;
    there = is.there;
    header = is.header;
    change = is.change;
    file = is.file;
    at = is.at;
    between = still_between is.at is.between;
    found = is.found;
    loses = is.loses;
    place = is.place;
    state = is.state;
    recorded = state_stays mid new is.header.place is.state step is.recorded;
    whole = is.whole;
  }

  pub still_synced : (f after : Following) (now : ℕ) (synced : Synced) (log : SyncLog) (before current : List Event)
      → HasSynced f after now synced log old mid before current
      → HasSynced f after now synced log old new before current
  still_synced f after now synced log before current is = record {
    later = is.later;
    lines = is.lines;
    follows = is.follows;
    read = still_faithful mid new step (files_after current) is.later is.read;
    ends = still_ends is.later is.ends;
    stores = still_right f synced current is.stores;
    carries = λ cut low settled. still_carries cut before current log is.later
        (is.carries cut low settled);
    settled = λ settled. still_settled mid new step current is.later (is.settled settled);
    retains = is.retains;
  }

-- ---- what was synced may have been

one_more : (moment : ℕ) (name : FileName) (log later : SyncLog) → AddsLine moment name log later
    → IsLonger log later × (length later ≤ length log + 1)
one_more moment name log later adds =
    let count = ap length adds.is ∙ length-append log (adds.line ∷ []) in
    (record { more = adds.line ∷ []; is = adds.is }, omega (arith, count))

pub adds_longer : (moment : ℕ) (synced : Synced) (log later : SyncLog) → AddsLines moment synced log later
    → IsLonger log later × (length later ≤ length log + 1)
adds_longer moment Same log later same =
    let count : length later ≡ length log = ap length same in
    (subst (λ (l : SyncLog). IsLonger log l) (sym same) (longer_same log), omega (arith, count))
adds_longer moment (Piece name) log later adds = one_more moment name log later adds
adds_longer moment (Whole name) log later adds = one_more moment name log later adds

pub synced_may : (f after : Following) (now : ℕ) (synced : Synced) (log : SyncLog) (old new : Database)
    (before current : List Event) → HasSynced f after now synced log old new before current
    → MayHaveSynced now log old new before current
synced_may f after now synced log old new before current is =
    let longer = adds_longer (moment_behind log now) synced log is.later is.lines in
    record {
      later = is.later;
      lines = longer.0;
      one = longer.1;
      read = is.read;
      carries = is.carries;
      faithful = λ settled. (is.settled settled).faithful;
    }
