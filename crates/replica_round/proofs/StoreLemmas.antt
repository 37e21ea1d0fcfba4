-- What storing the changes does to the replica's disk, at each of its exits.
use Rattle.std.proofs.Common.{◌≡◌, ℕ, List, Some, Ok, Err, refl, sym, subst, ◌∙◌, inl, inr}
use Rattle.crash_disk.specs.declared.event.Event.{Event}
use Rattle.crash_disk.specs.Files.{files_after}
use Rattle.crash_disk.specs.GoesOn.{GoesOn}
use Rattle.crash_disk.specs.Told.{Told, IfTold}
use Rattle.crash_disk.proofs.GoesOnLemmas.{grown_same, goes_on-weaker}
use Rattle.live_gate.specs.declared.fault.LiveFault.{LiveFault}
use Rattle.replica_store.specs.declared.dated_names.Dated.{Dated}
use Rattle.replica_store.specs.declared.error.StoreError.{StoreError}
use Rattle.replica_store.specs.declared.error.StoreError.TheVariants as files
use Rattle.round_line.specs.declared.round.Synced.{Synced}
use Rattle.std.specs.Prelude.{Result}
use Rattle.wal_follow.specs.declared.fault.FollowFault.{FollowFault}
use Rattle.wal_follow.specs.declared.fault.FollowFault.TheVariants.{Header, SizesDiffer, WalTooLong, TooLarge}
use Rattle.wal_follow.specs.declared.fault.FollowFault.TheVariants.{GateBroken, Live, Memory}
use Rattle.replica_sync.specs.declared.answer.SyncFault.{SyncFault}
use Rattle.replica_sync.specs.declared.answer.SyncFault.TheVariants as sync
use Rattle.replica_sync.specs.Answers.{IsNamed}
use Rattle.replica_sync.specs.Newest.{next_moment}
use Rattle.replica_sync.specs.StoreSide.{Stores}
use Rattle.replica_upkeep.specs.Kept.{AreFiles}
use Rattle.replica_round.specs.Steps.{ExplainsFiles}
use Rattle.replica_round.specs.Stop.{stop_of_files, stop_of_sync, stop_of_hold}
use Rattle.replica_round.specs.declared.changing.Changed.{Changed}
use Rattle.replica_round.specs.ChangesStore.{SyncsStore, HasStoredChanges, ChangesStore}

-- ---- the list of the files is refused

read_one : (now : ℕ) (error : StoreError) (told : Told) (events : List Event) → told ≡ Some events
    → ExplainsFiles told error → ChangesStore now (Err (stop_of_files error)) events events
read_one now (files.Store cause) told events is explains = inl refl
read_one now (files.Damaged name damage) told events is explains = (refl, explains events is)
read_one now files.Memory told events is explains = inl refl

pub read_stores : (now : ℕ) (error : StoreError) (old new : Told) → new ≡ old → ExplainsFiles old error
    → GoesOn old new (ChangesStore now (Err (stop_of_files error)))
read_stores now error old new same explains = record {
  told = λ events told.
      (events, same ∙ told, read_one now error old events told explains, grown_same events);
  silent = λ silent. same ∙ silent;
}

-- ---- the sync was asked

-- the list is lent to it
pub are_lent : (told : Told) (files lent : List Dated) → lent ≡ files
    → IfTold told (λ events. AreFiles (files_after events) files)
    → IfTold told (λ events. AreFiles (files_after events) lent)
are_lent told files lent same are =
    subst (λ (d : List Dated). IfTold told (λ events. AreFiles (files_after events) d)) (sym same) are

-- what it did, over the list of the files
pub syncs_store : (now : ℕ) (dated : List Dated) (result : Result Synced SyncFault) (old mid new : Told) → mid ≡ old
    → IfTold old (λ events. AreFiles (files_after events) dated) → IsNamed dated result
    → GoesOn mid new (Stores dated (next_moment dated now) result) → GoesOn old new (SyncsStore now result)
syncs_store now dated result old mid new same are named goes = record {
  told = λ events told.
      let went = goes.told events (same ∙ told) in (
        went.0,
        went.1,
        record { dated = dated; files = are events told; named = named; stores = went.2 },
        went.3,
      );
  silent = λ silent. goes.silent (same ∙ silent);
}

follow_one : (now : ℕ) (fault : FollowFault) (x y : List Event) → SyncsStore now (Err (sync.Follow fault)) x y
    → ChangesStore now (Err (stop_of_sync (sync.Follow fault))) x y
follow_one now (Live cause) x y is = inl is
follow_one now (Header cause) x y is = is
follow_one now (SizesDiffer db wal) x y is = is
follow_one now (WalTooLong n) x y is = is
follow_one now (TooLarge n) x y is = is
follow_one now (GateBroken broken) x y is = is
follow_one now Memory x y is = is

refused_one : (now : ℕ) (fault : SyncFault) (x y : List Event) → SyncsStore now (Err fault) x y
    → ChangesStore now (Err (stop_of_sync fault)) x y
refused_one now (sync.Follow fault) x y is = follow_one now fault x y is
refused_one now sync.TxidSpent x y is = is
refused_one now (sync.Store cause) x y is = inr is
refused_one now sync.Memory x y is = inr is

pub refused_stores : (now : ℕ) (fault : SyncFault) (old new : Told) → GoesOn old new (SyncsStore now (Err fault))
    → GoesOn old new (ChangesStore now (Err (stop_of_sync fault)))
refused_stores now fault old new goes =
    goes_on-weaker old new (SyncsStore now (Err fault)) (ChangesStore now (Err (stop_of_sync fault))) goes
    (refused_one now fault)

pub held_stores : (now : ℕ) (synced : Synced) (cause : LiveFault) (old new : Told)
    → GoesOn old new (SyncsStore now (Ok synced)) → GoesOn old new (ChangesStore now (Err (stop_of_hold cause)))
held_stores now synced cause old new goes =
    goes_on-weaker old new (SyncsStore now (Ok synced)) (ChangesStore now (Err (stop_of_hold cause))) goes
    (λ x y is. inr (synced, is))

-- all was stored over the list that is handed out
pub done_stores : (now : ℕ) (dated : List Dated) (changed : Changed) (old mid new : Told) → mid ≡ old
    → IfTold old (λ events. AreFiles (files_after events) dated) → IsNamed dated (Ok changed.sync)
    → dated ≡ changed.files → GoesOn mid new (Stores dated (next_moment dated now) (Ok changed.sync))
    → GoesOn old new (HasStoredChanges now changed)
done_stores now dated changed old mid new same are named list goes = record {
  told = λ events told.
      let went = goes.told events (same ∙ told) in (
        went.0,
        went.1,
        record {
          syncs = record { dated = dated; files = are events told; named = named; stores = went.2 };
          list = list;
        },
        went.3,
      );
  silent = λ silent. goes.silent (same ∙ silent);
}
