-- What storing the changes does to the replica's disk.
use Rattle.std.specs.Prelude.{◌≡◌, ℕ, List, Result, Ok, Err, ◌⊎◌}
use Rattle.crash_disk.specs.declared.event.Event.{Event}
use Rattle.crash_disk.specs.Files.{Files, files_after}
use Rattle.replica_store.specs.declared.dated_names.Dated.{Dated}
use Rattle.replica_store.specs.declared.error.Damage.{Damage}
use Rattle.replica_store.specs.declared.file_name.FileName.{FileName}
use Rattle.replica_store.specs.Dating.{IsFirstBadHeader}
use Rattle.replica_store.specs.Listing.{AreListed}
use Rattle.round_line.specs.declared.round.Synced.{Synced}
use Rattle.wal_follow.specs.declared.fault.FollowFault.TheVariants.{Header, SizesDiffer, WalTooLong, TooLarge}
use Rattle.wal_follow.specs.declared.fault.FollowFault.TheVariants.{GateBroken, Live, Memory}
use Rattle.replica_sync.specs.declared.answer.SyncFault.{SyncFault}
use Rattle.replica_sync.specs.declared.answer.SyncFault.TheVariants as fault
use Rattle.replica_sync.specs.Answers.{IsNamed}
use Rattle.replica_sync.specs.Newest.{next_moment}
use Rattle.replica_sync.specs.StoreSide.{Stores}
use Rattle.replica_upkeep.specs.Kept.{AreFiles}
use Rattle.replica_round.specs.declared.changing.Changed.{Changed}
use Rattle.replica_round.specs.declared.stop.RoundStop.{RoundStop}
use Rattle.replica_round.specs.declared.stop.RoundStop.TheVariants as stop

-- the file of this name is the first in list order whose header is bad
pub record HasFirstBadHeader (files : Files) (name : FileName) (damage : Damage) : Type 0 where
  pub names : List FileName
  pub listed : AreListed files names
  pub first : IsFirstBadHeader files names name damage

-- A sync over the list of the files was answered so, and did this. Its file is of the transaction behind the newest
-- one, and has the moment `now` or that of the newest file, whichever is greater.
pub record SyncsStore (now : ℕ) (result : Result Synced SyncFault) (before after : List Event) : Type 0 where
  pub dated : List Dated
  pub files : AreFiles (files_after before) dated
  pub named : IsNamed dated result
  pub stores : Stores dated (next_moment dated now) result before after

-- The sync over this list of the files was answered so.
pub record HasStoredChanges (now : ℕ) (changed : Changed) (before after : List Event) : Type 0 where
  pub syncs : SyncsStore now (Ok changed.sync) before after
  pub list : syncs.dated ≡ changed.files

-- What became of the disk, for each answer.
abbrev pub ChangesStore : ℕ → Result Changed RoundStop → List Event → List Event → Type 0
ChangesStore now (Ok changed) before after = HasStoredChanges now changed before after
ChangesStore now (Err (stop.Damaged name damage)) before after =
    (after ≡ before) × HasFirstBadHeader (files_after before) name damage
ChangesStore now (Err (stop.PageMissing name number)) before after = ⊥
ChangesStore now (Err stop.TxidSpent) before after = SyncsStore now (Err fault.TxidSpent) before after
ChangesStore now (Err (stop.Store cause)) before after =
    (after ≡ before) ⊎ SyncsStore now (Err (fault.Store cause)) before after
ChangesStore now (Err stop.Memory) before after = (after ≡ before) ⊎ SyncsStore now (Err fault.Memory) before after
ChangesStore now (Err (stop.Follow (Live cause))) before after =
    SyncsStore now (Err (fault.Follow (Live cause))) before after
    ⊎ ((synced : Synced) × SyncsStore now (Ok synced) before after)
ChangesStore now (Err (stop.Follow (Header cause))) before after =
    SyncsStore now (Err (fault.Follow (Header cause))) before after
ChangesStore now (Err (stop.Follow (SizesDiffer db wal))) before after =
    SyncsStore now (Err (fault.Follow (SizesDiffer db wal))) before after
ChangesStore now (Err (stop.Follow (WalTooLong n))) before after =
    SyncsStore now (Err (fault.Follow (WalTooLong n))) before after
ChangesStore now (Err (stop.Follow (TooLarge n))) before after =
    SyncsStore now (Err (fault.Follow (TooLarge n))) before after
ChangesStore now (Err (stop.Follow (GateBroken broken))) before after =
    SyncsStore now (Err (fault.Follow (GateBroken broken))) before after
ChangesStore now (Err (stop.Follow Memory)) before after = SyncsStore now (Err (fault.Follow Memory)) before after
