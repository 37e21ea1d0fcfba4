-- What a round does to the replica's disk.
use Rattle.std.specs.Prelude.{◌≡◌, ℕ, ◌-◌, List, Option, Some, None, Result, Ok, Err, ◌⊎◌}
use Rattle.crash_disk.specs.declared.event.Event.{Event}
use Rattle.crash_disk.specs.Files.{files_after}
use Rattle.crash_disk.specs.GoesOn.{IsGrown}
use Rattle.replica_store.specs.declared.dated_names.Dated.{Dated}
use Rattle.replica_store.specs.declared.file_name.FileName.{FileName}
use Rattle.round_line.specs.declared.round.Round.{Round}
use Rattle.round_line.specs.declared.round.Synced.{Synced}
use Rattle.round_line.specs.RoundText.{name_in}
use Rattle.wal_follow.specs.declared.fault.FollowFault.TheVariants.{Header, SizesDiffer, WalTooLong, TooLarge}
use Rattle.wal_follow.specs.declared.fault.FollowFault.TheVariants.{GateBroken, Live, Memory}
use Rattle.replica_sync.specs.declared.answer.SyncFault.TheVariants as fault
use Rattle.replica_sync.specs.Newest.{next_moment}
use Rattle.replica_upkeep.specs.declared.answer.Upkeep.{Upkeep}
use Rattle.replica_upkeep.specs.declared.answer.UpkeepStop.{UpkeepStop}
use Rattle.replica_upkeep.specs.declared.answer.UpkeepStop.TheVariants as upkeep
use Rattle.replica_upkeep.specs.Answers.{Explains}
use Rattle.replica_upkeep.specs.Kept.{AreFiles, KeepsFiles}
use Rattle.replica_upkeep.specs.Levels.{IsWith}
use Rattle.replica_upkeep.specs.Maintained.{IsMaintained}
use Rattle.replica_round.specs.declared.stop.RoundStop.{RoundStop}
use Rattle.replica_round.specs.declared.stop.RoundStop.TheVariants as stop
use Rattle.replica_round.specs.ChangesStore.{HasFirstBadHeader, SyncsStore}

-- the name of the stored file, if one was stored, joins the list with its moment
abbrev pub JoinsStored : Option FileName → ℕ → List Dated → List Dated → Type 0
JoinsStored None moment dated longer = longer ≡ dated
JoinsStored (Some name) moment dated longer = IsWith dated (record { name = name; moment = moment }) longer

-- what the round counts of its upkeep
abbrev pub upkeep_of : Round → Upkeep
upkeep_of round = record { merged = round.merged; dropped = round.dropped; lost = round.lost }

-- what the names become: the stored one joins, what is due is merged, and what is too old is dropped
pub record IsRounded (dated : List Dated) (keep now : ℕ) (round : Round) (later : List Dated) : Type 0 where
  pub longer : List Dated
  pub joins : JoinsStored (name_in round.sync) (next_moment dated now) dated longer
  pub maintained : IsMaintained longer keep now (upkeep_of round) later

-- The sync stored, and then the replica's files became those of the names.
pub record HasRounded (keep now : ℕ) (round : Round) (before after : List Event) : Type 0 where
  pub stored : List Event
  pub syncs : SyncsStore now (Ok round.sync) before stored
  pub grown : IsGrown before stored
  pub up : IsGrown stored after
  pub later : List Dated
  pub rounds : IsRounded syncs.dated keep now round later
  pub files : AreFiles (files_after after) later
  pub keeps : KeepsFiles (now - keep) stored after

-- The sync stored, and the upkeep of these names was refused.
pub record StopsUpkeep (keep now : ℕ) (refusal : UpkeepStop) (before after : List Event) : Type 0 where
  pub synced : Synced
  pub stored : List Event
  pub syncs : SyncsStore now (Ok synced) before stored
  pub grown : IsGrown before stored
  pub up : IsGrown stored after
  pub longer : List Dated
  pub joins : JoinsStored (name_in synced) (next_moment syncs.dated now) syncs.dated longer
  pub files : AreFiles (files_after stored) longer
  pub explained : Explains longer now refusal stored
  pub keeps : KeepsFiles (now - keep) stored after

-- the sync was answered Ok, and no more was done
abbrev pub StopsSynced : ℕ → List Event → List Event → Type 0
StopsSynced now before after = (synced : Synced) × SyncsStore now (Ok synced) before after

-- What became of the disk, for each answer.
abbrev pub StoresRound : ℕ → ℕ → Result Round RoundStop → List Event → List Event → Type 0
StoresRound keep now (Ok round) before after = HasRounded keep now round before after
StoresRound keep now (Err (stop.Damaged name damage)) before after =
    ((after ≡ before) × HasFirstBadHeader (files_after before) name damage)
    ⊎ StopsUpkeep keep now (upkeep.Damaged name damage) before after
StoresRound keep now (Err (stop.PageMissing name number)) before after =
    StopsUpkeep keep now (upkeep.PageMissing name number) before after
StoresRound keep now (Err stop.TxidSpent) before after = SyncsStore now (Err fault.TxidSpent) before after
StoresRound keep now (Err (stop.Store cause)) before after =
    (after ≡ before)
    ⊎ (SyncsStore now (Err (fault.Store cause)) before after
    ⊎ StopsUpkeep keep now (upkeep.Store cause) before after)
StoresRound keep now (Err stop.Memory) before after =
    (after ≡ before)
    ⊎ (SyncsStore now (Err fault.Memory) before after
    ⊎ (StopsSynced now before after ⊎ StopsUpkeep keep now upkeep.Memory before after))
StoresRound keep now (Err (stop.Follow (Live cause))) before after =
    SyncsStore now (Err (fault.Follow (Live cause))) before after ⊎ StopsSynced now before after
StoresRound keep now (Err (stop.Follow (Header cause))) before after =
    SyncsStore now (Err (fault.Follow (Header cause))) before after
StoresRound keep now (Err (stop.Follow (SizesDiffer db wal))) before after =
    SyncsStore now (Err (fault.Follow (SizesDiffer db wal))) before after
StoresRound keep now (Err (stop.Follow (WalTooLong n))) before after =
    SyncsStore now (Err (fault.Follow (WalTooLong n))) before after
StoresRound keep now (Err (stop.Follow (TooLarge n))) before after =
    SyncsStore now (Err (fault.Follow (TooLarge n))) before after
StoresRound keep now (Err (stop.Follow (GateBroken broken))) before after =
    SyncsStore now (Err (fault.Follow (GateBroken broken))) before after
StoresRound keep now (Err (stop.Follow Memory)) before after =
    SyncsStore now (Err (fault.Follow Memory)) before after
