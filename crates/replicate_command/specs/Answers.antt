-- What the answers of a replication mean. What a live database or a disk that tells shows is read at the call's end.
use Rattle.std.specs.Prelude.{◌≡◌, ℕ, ◌<◌, List, true, false, Some, ◌⊎◌}
use Rattle.crash_disk.specs.Files.{Files, files_after}
use Rattle.crash_disk.specs.declared.event.Event.{Event}
use Rattle.crash_disk.specs.GoesOn.{IsGrown}
use Rattle.db_page.specs.DatabaseHeader.{IsWalDatabase, IsFirstFault, page_size_field, page_size_of}
use Rattle.ls_base.specs.declared.place.Place.{Place}
use Rattle.ls_base.specs.Fault.{Rose}
use Rattle.ls_base.specs.Limits.{database_limit, log_limit}
use Rattle.live_gate.specs.LiveRecord.{Database, LiveRecord, IfTold}
use Rattle.live_gate.specs.LiveCalls.{read_offset}
use Rattle.replica_store.specs.declared.dated_names.Dated.{Dated}
use Rattle.replica_store.specs.declared.error.Damage.{Damage}
use Rattle.replica_store.specs.declared.file_name.FileName.{FileName}
use Rattle.replica_store.specs.Dating.{IsHeaderDamage}
use Rattle.wal_follow.specs.declared.fault.Broken.TheVariants as found
use Rattle.wal_follow.specs.Answers.{FindsSizes, HasBytes}
use Rattle.replica_runs.specs.Newest.{IsNewestFile}
use Rattle.replica_sync.specs.Answers.{last_txid}
use Rattle.replica_sync.specs.Newest.{newest_of}
use Rattle.replica_sync.specs.Reading.{IsBrokenBy}
use Rattle.replica_upkeep.specs.declared.answer.UpkeepStop.{UpkeepStop}
use Rattle.replica_upkeep.specs.declared.answer.UpkeepStop.TheVariants as upkeep
use Rattle.replica_upkeep.specs.Answers as run
use Rattle.replica_upkeep.specs.Kept.{AreFiles}
use Rattle.replica_round.specs.ChangesStore.{HasFirstBadHeader}
use Rattle.ls_answers.specs.declared.outcome.Broken.{Broken}
use Rattle.ls_answers.specs.declared.outcome.Broken.TheVariants.{Salts, Short}
use Rattle.ls_answers.specs.declared.outcome.Why.{Why}
use Rattle.ls_answers.specs.declared.outcome.Why.TheVariants.{Done, NoDatabase, Header, SizesDiffer, WalTooLong}
use Rattle.ls_answers.specs.declared.outcome.Why.TheVariants.{TooLarge, GateBroken, Damaged, PageMissing}
use Rattle.ls_answers.specs.declared.outcome.Why.TheVariants.{TxidSpent, LiveFault, StoreFault, SinkFault, Memory}
use Rattle.replicate_command.specs.Later.{WasFound}
use Rattle.replicate_command.specs.Seen.{Seen}

-- a fact about what a live database told and tells
abbrev pub IfLiveTells : Seen → (LiveRecord → LiveRecord → Type 0) → Type 0
IfLiveTells seen P = (old new : LiveRecord) → seen.live ≡ Some old → seen.live_after ≡ Some new → P old new

-- the header that the database file gave last
abbrev pub IfHeader : Seen → (List ℕ → Type 0) → Type 0
IfHeader seen P = IfTold seen.live_after (λ r. (bytes : List ℕ) → r.asked.head ≡ Some bytes → P bytes)

-- the length of the log that was given last
abbrev pub IfLength : Seen → (ℕ → Type 0) → Type 0
IfLength seen P = IfTold seen.live_after (λ r. (size : ℕ) → r.asked.wal_size ≡ Some size → P size)

-- where no coincidence is counted, this was found at some moments of the call
abbrev pub IfCalm : Seen → (Database → Database → Type 0) → Type 0
IfCalm seen found =
    IfLiveTells seen (λ old new. new.database.chances ≡ 0 → WasFound found old.database new.database)

-- the found state has so many bytes, too many
abbrev pub IsTooLarge : ℕ → Database → Database → Type 0
IsTooLarge size old new = (database_limit < size) × HasBytes old new size

-- how the log shows that the gate was broken
abbrev pub ShowsBroken : Broken → LiveRecord → Type 0
ShowsBroken (Short at) r = (r.asked.gave_none ≡ true) × (at ≡ read_offset r)
ShowsBroken (Salts was now) r = (place : Place) × IsBrokenBy place (found.Salts was now) r

-- The file whose header is read before the rounds is damaged, or the first one of the list in a round.
abbrev pub HasBadHeader : Files → FileName → Damage → Type 0
HasBadHeader files name damage =
    (IsNewestFile files name × IsHeaderDamage files name damage) ⊎ HasFirstBadHeader files name damage

-- At a moment of the call the newest transaction of the replica's files was the last one that there can be.
pub record HasSpentAll (before now : List Event) : Type 0 where
  pub at : List Event
  pub from : IsGrown before at
  pub to : IsGrown at now
  pub dated : List Dated
  pub are : AreFiles (files_after at) dated
  pub last : newest_of dated ≡ last_txid

-- At a moment of the call a run of the replica's files was due to be merged, and this was wrong with it.
pub record HadBadRun (moment : ℕ) (refusal : UpkeepStop) (before now : List Event) : Type 0 where
  pub at : List Event
  pub from : IsGrown before at
  pub to : IsGrown at now
  pub dated : List Dated
  pub are : AreFiles (files_after at) dated
  pub explained : run.Explains dated moment refusal at

-- what a disk that tells told and tells
abbrev pub IfStoreTells : Seen → (List Event → List Event → Type 0) → Type 0
IfStoreTells seen P = (before now : List Event) → seen.store ≡ Some before → seen.store_after ≡ Some now → P before now

abbrev pub Explains : Seen → Why → Type 0
Explains seen Done = Unit {0}
Explains seen NoDatabase = IfTold seen.live (λ r. seen.is_there ≡ false)
Explains seen (Header fault) = IfHeader seen (λ bytes. IsFirstFault bytes fault)
Explains seen (SizesDiffer db wal) =
    IfHeader seen (λ bytes. IsWalDatabase bytes × (page_size_of (page_size_field bytes) ≡ db))
    × IfCalm seen (λ old new. FindsSizes old new db wal)
Explains seen (WalTooLong size) = IfLength seen (λ given. (size ≡ given) × (log_limit < given))
Explains seen (TooLarge size) = IfCalm seen (IsTooLarge size)
Explains seen (GateBroken how) =
    IfTold seen.live_after (λ r. ShowsBroken how r × (r.database.chances ≡ 0 → ⊥))
Explains seen (Damaged name damage) =
    IfStoreTells seen (λ before now. HasBadHeader (files_after now) name damage
    ⊎ HadBadRun seen.asked.now (upkeep.Damaged name damage) before now)
Explains seen (PageMissing name number) =
    IfStoreTells seen (HadBadRun seen.asked.now (upkeep.PageMissing name number))
Explains seen TxidSpent = IfStoreTells seen HasSpentAll
Explains seen LiveFault = Rose seen.live_faults seen.live_faults_after
Explains seen StoreFault = Rose seen.store_faults seen.store_faults_after
Explains seen SinkFault = Rose seen.sink_faults seen.sink_faults_after
Explains seen Memory = Unit {0}
Explains seen other = ⊥
