-- What a sync does to the replica's disk.
use Rattle.std.specs.Prelude.{◌≡◌, ℕ, ◌+◌, ◌<◌, List, Result, Ok, Err, ◌⊎◌}
use Rattle.crash_disk.specs.declared.event.Event.{Event}
use Rattle.ls_base.specs.Change.{Change}
use Rattle.ltx_format.specs.declared.header.LtxHeader.{LtxHeader}
use Rattle.ltx_format.specs.LtxFormat.{HasHeader}
use Rattle.replica_store.specs.declared.dated_names.Dated.{Dated}
use Rattle.replica_store.specs.declared.file_name.FileName.{FileName}
use Rattle.replica_store.specs.FileOf.{IsFileOf}
use Rattle.replica_store.specs.Listing.{path_of, IsValid}
use Rattle.replica_store.specs.Putting.{KeepsOthers, Puts, HasPut}
use Rattle.round_line.specs.declared.round.Synced.{Synced}
use Rattle.round_line.specs.declared.round.Synced.TheVariants.{Same, Piece, Whole}
use Rattle.replica_sync.specs.declared.answer.SyncFault.{SyncFault}
use Rattle.replica_sync.specs.Newest.{newest_of}

-- The bytes are a file of the name's transactions with this moment, and begin with its header. Only a whole state
-- begins with the first one.
pub record IsStoredFile (name : FileName) (moment : ℕ) (bytes : List ℕ) : Type 0 where
  pub header : LtxHeader
  pub change : Change
  pub under : HasHeader bytes header × (header.min ≡ name.min) × (header.max ≡ name.max)
  pub file : (name.level ≡ 9) ⊎ (1 < name.min) → IsFileOf bytes name.min name.max header change
  pub dated : header.moment ≡ moment

-- A file of the next transaction was put under the name, and brought to the disk.
pub record HasStored (moment : ℕ) (name : FileName) (before now : List Event) : Type 0 where
  pub bytes : List ℕ
  pub file : IsStoredFile name moment bytes
  pub put : HasPut (path_of name) bytes before now

-- One may have been put, or nothing but the temporary file has changed.
pub record MayHaveStored (dated : List Dated) (moment : ℕ) (before now : List Event) : Type 0 where
  pub name : FileName
  pub valid : IsValid name
  pub next : name.max ≡ newest_of dated + 1
  pub puts : KeepsOthers (path_of name) before now
      ⊎ ((bytes : List ℕ) × IsStoredFile name moment bytes × Puts (path_of name) bytes before now)

-- What became of the disk, for each answer.
abbrev pub Stores : List Dated → ℕ → Result Synced SyncFault → List Event → List Event → Type 0
Stores dated moment (Ok Same) before now = now ≡ before
Stores dated moment (Ok (Piece name)) before now = HasStored moment name before now
Stores dated moment (Ok (Whole name)) before now = HasStored moment name before now
Stores dated moment (Err fault) before now = (now ≡ before) ⊎ MayHaveStored dated moment before now
