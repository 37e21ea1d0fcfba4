-- The file of what was found, and how it is stored.
use Rattle.std.specs.Prelude.{◌≡◌, ◌↔◌, ℕ, ◌+◌, List, IsSome, ◌⊎◌}
use Rattle.std.specs.FinMap.{get, empty}
use Rattle.crash_disk.specs.GoesOn.{GoesOn}
use Rattle.crash_disk.specs.Told.{Told}
use Rattle.ls_base.specs.Change.{Change}
use Rattle.live_gate.specs.LiveRecord as live
use Rattle.ltx_format.specs.declared.header.LtxHeader.{LtxHeader}
use Rattle.ltx_format.specs.LtxFormat.{HasHeader, IsLtxFile}
use Rattle.ltx_format.specs.Writing.{PageMap, IsWhole, change_with}
use Rattle.replica_store.specs.declared.dated_names.Dated.{Dated}
use Rattle.replica_store.specs.declared.file_name.FileName.{FileName}
use Rattle.replica_store.specs.FileOf.{IsFileOf}
use Rattle.replica_store.specs.Listing.{path_of, IsValid}
use Rattle.replica_store.specs.Putting.{KeepsOthers, MayPut, HasPut}
use Rattle.wal_follow.specs.declared.answer.Found.{Found}
use Rattle.wal_follow.specs.declared.answer.Wanted.{Wanted}
use Rattle.wal_follow.specs.declared.answer.Wanted.TheVariants.{All, Listed}
use Rattle.wal_follow.specs.Calls.{target_of}
use Rattle.round_line.specs.declared.round.Synced.{Synced}
use Rattle.round_line.specs.declared.round.Synced.TheVariants.{Piece, Whole}
use Rattle.replica_sync.specs.declared.page_file.PageFile.{PageFile}
use Rattle.replica_sync.specs.Newest.{newest_of, IsPieceName, IsWholeName}
use Rattle.replica_sync.specs.PageFile.{HasPages}
use Rattle.replica_sync.specs.Pages.{IsWanted, ArePagesOf}

-- a whole state and a piece have the names of the transaction behind the newest one
abbrev pub IsNextName : List Dated → Wanted → FileName → Type 0
IsNextName dated All name = IsWholeName name (newest_of dated + 1)
IsNextName dated (Listed numbers) name = IsPieceName name (newest_of dated + 1)

-- a file of all pages is that of a whole state
abbrev pub synced_of : Wanted → FileName → Synced
synced_of All name = Whole name
synced_of (Listed numbers) name = Piece name

-- ---- a file that is being written

-- The bytes begin with the header, and are the file of it and all the pages of what was found.
pub record HasBytes (file : PageFile) (found : Found) (live_old live_new : live.Told) : Type 0 where
  pub bytes : List ℕ
  pub pages : PageMap
  pub head : HasHeader bytes file.writer.header
  pub ends : IsWhole file.writer.header pages → IsLtxFile bytes file.writer.header (change_with file.writer.header
      pages)
  pub numbers : (p : ℕ) → IsSome (get pages p) ↔ IsWanted found p
  pub shows : ArePagesOf (target_of found) live_old live_new pages

-- whenever the file was begun, it is put ..
abbrev pub PutsFound : PageFile → Found → Told → Told → live.Told → live.Told → Type 0
PutsFound file found old new live_old live_new =
    (begun : Told) → HasPages file begun old empty
    → (has : HasBytes file found live_old live_new) × GoesOn begun new (HasPut file.put has.bytes)

-- .. or it may be, or nothing but its temporary file has changed
abbrev pub MayPutFound : PageFile → Found → Told → Told → live.Told → live.Told → Type 0
MayPutFound file found old new live_old live_new =
    (begun : Told) → HasPages file begun old empty
    → GoesOn begun new (KeepsOthers file.put)
    ⊎ ((has : HasBytes file found live_old live_new) × GoesOn begun new (MayPut file.put has.bytes))

-- ---- the file under its name

-- The bytes are the file of what was found, under the name and with the moment. Only a whole state begins with the
-- first transaction.
pub record IsFileOfFound (found : Found) (name : FileName) (moment : ℕ) (live_old live_new : live.Told) : Type 0 where
  pub bytes : List ℕ
  pub header : LtxHeader
  pub change : Change
  pub head : HasHeader bytes header
  pub min : header.min ≡ name.min
  pub max : header.max ≡ name.max
  pub file : (name.min ≡ 1 → found.wanted ≡ All) → IsFileOf bytes name.min name.max header change
  pub size : header.size ≡ found.size
  pub commit : header.commit ≡ found.commit
  pub place : header.place ≡ found.place
  pub dated : header.moment ≡ moment
  pub change_size : change.page_size ≡ found.size
  pub change_commit : change.commit ≡ found.commit
  pub numbers : (p : ℕ) → IsSome (get change.pages p) ↔ IsWanted found p
  pub shows : ArePagesOf (target_of found) live_old live_new change.pages

-- it was put ..
pub record StoresFound
    (found : Found) (name : FileName) (moment : ℕ) (old new : Told) (live_old live_new : live.Told) : Type 0 where
  pub stored : IsFileOfFound found name moment live_old live_new
  pub put : GoesOn old new (HasPut (path_of name) stored.bytes)

-- .. or it may have been
pub record MayStoreFound
    (found : Found) (name : FileName) (moment : ℕ) (old new : Told) (live_old live_new : live.Told) : Type 0 where
  pub either : GoesOn old new (λ before now. (now ≡ before) ⊎ KeepsOthers (path_of name) before now)
      ⊎ ((stored : IsFileOfFound found name moment live_old live_new)
      × GoesOn old new (MayPut (path_of name) stored.bytes))

-- nothing was done, or it may have been stored as the next file
pub record MayStoreNext
    (dated : List Dated) (found : Found) (moment : ℕ) (old new : Told) (live_old live_new : live.Told) : Type 0 where
  pub either : (new ≡ old)
      ⊎ ((name : FileName) × IsValid name × IsNextName dated found.wanted name
      × MayStoreFound found name moment old new live_old live_new)

-- it was
pub record StoresNext
    (dated : List Dated) (found : Found) (name : FileName) (moment : ℕ) (old new : Told)
    (live_old live_new : live.Told) : Type 0 where
  pub valid : IsValid name
  pub is_next : IsNextName dated found.wanted name
  pub stores : StoresFound found name moment old new live_old live_new
