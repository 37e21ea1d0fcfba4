-- A file that is written page by page.
use Rattle.std.specs.Prelude.{◌≡◌, List, ℕ, ◌++◌, IsSome, ◌↔◌, ◌<◌}
use Rattle.std.specs.FinMap.{get, empty, insert}
use Rattle.crash_disk.specs.GoesOn.{GoesOn}
use Rattle.crash_disk.specs.Told.{Told}
use Rattle.live_gate.specs.LiveRecord as live
use Rattle.ltx_format.specs.LtxFormat.{header_bytes, page_blocks, HasHeader, IsLtxFile}
use Rattle.ltx_format.specs.Writing.{PageMap, HasWritten, IsWhole, change_with}
use Rattle.replica_store.specs.Putting.{KeepsOthers, MayPut, HasPut}
use Rattle.replica_sync.specs.declared.page_file.PageFile.{PageFile}
use Rattle.replica_sync.specs.Gathering.{HasGathered}
use Rattle.replica_sync.specs.Pages.{number_at, ArePagesOf}
use Rattle.wal_follow.specs.declared.answer.Found.{Found}
use Rattle.wal_follow.specs.Calls.{target_of}

-- The header and these pages were given since the file was begun.
pub record HasPages (file : PageFile) (begun now : Told) (pages : PageMap) : Type 0 where
  pub written : HasWritten file.writer pages
  pub gathers : HasGathered file.put file.gathered begun now (header_bytes file.writer.header ++ page_blocks pages)

-- a file was begun, and some pages were given
pub record IsWriting (file : PageFile) (now : Told) : Type 0 where
  pub begun : Told
  pub pages : PageMap
  pub has : HasPages file begun now pages

-- whatever pages were given before, this one is given too
abbrev pub GainsPage : PageFile → PageFile → ℕ → List ℕ → Told → Told → Type 0
GainsPage before after number page old new =
    (begun : Told) (pages : PageMap) → HasPages before begun old pages
    → HasPages after begun new (insert pages number page)

-- whatever pages were given, nothing but the temporary file has changed since the file was begun
abbrev pub KeepsAll : PageFile → Told → Told → Type 0
KeepsAll file old new =
    (begun : Told) (pages : PageMap) → HasPages file begun old pages → GoesOn begun new (KeepsOthers file.put)

-- and so it is where none was given yet
abbrev pub KeepsBegun : PageFile → Told → Told → Type 0
KeepsBegun file old new =
    (begun : Told) → HasPages file begun old empty → GoesOn begun new (KeepsOthers file.put)

-- Whatever pages were given, the bytes begin with the header and, where these are enough, are the file of both, ..
pub record EndsAs (file : PageFile) (pages : PageMap) (bytes : List ℕ) : Type 0 where
  pub head : HasHeader bytes file.writer.header
  pub is : IsWhole file.writer.header pages → IsLtxFile bytes file.writer.header (change_with file.writer.header pages)

-- .. and the file was put with them ..
abbrev pub PutsFile : PageFile → Told → Told → Type 0
PutsFile file old new =
    (begun : Told) (pages : PageMap) → HasPages file begun old pages
    → (bytes : List ℕ) × EndsAs file pages bytes × GoesOn begun new (HasPut file.put bytes)

-- .. or may have been.
abbrev pub MayPutFile : PageFile → Told → Told → Type 0
MayPutFile file old new =
    (begun : Told) (pages : PageMap) → HasPages file begun old pages
    → (bytes : List ℕ) × EndsAs file pages bytes × GoesOn begun new (MayPut file.put bytes)

-- The first pages of what was found were put, so many of them.
pub record HasFirstPages
    (found : Found) (at : ℕ) (file : PageFile) (begun now : Told) (live_old live_new : live.Told) : Type 0 where
  pub pages : PageMap
  pub has : HasPages file begun now pages
  pub numbers : (p : ℕ) → IsSome (get pages p) ↔ ((k : ℕ) × (k < at) × (number_at found k ≡ p))
  pub shows : ArePagesOf (target_of found) live_old live_new pages

-- wherever the file was begun without a page, so many of its pages are put
abbrev pub PutsPages : Found → ℕ → PageFile → PageFile → Told → Told → live.Told → live.Told → Type 0
PutsPages found at before after old new live_old live_new =
    (begun : Told) → HasPages before begun old empty → HasFirstPages found at after begun new live_old live_new
