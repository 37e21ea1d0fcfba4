-- A merged file that is being written, and the pages that are taken from its run's files.
use Rattle.std.specs.Prelude.{◌≡◌, ℕ, ◌<◌, List, [], ◌∷◌, ◌++◌, map, None, ◌⊎◌}
use Rattle.std.specs.FinMap.{get}
use Rattle.std.specs.FinMap as pages_by_number
use Rattle.crash_disk.specs.declared.event.Event.{Event}
use Rattle.crash_disk.specs.Files.{Files, files_after}
use Rattle.crash_disk.specs.GoesOn.{GoesOn}
use Rattle.crash_disk.specs.Told.{Told, IfTold}
use Rattle.ltx_format.specs.declared.header.LtxHeader.{LtxHeader}
use Rattle.ltx_format.specs.declared.file.LtxFile.{LtxFile}
use Rattle.ltx_format.specs.LtxFormat.{IsLtxFile, IsStored, change_of, header_bytes, page_blocks}
use Rattle.ltx_format.specs.Writing.{PageMap, Indexed, HasIndexed, IsWhole, change_with}
use Rattle.page_cursors.specs.Blocks.{Blocks, page_in}
use Rattle.page_cursors.specs.declared.cursors.Cursors.{Cursors}
use Rattle.page_cursors.specs.Cursors.{HaveGiven}
use Rattle.page_cursors.specs.LastPages.{HoldNew, last_page}
use Rattle.page_cursors.specs.PlanFiles.{IsFirstDamaged, IsFirstMissing}
use Rattle.replica_store.specs.declared.file_name.FileName.{FileName}
use Rattle.replica_store.specs.FileOf.{AreFilesUnder, HavePageSize}
use Rattle.replica_store.specs.Listing.{path_of}
use Rattle.replica_store.specs.Putting.{KeepsOthers, IsPutting, Puts, HasPut}
use Rattle.compact_levels.specs.declared.draft.Draft.{Draft}
use Rattle.compact_levels.specs.declared.merge_fault.MergeFault.{MergeFault}
use Rattle.compact_levels.specs.declared.merge_fault.MergeFault.TheVariants.{Damaged, PageMissing, Store, Memory}

-- ---- the file

-- the header of the file
abbrev pub header_of : Draft → LtxHeader
header_of draft = draft.writer.written.header

-- Since it was begun, the file was given these pages: its header's bytes and their blocks were put, but for the last of
-- them, which are gathered.
pub record IsDrafting (begun now : Told) (draft : Draft) (pages : PageMap) : Type 0 where
  pub has : HasIndexed draft.writer pages
  pub written : List ℕ
  pub put : GoesOn begun now (IsPutting draft.put written)
  pub all : header_bytes (header_of draft) ++ page_blocks pages ≡ written ++ draft.piece.items

-- since some moment the disk has done nothing but put some bytes into the temporary file of this path
pub record IsBeingPut (path : List ℕ) (now : Told) : Type 0 where
  pub begun : Told
  pub written : List ℕ
  pub put : GoesOn begun now (IsPutting path written)

-- whatever pages were given, this holds then
abbrev pub WithDraft : Draft → Told → (Told → PageMap → Type 0) → Type 0
WithDraft draft old Holds = (begun : Told) (pages : PageMap) → IsDrafting begun old draft pages → Holds begun pages

-- header and path are as before
pub record IsSameFile (old new : Draft) : Type 0 where
  pub header : header_of new ≡ header_of old
  pub put : new.put ≡ old.put

-- the bytes are the file of this header and these pages, where it may be one
abbrev pub IsFileWith : LtxHeader → PageMap → List ℕ → Type 0
IsFileWith h pages bytes = IsWhole h pages → IsLtxFile bytes h (change_with h pages)

-- the file was put
pub record HasPutDraft (path : List ℕ) (h : LtxHeader) (pages : PageMap) (before now : List Event) : Type 0 where
  pub bytes : List ℕ
  pub file : IsFileWith h pages bytes
  pub put : HasPut path bytes before now

-- it is there, though a crash may leave what was there before
pub record MayHavePutDraft (path : List ℕ) (h : LtxHeader) (pages : PageMap) (before now : List Event) : Type 0 where
  pub bytes : List ℕ
  pub file : IsFileWith h pages bytes
  pub put : Puts path bytes before now

-- the gathered bytes and the file's end were put behind those before, which are then the file
abbrev pub EndsDraft : List ℕ → List ℕ → Indexed → Told → Told → Type 0
EndsDraft path piece writer old new =
    (begun : Told) (pages : PageMap) (written : List ℕ) → HasIndexed writer pages
    → GoesOn begun old (IsPutting path written)
    → header_bytes writer.written.header ++ page_blocks pages ≡ written ++ piece
    → (bytes : List ℕ) × IsFileWith writer.written.header pages bytes × GoesOn begun new (IsPutting path bytes)

-- the disk failed, or there was no memory
abbrev pub IsOfDiskOrMemory : MergeFault → Type 0
IsOfDiskOrMemory (Damaged name damage) = ⊥
IsOfDiskOrMemory (PageMissing name number) = ⊥
IsOfDiskOrMemory (Store fault) = Unit {0}
IsOfDiskOrMemory Memory = Unit {0}

-- why it wasn't finished, and what stands then
abbrev pub LeavesDraft : List ℕ → LtxHeader → PageMap → MergeFault → List Event → List Event → Type 0
LeavesDraft path h pages (Damaged name damage) before now = ⊥
LeavesDraft path h pages (PageMissing name number) before now = ⊥
LeavesDraft path h pages (Store fault) before now =
    KeepsOthers path before now ⊎ MayHavePutDraft path h pages before now
LeavesDraft path h pages Memory before now = KeepsOthers path before now

-- ---- the pages

-- the pages that were given and may stand in a file of this header
pub record AreCopied (h : LtxHeader) (given : Blocks) (pages : PageMap) : Type 0 where
  pub stored : (p : ℕ) → IsStored h p → get pages p ≡ page_in given p
  pub others : (p : ℕ) → (IsStored h p → ⊥) → get pages p ≡ None

-- the path is that of a name
pub record IsPathOf (path : List ℕ) : Type 0 where
  pub name : FileName
  pub is : path ≡ path_of name

-- the cursors gave these pages of the files as they were, and the file was given those that may stand in it
pub record IsCopying (begun now : Told) (cursors : Cursors) (draft : Draft) (given : Blocks) (pages : PageMap) : Type 0
  where
    pub named : IsPathOf draft.put
    pub gives : IfTold begun (λ events. HaveGiven (files_after events) cursors given)
    pub low : (p : ℕ) → cursors.last < p → page_in given p ≡ None
    pub drafting : IsDrafting begun now draft pages
    pub copied : AreCopied (header_of draft) given pages

-- the same before the first page
abbrev pub BeginsCopying : Told → Told → Cursors → Draft → Type 0
BeginsCopying begun now cursors draft = IsCopying begun now cursors draft [] pages_by_number.empty

-- some pages were
pub record IsCopyingSome (begun now : Told) (cursors : Cursors) (draft : Draft) : Type 0 where
  pub given : Blocks
  pub pages : PageMap
  pub is : IsCopying begun now cursors draft given pages

-- the cursors gave the page of this number next
abbrev pub Gives : Told → Cursors → Cursors → ℕ → Type 0
Gives now old new number =
    IfTold now (λ events. (given : Blocks) → HaveGiven (files_after events) old given
    → HaveGiven (files_after events) new (given ++ (number, new.page.items) ∷ []))

-- whatever was copied before, this page is too where the file may hold it
abbrev pub CopiesPage : Told → Told → Draft → Draft → Cursors → ℕ → Type 0
CopiesPage old_told now draft longer cursors number =
    (begun : Told) (old : Cursors) → IsCopyingSome begun old_told old draft → old.last < number → cursors.last ≡ number
    → Gives old_told old cursors number → IsCopyingSome begun now cursors longer

-- All files of the plan were read to their ends, and none is damaged. These are the last pages of each number. Where
-- they begin with transaction 1, each holds the pages that no state before it has.
pub record HaveCopied (min : ℕ) (files : Files) (plan : List FileName) (size : ℕ) (given : Blocks) : Type 0 where
  pub read : List LtxFile
  pub are : AreFilesUnder files plan read
  pub one_size : HavePageSize size read
  pub pages : (p : ℕ) → page_in given p ≡ last_page (map change_of read) p
  pub hold : min ≡ 1 → HoldNew 0 (map change_of read)

-- the file was given all pages of the plan's files that may stand in it
pub record HasCopied (begun now : Told) (min : ℕ) (plan : List FileName) (size : ℕ) (draft : Draft) : Type 0 where
  pub given : Blocks
  pub pages : PageMap
  pub drafting : IsDrafting begun now draft pages
  pub copied : AreCopied (header_of draft) given pages
  pub read : IfTold begun (λ events. HaveCopied min (files_after events) plan size given)

-- why not all were given, and what stands then
abbrev pub StopsCopying : ℕ → List FileName → List ℕ → MergeFault → List Event → List Event → Type 0
StopsCopying min plan path (Damaged name damage) before now =
    IsFirstDamaged (files_after before) plan name damage × KeepsOthers path before now
StopsCopying min plan path (PageMissing name number) before now =
    (min ≡ 1) × IsFirstMissing (files_after before) plan name number × KeepsOthers path before now
StopsCopying min plan path (Store fault) before now = KeepsOthers path before now
StopsCopying min plan path Memory before now = KeepsOthers path before now
