-- Which fault of a plan's files is told.
use Rattle.std.specs.Prelude.{◌≡◌, ℕ, ◌+◌, ◌<◌, ◌≤◌, List, [], ◌∷◌, ◌++◌, take, slice_get, Some}
use Rattle.crash_disk.specs.Files.{Files}
use Rattle.crash_disk.specs.Told.{Told}
use Rattle.ltx_format.specs.declared.fault.LtxFault.{LtxFault}
use Rattle.ltx_format.specs.FirstFault.{first_fault}
use Rattle.replica_store.specs.declared.error.Damage.{Damage}
use Rattle.replica_store.specs.declared.error.Damage.TheVariants.{SizeDiffers}
use Rattle.replica_store.specs.declared.file_name.FileName.{FileName}
use Rattle.replica_store.specs.FileOf.{IsDamage}
use Rattle.page_cursors.specs.declared.cursor.Cursor.{Cursor}
use Rattle.page_cursors.specs.declared.fault.CursorsFault.{CursorsFault}
use Rattle.page_cursors.specs.declared.fault.CursorsFault.TheVariants.{Damaged, PageMissing, Store, Memory}
use Rattle.page_cursors.specs.Cursor.{bytes_of, IsOpen, commit_of}
use Rattle.page_cursors.specs.Fault.{Blames}
use Rattle.page_cursors.specs.Opening.{names_of}
use Rattle.page_cursors.specs.Wanted.{AreBelow, Wants, HoldsAll, IsFirstLacking}

-- the cursors read files of this page size that have their names' transactions
abbrev pub AreOpen : Files → ℕ → List Cursor → Type 0
AreOpen files size cursors = (place : ℕ) (cursor : Cursor) → slice_get cursors place ≡ Some cursor
    → IsOpen files size cursor

-- what is wrong with the file of this name, behind those of the cursors
pub record IsDamageBehind (files : Files) (size : ℕ) (cursors : List Cursor) (name : FileName)
    (damage : Damage) : Type 0
  where
    pub first : cursors ≡ [] → damage ≡ SizeDiffers → ⊥
    pub damaged : IsDamage (bytes_of files name) name size damage

-- the fault blames the first file of the plan that is damaged, where the one of this name is
abbrev pub FindsFault : Files → Told → ℕ → List Cursor → FileName → Damage → CursorsFault → Type 0
FindsFault files told size cursors name damage fault =
    AreOpen files size cursors → IsDamageBehind files size cursors name damage → (rest : List FileName)
    → Blames told (names_of cursors ++ name ∷ rest) fault

-- the same where the file at this place has the fault
abbrev pub BlamesAt : Files → Told → ℕ → List Cursor → ℕ → LtxFault → CursorsFault → Type 0
BlamesAt files told size cursors place found fault =
    (cursor : Cursor) → slice_get cursors place ≡ Some cursor → AreOpen files size (take place cursors)
    → first_fault (bytes_of files cursor.name) ≡ Some found → Blames told (names_of cursors) fault

-- the file of the cursor holds each page that it must hold, where it has given these numbers
abbrev pub HoldsEach : Cursor → Type 0
HoldsEach cursor =
    (lock above : ℕ) (numbers : List ℕ) → AreBelow numbers (commit_of cursor + 1)
    → Wants lock above numbers cursor.wanted
    → HoldsAll lock above numbers (commit_of cursor)

abbrev pub AllHold : List Cursor → Type 0
AllHold cursors = (place : ℕ) (cursor : Cursor) → slice_get cursors place ≡ Some cursor → HoldsEach cursor

-- the file of the cursor lacks this page, the first that it must hold and doesn't
abbrev pub LacksFirst : Cursor → ℕ → Type 0
LacksFirst cursor number =
    (lock above : ℕ) (numbers : List ℕ) → AreBelow numbers (commit_of cursor + 1)
    → Wants lock above numbers cursor.wanted
    → IsFirstLacking lock above numbers number × (number ≤ commit_of cursor)

-- the first cursor whose file lacks a page
pub record IsLackingAt (cursors : List Cursor) (name : FileName) (number : ℕ) : Type 0 where
  pub place : ℕ
  pub cursor : Cursor
  pub is : slice_get cursors place ≡ Some cursor
  pub named : name ≡ cursor.name
  pub before : (k : ℕ) (other : Cursor) → k < place → slice_get cursors k ≡ Some other → HoldsEach other
  pub lacks : LacksFirst cursor number

abbrev pub LacksAt : List Cursor → CursorsFault → Type 0
LacksAt cursors (Damaged name damage) = ⊥
LacksAt cursors (PageMissing name number) = IsLackingAt cursors name number
LacksAt cursors (Store fault) = ⊥
LacksAt cursors Memory = ⊥
