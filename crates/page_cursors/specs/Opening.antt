-- The files of a plan, opened up to the first that can't be taken in.
use Rattle.std.specs.Prelude.{◌≡◌, ℕ, ◌||◌, ◌==◌, not, if◌then◌else◌, List, [], ◌∷◌, ◌++◌, map, Option, Some}
use Rattle.std.specs.Prelude.{None, unwrap_or, slice_get, ⊤}
use Rattle.crash_disk.specs.Files.{Files}
use Rattle.ls_base.specs.Change.{Change}
use Rattle.ltx_format.specs.declared.header.LtxHeader.{LtxHeader}
use Rattle.ltx_reader.specs.declared.progress.Progress.TheVariants.{Going}
use Rattle.ltx_format.specs.LtxFormat.{IsLtxFile}
use Rattle.ltx_reader.specs.Reader.{Reader}
use Rattle.replica_store.specs.declared.error.Damage.{Damage}
use Rattle.replica_store.specs.declared.error.Damage.TheVariants.{NameDiffers, SizeDiffers}
use Rattle.replica_store.specs.declared.file_name.FileName.{FileName}
use Rattle.replica_store.specs.FileOf.{IsDamage}
use Rattle.page_cursors.specs.declared.cursor.Cursor.{Cursor}
use Rattle.page_cursors.specs.declared.fault.CursorsFault.{CursorsFault}
use Rattle.page_cursors.specs.declared.fault.CursorsFault.TheVariants.{Damaged, PageMissing, Store, Memory}
use Rattle.page_cursors.specs.declared.opening.Found.{Found}
use Rattle.page_cursors.specs.declared.opening.Found.TheVariants.{Taken, Left}
use Rattle.page_cursors.specs.declared.opening.Odd.{Odd}
use Rattle.page_cursors.specs.declared.opening.Opened.{Opened}
use Rattle.page_cursors.specs.Cursor.{bytes_of, ReadsFile, HasGiven, commit_of}

-- what is wrong with a file of the header under the name, behind files of this page size
abbrev pub size_doubt : ℕ → Option ℕ → Option Damage
size_doubt own None = None
size_doubt own (Some size) = if size == own then None else Some SizeDiffers

abbrev pub doubt_of : LtxHeader → FileName → Option ℕ → Option Damage
doubt_of header name size =
    if not (header.min == name.min) || not (header.max == name.max) then Some NameDiffers else size_doubt header.size
    size

-- A file of the plan that isn't taken in: this is what is wrong with it, and where it is still to be read, it is
-- what is wrong unless the file has a fault.
pub record IsOdd (files : Files) (size : ℕ) (odd : Odd) : Type 0 where
  pub surely : odd.reader ≡ None → IsDamage (bytes_of files odd.name) odd.name size odd.damage
  pub reads : (reader : Reader) → odd.reader ≡ Some reader → ReadsFile files odd.name reader
  pub unless : (reader : Reader) (c : Change) → odd.reader ≡ Some reader
      → IsLtxFile (bytes_of files odd.name) reader.header c
      → IsDamage (bytes_of files odd.name) odd.name size odd.damage

-- what is wrong with it after all; for its page size it is left only where it was
pub record IsOddDamage (files : Files) (size : ℕ) (odd : Odd) (damage : Damage) : Type 0 where
  pub damaged : IsDamage (bytes_of files odd.name) odd.name size damage
  pub same : damage ≡ SizeDiffers → odd.damage ≡ SizeDiffers

abbrev pub names_of : List Cursor → List FileName
names_of cursors = map (λ cursor. cursor.name) cursors

-- how many pages the state has that stands before each file, and after the last
abbrev pub commits_from : ℕ → List Cursor → List ℕ
commits_from before cursors = before ∷ map commit_of cursors

-- the cursors stand before the first pages of their files
abbrev pub HaveBegun : Files → ℕ → ℕ → List Cursor → Type 0
HaveBegun files size before cursors =
    (place commit : ℕ) (cursor : Cursor) → slice_get cursors place ≡ Some cursor
    → slice_get (commits_from before cursors) place ≡ Some commit
    → HasGiven files size 1 commit cursor [] × (cursor.reader.progress ≡ Going)

-- The plan's files are those of the cursors and, behind them, one that isn't taken in, if there is one. The first
-- file has no other page size than the first.
abbrev pub CoversPlan : Files → ℕ → List FileName → List Cursor → Option Odd → Type 0
CoversPlan files size plan cursors None = names_of cursors ≡ plan
CoversPlan files size plan cursors (Some odd) =
    ((rest : List FileName) × (plan ≡ names_of cursors ++ odd.name ∷ rest))
    × (cursors ≡ [] → odd.damage ≡ SizeDiffers → ⊥) × IsOdd files size odd

pub record AreOpened (files : Files) (plan : List FileName) (opened : Opened) : Type 0 where
  pub size : ℕ
  pub begun : HaveBegun files size 0 opened.cursors.items
  pub covers : CoversPlan files size plan opened.cursors.items opened.odd

-- What was found under the name, behind files of this page size and so many pages. Where there is no file before, none
-- is left for its page size.
abbrev pub IsFound : Files → FileName → Option ℕ → ℕ → Found → Type 0
IsFound files name size pages (Taken cursor) =
    (cursor.name ≡ name) × HasGiven files cursor.reader.header.size 1 pages cursor [] × (cursor.reader.progress ≡ Going)
IsFound files name size pages (Left odd) =
    (odd.name ≡ name) × (size ≡ None → odd.damage ≡ SizeDiffers → ⊥) × IsOdd files (unwrap_or size 0) odd

-- a file that was taken has this page size
abbrev pub HasSizeOf : Option ℕ → Found → Type 0
HasSizeOf size (Taken cursor) = unwrap_or size cursor.reader.header.size ≡ cursor.reader.header.size
HasSizeOf size (Left odd) = ⊤

-- the file that was found is the one of the name
abbrev pub IsNamed : FileName → Found → Type 0
IsNamed name (Taken cursor) = cursor.name ≡ name
IsNamed name (Left odd) = odd.name ≡ name

-- opening finds no damage by itself
abbrev pub ExplainsOpening : CursorsFault → Type 0
ExplainsOpening (Damaged name damage) = ⊥
ExplainsOpening (PageMissing name number) = ⊥
ExplainsOpening (Store fault) = ⊤
ExplainsOpening Memory = ⊤
