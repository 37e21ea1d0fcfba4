-- One file of a plan, gone through page by page.
use Rattle.std.specs.Prelude.{◌≡◌, ℕ, ◌+◌, ◌<◌, List, [], ◌∷◌, ◌++◌, slice_get, slice_set, Option, Some, None}
use Rattle.crash_disk.specs.Files.{Files}
use Rattle.ls_base.specs.PageSize.{lock_page}
use Rattle.ltx_reader.specs.declared.progress.Progress.TheVariants.{AtNumber, Ended}
use Rattle.ltx_reader.specs.declared.read_fault.ReadFault.{ReadFault}
use Rattle.ltx_reader.specs.Reader.{Reader, IsReaderOf, pages_left, pages_of, TellsFault}
use Rattle.replica_store.specs.declared.file_name.FileName.{FileName}
use Rattle.replica_store.specs.Listing.{path_of, bytes_under}
use Rattle.page_cursors.specs.declared.cursor.Cursor.{Cursor}
use Rattle.page_cursors.specs.Blocks.{Blocks, numbers_of}
use Rattle.page_cursors.specs.Wanted.{AreBelow, Wants}

-- the bytes of the file of this name
abbrev pub bytes_of : Files → FileName → List ℕ
bytes_of files name = bytes_under files (path_of name)

-- why the file of this name could not be read on: its first fault, or a fault of the disk
abbrev pub TellsFileFault : Files → FileName → ReadFault → Type 0
TellsFileFault files name fault = TellsFault (bytes_of files name) fault

-- the reader reads the file of this name
pub record ReadsFile (files : Files) (name : FileName) (reader : Reader) : Type 0 where
  pub named : reader.name ≡ path_of name
  pub reads : IsReaderOf (bytes_of files name) reader

-- the cursor's file has its name's transactions and this page size
pub record IsOpen (files : Files) (size : ℕ) (cursor : Cursor) : Type 0 where
  pub reads : ReadsFile files cursor.name cursor.reader
  pub from_min : cursor.reader.header.min ≡ cursor.name.min
  pub to_max : cursor.reader.header.max ≡ cursor.name.max
  pub sized : cursor.reader.header.size ≡ size

abbrev pub commit_of : Cursor → ℕ
commit_of cursor = cursor.reader.header.commit

-- The cursor has given these pages, each with a number below the bound, and `before` pages are in the state that
-- stands before its file.
pub record HasGiven (files : Files) (size bound before : ℕ) (cursor : Cursor) (front : Blocks) : Type 0 where
  pub open_file : IsOpen files size cursor
  pub split : pages_of (bytes_of files cursor.name) ≡ front ++ pages_left (bytes_of files cursor.name) cursor.reader
  pub low : AreBelow (numbers_of front) bound
  pub within : AreBelow (numbers_of front) (commit_of cursor + 1)
  pub wants : Wants (lock_page size) before (numbers_of front) cursor.wanted

-- the cursor waits with its next number, which is above the last one, or has come to its file's end
abbrev pub WaitsNext : Cursor → ℕ → Option ℕ → Type 0
WaitsNext cursor last None = cursor.reader.progress ≡ Ended
WaitsNext cursor last (Some next) = (cursor.reader.progress ≡ AtNumber next) × (last < next)

-- what the page of this number makes of a cursor that waits with it
pub record GivesPage (files : Files) (number : ℕ) (old new : Cursor) (page : List ℕ) (next : Option ℕ) : Type 0 where
  pub gives : (size before : ℕ) (front : Blocks) → old.reader.progress ≡ AtNumber number
      → HasGiven files size number before old front
      → HasGiven files size (number + 1) before new (front ++ (number, page) ∷ [])
  pub waits : (size before : ℕ) (front : Blocks) → old.reader.progress ≡ AtNumber number
      → HasGiven files size number before old front
      → WaitsNext new number next

-- name and header of the cursor's file are as before
pub record KeepsFile (old new : Cursor) : Type 0 where
  pub name : new.name ≡ old.name
  pub path : new.reader.name ≡ old.reader.name
  pub header : new.reader.header ≡ old.reader.header

-- the reader came to the end of its file, which has no fault
pub record HasEnded (files : Files) (name : FileName) (old new : Reader) : Type 0 where
  pub header : new.header ≡ old.header
  pub ended : ReadsFile files name old → ReadsFile files name new × (new.progress ≡ Ended)

-- each cursor's file has this page size
abbrev pub HaveSize : ℕ → List Cursor → Type 0
HaveSize size cursors = (place : ℕ) (cursor : Cursor) → slice_get cursors place ≡ Some cursor
    → cursor.reader.header.size ≡ size

-- the cursor at the place has moved on in its file
pub record AreMoved (place : ℕ) (old new : List Cursor) : Type 0 where
  pub cursor : Cursor
  pub is : slice_get old place ≡ Some cursor
  pub moved : Cursor
  pub items : new ≡ slice_set old place moved
  pub same : KeepsFile cursor moved

-- and gave its page of the number
pub record GivesAt (files : Files) (number place : ℕ) (old new : List Cursor) (page : List ℕ) (next : Option ℕ) : Type 0
  where
    pub moves : AreMoved place old new
    pub gives : GivesPage files number moves.cursor moves.moved page next

-- or was asked for its first number
pub record AsksAt (files : Files) (place : ℕ) (old new : List Cursor) (next : Option ℕ) : Type 0 where
  pub moves : AreMoved place old new
  pub given : (size before : ℕ) → HasGiven files size 1 before moves.cursor []
      → HasGiven files size 1 before moves.moved []
  pub waits : (size before : ℕ) → HasGiven files size 1 before moves.cursor [] → WaitsNext moves.moved 0 next

-- or it found why it can't
abbrev pub FailsAt : Files → ℕ → List Cursor → ReadFault → Type 0
FailsAt files place cursors fault =
    (cursor : Cursor) → slice_get cursors place ≡ Some cursor → ReadsFile files cursor.name cursor.reader
    → TellsFileFault files cursor.name fault
