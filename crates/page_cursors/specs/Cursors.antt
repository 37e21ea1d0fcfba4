-- The files of a plan, whose pages are given by rising number.
use Rattle.std.specs.Prelude.{◌≡◌, ◌≢◌, ℕ, ◌+◌, ◌-◌, ◌<◌, ◌≤◌, List, map, length, Option, Some, None}
use Rattle.std.specs.Prelude.{slice_get}
use Rattle.crash_disk.specs.Files.{Files, files_after}
use Rattle.crash_disk.specs.Told.{Told, IfTold}
use Rattle.ltx_format.specs.declared.file.LtxFile.{LtxFile}
use Rattle.ltx_reader.specs.declared.progress.Progress.TheVariants.{AtNumber, Ended}
use Rattle.ltx_format.specs.LtxFormat.{change_of}
use Rattle.replica_store.specs.declared.file_name.FileName.{FileName}
use Rattle.replica_store.specs.FileOf.{AreFilesUnder, HavePageSize}
use Rattle.page_cursors.specs.declared.cursor.Cursor.{Cursor}
use Rattle.page_cursors.specs.declared.cursors.Cursors.{Cursors}
use Rattle.page_cursors.specs.Blocks.{Blocks, page_in, last_in}
use Rattle.page_cursors.specs.Cursor.{HasGiven, HaveSize, WaitsNext}
use Rattle.page_cursors.specs.LastPages.{HoldNew, last_commit, last_page}
use Rattle.page_cursors.specs.Opening.{names_of, commits_from}
use Rattle.page_cursors.specs.Queue.{Waits}

-- the names of the plan
abbrev pub plan_of : Cursors → List FileName
plan_of cursors = names_of cursors.cursors.items

-- each cursor has its place in the queue, all files have one page size, and the page has room for one
pub record HaveShape (cursors : Cursors) : Type 0 where
  pub count : length cursors.waiting.numbers ≡ length cursors.cursors.items
  pub sized : HaveSize cursors.size cursors.cursors.items
  pub page : length cursors.page.items ≡ cursors.size

-- the cursors wait with numbers above the last one that was given
pub record AreReady (cursors : Cursors) : Type 0 where
  pub shape : HaveShape cursors
  pub above : (place number : ℕ) → Waits cursors.waiting.numbers place number → cursors.last < number

-- the last file leaves so many pages
abbrev pub EndWith : Cursors → Type 0
EndWith cursors = slice_get (commits_from 0 cursors.cursors.items) (length cursors.cursors.items) ≡ Some cursors.commit

-- The pages were given with rising numbers, each from the last file that has it: these are all pages of the files
-- with a number up to the last one.
pub record HaveGiven (files : Files) (cursors : Cursors) (given : Blocks) : Type 0 where
  pub fronts : List Blocks
  pub count : length fronts ≡ length cursors.cursors.items
  pub each : (place before : ℕ) (cursor : Cursor) (front : Blocks) → slice_get cursors.cursors.items place ≡ Some cursor
      → slice_get (commits_from 0 cursors.cursors.items) place ≡ Some before → slice_get fronts place ≡ Some front
      → HasGiven files cursors.size (cursors.last + 1) before cursor front
  pub waits : (place : ℕ) (cursor : Cursor) (next : Option ℕ) → slice_get cursors.cursors.items place ≡ Some cursor
      → slice_get cursors.waiting.numbers place ≡ Some next → WaitsNext cursor cursors.last next
  pub given_is : (p : ℕ) → page_in given p ≡ last_in fronts p
  pub ends : EndWith cursors

-- All files were read to their ends, and none is damaged. Each holds the pages that no state before it has, and these
-- are the last pages of each number.
pub record HaveRead (files : Files) (cursors : Cursors) (given : Blocks) : Type 0 where
  pub read : List LtxFile
  pub are : AreFilesUnder files (plan_of cursors) read
  pub one_size : HavePageSize cursors.size read
  pub hold : HoldNew 0 (map change_of read)
  pub ends : last_commit 0 (map change_of read) ≡ cursors.commit
  pub pages : (p : ℕ) → page_in given p ≡ last_page (map change_of read) p

-- All files were read to their ends, and none is damaged. These are the last pages of each number, whether or not the
-- files fit one another.
pub record HaveAllRead (files : Files) (cursors : Cursors) (given : Blocks) : Type 0 where
  pub read : List LtxFile
  pub are : AreFilesUnder files (plan_of cursors) read
  pub one_size : HavePageSize cursors.size read
  pub ends : last_commit 0 (map change_of read) ≡ cursors.commit
  pub pages : (p : ℕ) → page_in given p ≡ last_page (map change_of read) p

-- plan, page size and size of the last file are as before
pub record SamePlan (old new : Cursors) : Type 0 where
  pub plan : plan_of new ≡ plan_of old
  pub size : new.size ≡ old.size
  pub commit : new.commit ≡ old.commit

-- ---- while the page of one number is taken

-- the cursors from this place on may still wait with the number, and no cursor with a lesser one
pub record AreTaking (cursors : Cursors) (number from : ℕ) : Type 0 where
  pub shape : HaveShape cursors
  pub least : (place other : ℕ) → Waits cursors.waiting.numbers place other → number ≤ other
  pub later : (place : ℕ) → Waits cursors.waiting.numbers place number → from ≤ place
  pub within : from ≤ length cursors.cursors.items

-- a cursor that waits with a number, of which no lesser one is to come, or has come to its file's end
abbrev pub WaitsFrom : Cursor → Option ℕ → Type 0
WaitsFrom cursor None = cursor.reader.progress ≡ Ended
WaitsFrom cursor (Some next) = cursor.reader.progress ≡ AtNumber next

-- The cursors before this place have given their page of the number, and the last of them that has one gave this
-- page; the others have given those of lesser numbers.
pub record HaveTaken (files : Files) (cursors : Cursors) (number from : ℕ) (given : Blocks) : Type 0 where
  pub fronts : List Blocks
  pub count : length fronts ≡ length cursors.cursors.items
  pub done : (place before : ℕ) (cursor : Cursor) (front : Blocks) → place < from
      → slice_get cursors.cursors.items place ≡ Some cursor
      → slice_get (commits_from 0 cursors.cursors.items) place ≡ Some before → slice_get fronts place ≡ Some front
      → HasGiven files cursors.size (number + 1) before cursor front
  pub rest : (place before : ℕ) (cursor : Cursor) (front : Blocks) → from ≤ place
      → slice_get cursors.cursors.items place ≡ Some cursor
      → slice_get (commits_from 0 cursors.cursors.items) place ≡ Some before → slice_get fronts place ≡ Some front
      → HasGiven files cursors.size number before cursor front
  pub waits : (place : ℕ) (cursor : Cursor) (next : Option ℕ) → slice_get cursors.cursors.items place ≡ Some cursor
      → slice_get cursors.waiting.numbers place ≡ Some next → WaitsFrom cursor next
  pub given_is : (p : ℕ) → p ≢ number → page_in given p ≡ last_in fronts p
  pub not_yet : page_in given number ≡ None
  pub here : 0 < from → (front : Blocks) → slice_get fronts (from - 1) ≡ Some front
      → page_in front number ≡ Some cursors.page.items
  pub ends : EndWith cursors

-- the cursors are as before
pub record IsUntouched (old new : Cursors) : Type 0 where
  pub is : new ≡ record old { waiting = new.waiting }
  pub numbers : new.waiting.numbers ≡ old.waiting.numbers

-- no cursor waits with the number any more, and each that had a page of it has given it
pub record HaveAllTaken (told : Told) (old new : Cursors) (number : ℕ) : Type 0 where
  pub from : ℕ
  pub some : 0 < from
  pub taking : AreTaking new number from
  pub none : (place : ℕ) → Waits new.waiting.numbers place number → ⊥
  pub takes : IfTold told (λ events. (given : Blocks) → HaveTaken (files_after events) old number 0 given
      → HaveTaken (files_after events) new number from given)
