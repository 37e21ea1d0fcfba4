-- How an output is written: pieces are gathered and appended to a temporary file, which then gets the name.
use Rattle.std.specs.Prelude.{◌≡◌, ◌≢◌, ℕ, List, [], ◌∷◌, ◌++◌, codes, length, Some, None, ◌⊎◌}
use Rattle.std.specs.FinMap.{get}
use Rattle.std.specs.List.{concat}
use Rattle.crash_disk.specs.declared.event.Event.{Event}
use Rattle.crash_disk.specs.declared.event.Event.TheVariants.{Created, Appended, Synced, Renamed, Removed, NamesSynced}
use Rattle.crash_disk.specs.Files.{Files, file_at}
use Rattle.crash_disk.specs.Images.{WasCrashImageSince}
use Rattle.crash_disk.specs.Stop.{LeavesNothing, LeavesAtMost, Leaves}

-- the record after these pieces were appended to the file, one after another
abbrev pub appended : List ℕ → List (List ℕ) → List Event → List Event
appended name [] events = events
appended name (piece ∷ pieces) events = appended name pieces (Appended name piece ∷ events)

-- nothing but pieces appended to the file came
pub record OnlyAppends (name : List ℕ) (old new : List Event) : Type 0 where
  pub pieces : List (List ℕ)
  pub record_is : new ≡ appended name pieces old

-- What was gathered before and more bytes are, in this order, the pieces that were appended to the file and
-- what is gathered now.
pub record AppendsGathered (name before more now : List ℕ) (old new : List Event) : Type 0 where
  pub pieces : List (List ℕ)
  pub record_is : new ≡ appended name pieces old
  pub bytes : before ++ more ≡ concat pieces ++ now

-- the name under which an output is written, until it is whole
abbrev pub temporary_name : List ℕ → List ℕ
temporary_name name = name ++ codes ".litestream-tmp"

-- the file was made anew and pieces were appended to it
pub record Begins (name : List ℕ) (old new : List Event) : Type 0 where
  pub pieces : List (List ℕ)
  pub record_is : new ≡ appended name pieces (Created name ∷ old)

-- that, or nothing was done
abbrev pub MayBegin : List ℕ → List Event → List Event → Type 0
MayBegin name old new = (new ≡ old) ⊎ Begins name old new

-- the file was made anew, and the pieces that were appended to it are these bytes
pub record Fills (name bytes : List ℕ) (old new : List Event) : Type 0 where
  pub pieces : List (List ℕ)
  pub record_is : new ≡ appended name pieces (Created name ∷ old)
  pub whole : concat pieces ≡ bytes

-- the file of the first name was filled with these bytes and synced, and then it got the second name
pub record Names (temporary name bytes : List ℕ) (old new : List Event) : Type 0 where
  pub filled : List Event
  pub fills : Fills temporary bytes old filled
  pub record_is : new ≡ Renamed temporary name ∷ Synced temporary ∷ filled

-- what may have been done of that
pub data MayName (temporary name bytes : List ℕ) (old new : List Event) : Type 0 where
  Began : MayBegin temporary old new → MayName temporary name bytes old new
  Synchronized : (filled : List Event) → Fills temporary bytes old filled → new ≡ Synced temporary ∷ filled
      → MayName temporary name bytes old new
  Named : Names temporary name bytes old new → MayName temporary name bytes old new

-- the file got its name, and the names were synced
pub record Settles (name bytes : List ℕ) (old new : List Event) : Type 0 where
  pub named : List Event
  pub names : Names (temporary_name name) name bytes old named
  pub record_is : new ≡ NamesSynced ∷ named

-- what may have been done of that; where it failed, the temporary file may have been removed
pub data MaySettle (name bytes : List ℕ) (old new : List Event) : Type 0 where
  Left : MayName (temporary_name name) name bytes old new → MaySettle name bytes old new
  Cleared : (left : List Event) → MayName (temporary_name name) name bytes old left
      → new ≡ Removed (temporary_name name) ∷ left
      → MaySettle name bytes old new

-- The file has these bytes, the temporary file is absent, and each other file is as it was. Where a crash left
-- nothing under the name before, one at any moment since leaves nothing or these bytes, and from now on these bytes.
pub record WritesFile (name bytes : List ℕ) (old new : List Event) : Type 0 where
  pub output : file_at new name ≡ Some bytes
  pub temporary : file_at new (temporary_name name) ≡ None
  pub others : (q : List ℕ) → q ≢ name → q ≢ temporary_name name → file_at new q ≡ file_at old q
  pub at_a_stop : LeavesNothing name old → LeavesAtMost name (λ found. found ≡ bytes) old new
  pub stays : LeavesNothing name old → Leaves name bytes new

-- The file is as it was or has these bytes, and each other file but the temporary one is as it was. Where a crash
-- left nothing under the name before, one at any moment since leaves nothing or these bytes.
pub record MayWriteFile (name bytes : List ℕ) (old new : List Event) : Type 0 where
  pub output : (file_at new name ≡ file_at old name) ⊎ (file_at new name ≡ Some bytes)
  pub others : (q : List ℕ) → q ≢ name → q ≢ temporary_name name → file_at new q ≡ file_at old q
  pub at_a_stop : LeavesNothing name old → LeavesAtMost name (λ found. found ≡ bytes) old new

-- a crash at any moment since the old record leaves nothing under the name
abbrev pub LeavesNothingSince : List ℕ → List Event → List Event → Type 0
LeavesNothingSince name old new = (image : Files) → WasCrashImageSince new (length old) image → get image name ≡ None

-- The file is absent, and each other file but the temporary one is as it was. Where a crash left nothing under the name
-- before, one at any moment since leaves nothing either.
pub record LeavesUnwritten (name : List ℕ) (old new : List Event) : Type 0 where
  pub output : file_at new name ≡ None
  pub others : (q : List ℕ) → q ≢ name → q ≢ temporary_name name → file_at new q ≡ file_at old q
  pub at_a_stop : LeavesNothing name old → LeavesNothingSince name old new

-- that, and the temporary file is absent too
pub record LeavesNoTrace (name : List ℕ) (old new : List Event) : Type 0 where
  pub unwritten : LeavesUnwritten name old new
  pub temporary : file_at new (temporary_name name) ≡ None

-- the file is absent
abbrev pub Lacks : List ℕ → List Event → List Event → Type 0
Lacks name old new = file_at new name ≡ None
