-- The files behind the names, by number: a file's number is the length of the record when it was made.
use Rattle.std.specs.Prelude.{ℕ, Bool, false, if◌then◌else◌, ◌||◌, ◌==◌, List, [], ◌∷◌, length, Option, Some, None}
use Rattle.std.specs.Prelude.{unwrap_or}
use Rattle.std.specs.Option.{option_or}
use Rattle.crash_disk.specs.declared.event.Event.{Event}
use Rattle.crash_disk.specs.declared.event.Event.TheVariants.{Placed, Created, Appended, Wrote, Cut, Synced, Renamed}
use Rattle.crash_disk.specs.declared.event.Event.TheVariants.{Removed, NamesSynced}
use Rattle.crash_disk.specs.Files.{is_name}
use Rattle.crash_disk.specs.FileState.{FileState, synced_file, appended, written, resized}

-- the number of the file at the name, if there is one
unfoldable pub number_at : List Event → List ℕ → Option ℕ
number_at [] q = None
number_at (Placed name bytes ∷ events) q = if is_name q name then Some (length events) else number_at events q
number_at (Created name ∷ events) q =
    if is_name q name then Some (unwrap_or (number_at events name) (length events)) else number_at events q
number_at (Appended name bytes ∷ events) q = number_at events q
number_at (Wrote name at bytes ∷ events) q = number_at events q
number_at (Cut name size ∷ events) q = number_at events q
number_at (Synced name ∷ events) q = number_at events q
number_at (Renamed from to ∷ events) q =
    if is_name q to
    then option_or (number_at events from) (number_at events q)
    else (if is_name q from then None else number_at events q)
number_at (Removed name ∷ events) q = if is_name q name then None else number_at events q
number_at (NamesSynced ∷ events) q = number_at events q

-- the numbers, or none, that the name had since the names were synced, newest first; a placed file's name
-- counts as synced
unfoldable pub numbers_at : List Event → List ℕ → List (Option ℕ)
numbers_at [] q = None ∷ []
numbers_at (Placed name bytes ∷ events) q = if is_name q name then Some (length events) ∷ [] else numbers_at events q
numbers_at (Created name ∷ events) q =
    if is_name q name then number_at (Created name ∷ events) q ∷ numbers_at events q else numbers_at events q
numbers_at (Appended name bytes ∷ events) q = numbers_at events q
numbers_at (Wrote name at bytes ∷ events) q = numbers_at events q
numbers_at (Cut name size ∷ events) q = numbers_at events q
numbers_at (Synced name ∷ events) q = numbers_at events q
numbers_at (Renamed from to ∷ events) q =
    if is_name q to || is_name q from
    then number_at (Renamed from to ∷ events) q ∷ numbers_at events q
    else numbers_at events q
numbers_at (Removed name ∷ events) q = if is_name q name then None ∷ numbers_at events q else numbers_at events q
numbers_at (NamesSynced ∷ events) q = number_at events q ∷ []

-- whether the number stands there
abbrev pub is_number : ℕ → Option ℕ → Bool
is_number n None = false
is_number n (Some k) = n == k

-- the file changed, if its number stands there
abbrev pub changed_at : Option ℕ → (FileState → FileState) → ℕ → FileState → FileState
changed_at there f n file = if is_number n there then f file else file

-- the file of this number; one that isn't made yet is empty
unfoldable pub file_of : List Event → ℕ → FileState
file_of [] n = synced_file []
file_of (Placed name bytes ∷ events) n = if n == length events then synced_file bytes else file_of events n
file_of (Created name ∷ events) n = changed_at (number_at events name) (resized 0) n (file_of events n)
file_of (Appended name bytes ∷ events) n = changed_at (number_at events name) (appended bytes) n (file_of events n)
file_of (Wrote name at bytes ∷ events) n = changed_at (number_at events name) (written at bytes) n (file_of events n)
file_of (Cut name size ∷ events) n = changed_at (number_at events name) (resized size) n (file_of events n)
file_of (Synced name ∷ events) n =
    changed_at (number_at events name) (λ file. synced_file file.bytes) n (file_of events n)
file_of (Renamed from to ∷ events) n = file_of events n
file_of (Removed name ∷ events) n = file_of events n
file_of (NamesSynced ∷ events) n = file_of events n
