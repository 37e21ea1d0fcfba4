-- The files as they read, by the record of changes.
use Rattle.std.specs.Prelude.{◌≡◌, ℕ, ◌+◌, ◌-◌, min, Bool, List, [], ◌∷◌, ◌++◌, length, take, drop, replicate, Option}
use Rattle.std.specs.Prelude.{Some, None, option_map, unwrap_or, IsSome}
use Rattle.std.specs.List.Sorted.{IsPermutation}
use Rattle.std.specs.Ordering.{nat_cmp, eq_by_cmp}
use Rattle.std.specs.Cmp.Lexicographic.{slice_cmp}
use Rattle.std.specs.FinMap.{FinMap, get, insert, remove, empty, keys}
use Rattle.crash_disk.specs.declared.event.Event.{Event}
use Rattle.crash_disk.specs.declared.event.Event.TheVariants.{Placed, Created, Appended, Wrote, Cut, Synced, Renamed}
use Rattle.crash_disk.specs.declared.event.Event.TheVariants.{Removed, NamesSynced}

-- files by name; names and contents are lists of bytes
abbrev pub Files : Type 0
Files = FinMap (slice_cmp nat_cmp) (List ℕ)

-- the test of two names for being the same
abbrev pub is_name : List ℕ → List ℕ → Bool
is_name q name = eq_by_cmp (slice_cmp nat_cmp) q name

-- the bytes with these written from the offset on; zeros fill a gap
abbrev pub with_bytes_at : ℕ → List ℕ → List ℕ → List ℕ
with_bytes_at at bytes old = take at (old ++ replicate (at - length old) 0) ++ bytes ++ drop (at + length bytes) old

-- the bytes cut to the length, or grown to it by zeros
abbrev pub with_length : ℕ → List ℕ → List ℕ
with_length size old = take size old ++ replicate (size - length old) 0

-- the file of this name changed, where there is one
abbrev pub changed : Files → List ℕ → Option (List ℕ) → (List ℕ → List ℕ) → Files
changed files name None f = files
changed files name (Some old) f = insert files name (f old)

-- the file under the first name moved to the second, where there is one
abbrev pub moved : Files → List ℕ → List ℕ → Option (List ℕ) → Files
moved files from to None = files
moved files from to (Some bytes) = insert (remove files from) to bytes

-- the same of the file that has the name now
abbrev pub changed_now : Files → List ℕ → (List ℕ → List ℕ) → Files
changed_now files name f = changed files name (get files name) f

-- the files after these changes, the newest first
unfoldable pub files_after : List Event → Files
files_after [] = empty
files_after (Placed name bytes ∷ events) = insert (files_after events) name bytes
files_after (Created name ∷ events) = insert (files_after events) name []
files_after (Appended name bytes ∷ events) = changed_now (files_after events) name (λ old. old ++ bytes)
files_after (Wrote name at bytes ∷ events) = changed_now (files_after events) name (with_bytes_at at bytes)
files_after (Cut name size ∷ events) = changed_now (files_after events) name (with_length size)
files_after (Synced name ∷ events) = files_after events
files_after (Renamed from to ∷ events) = moved (files_after events) from to (get (files_after events) from)
files_after (Removed name ∷ events) = remove (files_after events) name
files_after (NamesSynced ∷ events) = files_after events

-- the file of this name, if there is one
abbrev pub file_at : List Event → List ℕ → Option (List ℕ)
file_at events name = get (files_after events) name

-- its length
abbrev pub size_of : List Event → List ℕ → Option ℕ
size_of events name = option_map length (file_at events name)

pub record IsThere (events : List Event) (name : List ℕ) : Type 0 where
  pub there : IsSome (file_at events name)

-- n bytes of the file from the offset on stand at the front of new, as many as old has room for or the
-- file has there, and the rest of new is that of old; an absent name counts as no bytes
pub record IsReadOf (events : List Event) (name : List ℕ) (at : ℕ) (old new : List ℕ) (n : ℕ) : Type 0 where
  pub count : n ≡ min (length old) (length (unwrap_or (file_at events name) []) - at)
  pub bytes : new ≡ take n (drop at (unwrap_or (file_at events name) [])) ++ drop n old

-- the names are those of the files, each once, in some order
pub record AreNamesOf (events : List Event) (names : List (List ℕ)) : Type 0 where
  pub each : IsPermutation (keys (files_after events)) names
