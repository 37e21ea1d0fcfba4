-- What a crash may leave of one file.
use Rattle.std.specs.Prelude.{◌≡◌, ℕ, ◌+◌, ◌<◌, ◌≤◌, min, ◌⊎◌, List, [], ◌∷◌, ◌++◌, length, slice_index}
use Rattle.crash_disk.specs.Files.{with_bytes_at, with_length}

-- the places from the start on, up to the end and without it
pub record Range : Type 0 where
  pub start : ℕ
  pub end : ℕ

abbrev pub IsInside : ℕ → Range → Type 0
IsInside place range = (range.start ≤ place) × (place < range.end)

-- it holds of one of them
abbrev pub SomeOf : {A : Type 0} → (A → Type 0) → List A → Type 0
SomeOf P [] = ⊥
SomeOf P (x ∷ xs) = P x ⊎ SomeOf P xs

-- a file: its bytes as they read, its bytes at its last sync, the ranges that were written or grown over
-- since, and the lengths that it had since, both newest first
pub record FileState : Type 0 where
  pub bytes : List ℕ
  pub synced : List ℕ
  pub ranges : List Range
  pub lengths : List ℕ

-- a file of which all is synced; a file that was never synced has no synced bytes
abbrev pub synced_file : List ℕ → FileState
synced_file bytes = record { bytes = bytes; synced = bytes; ranges = []; lengths = length bytes ∷ [] }

-- the file with other bytes, made by a write or a growth in this range
abbrev pub changed_in : Range → List ℕ → FileState → FileState
changed_in range bytes file =
    record file { bytes = bytes; ranges = range ∷ file.ranges; lengths = length bytes ∷ file.lengths }

-- the file with these bytes behind its own
abbrev pub appended : List ℕ → FileState → FileState
appended more file =
    let range : Range = record { start = length file.bytes; end = length file.bytes + length more } in
    changed_in range (file.bytes ++ more) file

-- the file with these bytes written from the offset on; the zeros that fill a gap are a growth
abbrev pub written : ℕ → List ℕ → FileState → FileState
written at bytes file =
    let range : Range = record { start = min at (length file.bytes); end = at + length bytes } in
    changed_in range (with_bytes_at at bytes file.bytes) file

-- the file cut to the length, or grown to it
abbrev pub resized : ℕ → FileState → FileState
resized size file = changed_in (record { start = length file.bytes; end = size }) (with_length size file.bytes) file

-- bytes that a crash may leave of the file: of a length that it had since its last sync, and with its synced
-- bytes but where it was written or grown over since
pub record IsFileImage (file : FileState) (bytes : List ℕ) : Type 0 where
  pub had_length : SomeOf (λ size. length bytes ≡ size) file.lengths
  pub kept : (place : ℕ) → place < length bytes → place < length file.synced
      → (SomeOf (IsInside place) file.ranges → ⊥) → slice_index bytes place ≡ slice_index file.synced place
