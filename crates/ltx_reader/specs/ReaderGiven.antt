-- How many bytes a reader takes from its disk.
use Rattle.std.specs.Prelude.{◌≡◌, ◌⊎◌, ℕ, ◌+◌, ◌-◌, ◌*◌, ◌≤◌, List, length, Option, if◌then◌else◌}
use Rattle.crash_disk.specs.Told.{gives}
use Rattle.ltx_format.specs.declared.header.LtxHeader.{LtxHeader}
use Rattle.ltx_reader.specs.declared.progress.Progress.{Progress}
use Rattle.ltx_reader.specs.declared.progress.Progress.TheVariants.{Going, AtNumber, Ended, Failed}
use Rattle.ltx_reader.specs.Reader.{Reader, next_block, read_to}

-- the count of bytes that a disk gave rose by no more than so many
pub record GivesAtMost (most : ℕ) (before now : Option ℕ) : Type 0 where
  pub more : ℕ
  pub within : more ≤ most
  pub is : (now ≡ before) ⊎ (now ≡ gives before more)

-- the numbers of the blocks, which the reader of an indexed file reads once more beside the index
abbrev pub bytes_again : LtxHeader → ℕ → ℕ
bytes_again header count = if header.index then 4 * count else 0

-- the offset up to which the reader has read its file
abbrev pub read_so_far : Reader → ℕ
read_so_far reader = read_to (next_block reader) reader.progress

-- how many bytes a call takes at most: what is left of the file, and where the blocks end, the numbers again
abbrev pub bytes_to_come : List ℕ → Reader → Progress → ℕ
bytes_to_come bytes reader Going = length bytes - next_block reader + bytes_again reader.header reader.count
bytes_to_come bytes reader (AtNumber n) = length bytes - (next_block reader + 6)
bytes_to_come bytes reader Ended = 0
bytes_to_come bytes reader (Failed fault) = 0

abbrev pub bytes_left : List ℕ → Reader → ℕ
bytes_left bytes reader = bytes_to_come bytes reader reader.progress

-- one page more was given, and the reader stands before a block
pub record HasCounted (old new : Reader) : Type 0 where
  pub count : new.count ≡ old.count + 1
  pub going : new.progress ≡ Going
