-- What it costs to read the files of a plan once: page blocks, and bytes that their disk gives.
use Rattle.std.specs.Prelude.{◌≡◌, ◌⊎◌, ℕ, ◌+◌, ◌-◌, ◌*◌, ◌≤◌, List, [], ◌∷◌, length, Option, Some, None}
use Rattle.std.specs.Prelude.{if◌then◌else◌, ⊤}
use Rattle.crash_disk.specs.Files.{Files}
use Rattle.crash_disk.specs.Told.{gives}
use Rattle.ltx_format.specs.FirstFault.{has_index}
use Rattle.ltx_reader.specs.declared.progress.Progress.{Progress}
use Rattle.ltx_reader.specs.declared.progress.Progress.TheVariants.{Going, AtNumber, Ended, Failed}
use Rattle.ltx_reader.specs.Reader.{Reader, next_block, pages_left, pages_of}
use Rattle.replica_store.specs.declared.file_name.FileName.{FileName}
use Rattle.page_cursors.specs.declared.cursor.Cursor.{Cursor}
use Rattle.page_cursors.specs.declared.opening.Found.{Found}
use Rattle.page_cursors.specs.declared.opening.Found.TheVariants.{Taken, Left}
use Rattle.page_cursors.specs.declared.opening.Odd.{Odd}
use Rattle.page_cursors.specs.declared.opening.Opened.{Opened}
use Rattle.page_cursors.specs.Cursor.{bytes_of, ReadsFile}

-- page blocks that are read, and bytes
pub record Cost : Type 0 where
  pub blocks : ℕ
  pub bytes : ℕ

abbrev pub nothing : Cost
nothing = record { blocks = 0; bytes = 0 }

abbrev pub both : Cost → Cost → Cost
both a b = record { blocks = a.blocks + b.blocks; bytes = a.bytes + b.bytes }

-- the numbers of the blocks, which are read once more beside the index of a file that has one
abbrev pub numbers_again : List ℕ → ℕ
numbers_again bytes = if has_index bytes then 4 * length (pages_of bytes) else 0

-- a file costs its page blocks; and its bytes, with those numbers
abbrev pub file_cost : List ℕ → Cost
file_cost bytes = record { blocks = length (pages_of bytes); bytes = length bytes + numbers_again bytes }

abbrev pub plan_cost : Files → List FileName → Cost
plan_cost files [] = nothing
plan_cost files (name ∷ plan) = both (file_cost (bytes_of files name)) (plan_cost files plan)

-- Of what was left, the steps that were taken and the bytes that were given are no more than what isn't left now.
pub record Takes (before now : Cost) (steps_before steps_now : ℕ) (given_before given_now : Option ℕ) : Type 0 where
  pub steps : steps_now + now.blocks ≤ steps_before + before.blocks
  pub more : ℕ
  pub within : more + now.bytes ≤ before.bytes
  pub is : (given_now ≡ given_before) ⊎ (given_now ≡ gives given_before more)

-- ---- what is left

-- of a file that was read up to the offset
abbrev pub cost_from : List ℕ → Reader → ℕ → Cost
cost_from bytes reader at =
    record { blocks = length (pages_left bytes reader); bytes = length bytes - at + numbers_again bytes }

abbrev pub cost_by : List ℕ → Reader → Progress → Cost
cost_by bytes reader Going = cost_from bytes reader (next_block reader)
cost_by bytes reader (AtNumber n) = cost_from bytes reader (next_block reader + 6)
cost_by bytes reader Ended = nothing
cost_by bytes reader (Failed fault) = nothing

abbrev pub cost_left : List ℕ → Reader → Cost
cost_left bytes reader = cost_by bytes reader reader.progress

abbrev pub left_of : Files → Cursor → Cost
left_of files cursor = cost_left (bytes_of files cursor.name) cursor.reader

-- of the files of all cursors
abbrev pub left_of_all : Files → List Cursor → Cost
left_of_all files [] = nothing
left_of_all files (cursor ∷ rest) = both (left_of files cursor) (left_of_all files rest)

-- of so many pages a reader that isn't at its end gave no more than those that aren't left
abbrev pub CountsWithin : ℕ → ℕ → ℕ → Progress → Type 0
CountsWithin all count left Going = count + left ≤ all
CountsWithin all count left (AtNumber n) = count + left ≤ all
CountsWithin all count left Ended = ⊤
CountsWithin all count left (Failed fault) = ⊤

abbrev pub CountsPages : List ℕ → Reader → Type 0
CountsPages bytes reader =
    CountsWithin (length (pages_of bytes)) reader.count (length (pages_left bytes reader)) reader.progress

-- the reader reads the file of this name, and counts its pages
pub record IsCounted (files : Files) (name : FileName) (reader : Reader) : Type 0 where
  pub reads : ReadsFile files name reader
  pub count : CountsPages (bytes_of files name) reader

abbrev pub AreCounted : Files → List Cursor → Type 0
AreCounted files [] = ⊤
AreCounted files (cursor ∷ rest) = IsCounted files cursor.name cursor.reader × AreCounted files rest

-- the same of a file that isn't taken in, where it is still to be read
abbrev pub OddIsCounted : Files → FileName → Option Reader → Type 0
OddIsCounted files name None = ⊤
OddIsCounted files name (Some reader) = IsCounted files name reader

abbrev pub odd_left : Files → FileName → Option Reader → Cost
odd_left files name None = nothing
odd_left files name (Some reader) = cost_left (bytes_of files name) reader

-- what was found under the name is counted, and costs no more than the file
abbrev pub FoundCosts : Files → FileName → Found → Option ℕ → Option ℕ → Type 0
FoundCosts files name (Taken cursor) before now =
    IsCounted files cursor.name cursor.reader
    × Takes (file_cost (bytes_of files name)) (left_of files cursor) 0 0 before now
FoundCosts files name (Left odd) before now =
    OddIsCounted files odd.name odd.reader
    × Takes (file_cost (bytes_of files name)) (odd_left files odd.name odd.reader) 0 0 before now

-- what the opening of a plan's files costs, and leaves
abbrev pub odd_of : Files → Option Odd → Cost
odd_of files None = nothing
odd_of files (Some odd) = odd_left files odd.name odd.reader

abbrev pub SomeOddIsCounted : Files → Option Odd → Type 0
SomeOddIsCounted files None = ⊤
SomeOddIsCounted files (Some odd) = OddIsCounted files odd.name odd.reader

pub record OpenedCosts (files : Files) (plan : List FileName) (opened : Opened) (before now : Option ℕ) : Type 0 where
  pub counted : AreCounted files opened.cursors.items
  pub odd : SomeOddIsCounted files opened.odd
  pub takes : Takes (plan_cost files plan) (both (left_of_all files opened.cursors.items) (odd_of files opened.odd)) 0 0
      before now
