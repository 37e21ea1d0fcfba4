-- A reader that goes through a file page by page: what it has read, and what it will give.
use Rattle.std.specs.Prelude.{◌≡◌, ℕ, zero, suc, ◌+◌, ◌-◌, ◌*◌, ◌^◌, ◌<◌, ◌≤◌, List, [], ◌∷◌, length, take, drop}
use Rattle.std.specs.Prelude.{Option, Some, None, Result, Ok, Err, slice_index, unwrap_or, ◌==◌, if◌then◌else◌, ⊤}
use Rattle.std.specs.Prelude.{IsTrue}
use Rattle.std.specs.Int.{w32}
use Rattle.std.specs.FinMap.{entries}
use Rattle.ls_sums.specs.Crc64.{IsBehind}
use Rattle.ls_base.specs.Change.{Change}
use Rattle.crash_disk.specs.declared.event.Event.{Event}
use Rattle.crash_disk.specs.Told.{Told, IfTold}
use Rattle.crash_disk.specs.Files.{file_at}
use Rattle.ltx_format.specs.declared.fault.LtxFault.{LtxFault}
use Rattle.ltx_format.specs.declared.header.LtxHeader.{LtxHeader}
use Rattle.ltx_reader.specs.declared.read_fault.ReadFault.{ReadFault}
use Rattle.ltx_reader.specs.declared.read_fault.ReadFault.TheVariants.{Disk, Fault, Memory}
use Rattle.ltx_reader.specs.declared.progress.Progress.{Progress}
use Rattle.ltx_reader.specs.declared.progress.Progress.TheVariants.{Going, AtNumber, Ended, Failed}
use Rattle.ltx_format.specs.LtxFormat.{HasHeader, IsLtxFile}
use Rattle.ltx_format.specs.FirstFault.{number, commit, page_size, first_failed, block_tests, is_next, fault_from}
use Rattle.ltx_format.specs.FirstFault.{first_fault}

-- ---- the bytes of a file

-- the bytes under a name; an absent name has none
abbrev pub bytes_named : List Event → List ℕ → List ℕ
bytes_named events name = unwrap_or (file_at events name) []

-- a fact about the bytes under a name, asked only of a disk that tells its content
abbrev pub OfBytes : Told → List ℕ → (List ℕ → Type 0) → Type 0
OfBytes told name P = IfTold told (λ events. P (bytes_named events name))

abbrev pub AreBytes : List ℕ → Type 0
AreBytes xs = (k : ℕ) → slice_index xs k < 2 ^ 8

-- the pages from a block on, at most so many; a block of number 0 ends them
unfoldable pub pages_from : ℕ → List ℕ → ℕ → List (ℕ × List ℕ)
pages_from zero bytes at = []
pages_from (suc left) bytes at =
    if number w32 at bytes == 0 then []
    else (number w32 at bytes, take (page_size bytes) (drop (at + 6) bytes)) ∷ pages_from left bytes
    (at + 6 + page_size bytes)

-- the pages of a file with their numbers, one after another
abbrev pub pages_of : List ℕ → List (ℕ × List ℕ)
pages_of bytes = pages_from (suc (commit bytes)) bytes 100

-- ---- readers

-- the file's name and header, how many pages were given, the number of the last of them (0 before the first),
-- the register of the sum over what was read, and how far the reader is
pub record Reader : Type 0 where
  pub name : List ℕ
  pub header : LtxHeader
  pub count : ℕ
  pub last : ℕ
  pub sum : ℕ
  pub progress : Progress

-- numbers rise from 1 on, so there are no more pages than the last number says
abbrev pub IsAbove : ℕ → Progress → Type 0
IsAbove last Going = ⊤
IsAbove last (AtNumber n) = last < n
IsAbove last Ended = ⊤
IsAbove last (Failed fault) = ⊤

-- where the block starts before which so many stand
abbrev pub block_offset : LtxHeader → ℕ → ℕ
block_offset header count = 100 + count * (6 + header.size)

-- where the block starts that comes next
abbrev pub next_block : Reader → ℕ
next_block reader = block_offset reader.header reader.count

-- the offset up to which the file was read
abbrev pub read_to : ℕ → Progress → ℕ
read_to at Going = at
read_to at (AtNumber n) = at + 6
read_to at Ended = at
read_to at (Failed fault) = at

-- the pages that are still to come
abbrev pub pages_to_come : List ℕ → Reader → Progress → List (ℕ × List ℕ)
pages_to_come bytes reader Going = pages_from (suc (commit bytes - reader.count)) bytes (next_block reader)
pages_to_come bytes reader (AtNumber n) = pages_from (suc (commit bytes - reader.count)) bytes (next_block reader)
pages_to_come bytes reader Ended = []
pages_to_come bytes reader (Failed fault) = []

abbrev pub pages_left : List ℕ → Reader → List (ℕ × List ℕ)
pages_left bytes reader = pages_to_come bytes reader reader.progress

-- the register stands behind the front of the file up to the offset, which was read
pub record IsSummed (bytes : List ℕ) (at register : ℕ) : Type 0 where
  pub inside : at ≤ length bytes
  pub are_bytes : AreBytes (take at bytes)
  pub sum : IsBehind (take at bytes) register

-- The front of the file up to the next block was read, and the first fault of the file is the first one
-- from there on.
pub record IsFaultlessTo (bytes : List ℕ) (reader : Reader) : Type 0 where
  pub counted : reader.count ≤ reader.last
  pub few : reader.last ≤ commit bytes
  pub rest : first_fault bytes ≡ fault_from (suc (commit bytes - reader.count)) bytes reader.count reader.last
      (next_block reader)
  pub summed : IsSummed bytes (read_to (next_block reader) reader.progress) reader.sum

-- the number of the next block was read; it is that of a page
pub record IsNextNumber (bytes : List ℕ) (reader : Reader) (n : ℕ) : Type 0 where
  pub tests : first_failed (block_tests bytes (next_block reader)) ≡ None
  pub is : number w32 (next_block reader) bytes ≡ n
  pub some : 1 ≤ n
  pub next : IsTrue (is_next (page_size bytes) (commit bytes) reader.last n)

-- what the reader's progress says of the file
abbrev pub Progresses : List ℕ → Reader → Progress → Type 0
Progresses bytes reader Going = IsFaultlessTo bytes reader
Progresses bytes reader (AtNumber n) = IsFaultlessTo bytes reader × IsNextNumber bytes reader n
Progresses bytes reader Ended = (first_fault bytes ≡ None) × AreBytes bytes
Progresses bytes reader (Failed fault) = first_fault bytes ≡ Some fault

-- the reader reads this file
pub record IsReaderOf (bytes : List ℕ) (reader : Reader) : Type 0 where
  pub header : HasHeader bytes reader.header
  pub progress : Progresses bytes reader reader.progress

-- ---- what the calls answer

-- the number of the next page, or the end behind the last one
abbrev pub Announces : List ℕ → Reader → Reader → Option ℕ → Type 0
Announces bytes old new None = (pages_left bytes old ≡ []) × (new.progress ≡ Ended)
Announces bytes old new (Some n) =
    (page : List ℕ) × (rest : List (ℕ × List ℕ)) × (pages_left bytes old ≡ (n, page) ∷ rest) ×
    (pages_left bytes new ≡ pages_left bytes old)

-- the next page and its number, or the end behind the last one
abbrev pub Gives : List ℕ → Reader → Reader → List ℕ → Option ℕ → Type 0
Gives bytes old new page None = (pages_left bytes old ≡ []) × (new.progress ≡ Ended)
Gives bytes old new page (Some n) = pages_left bytes old ≡ (n, page) ∷ pages_left bytes new

-- a fault of the file is its first one; a fault of the disk and want of memory say nothing of it
abbrev pub TellsFault : List ℕ → ReadFault → Type 0
TellsFault bytes (Disk fault) = ⊤
TellsFault bytes (Fault fault) = first_fault bytes ≡ Some fault
TellsFault bytes Memory = ⊤

-- The reader is as it was, but that it may know the next block's number.
pub record IsAsBefore (old new : Reader) : Type 0 where
  pub count : new.count ≡ old.count
  pub last : new.last ≡ old.last
  pub unfailed : (fault : LtxFault) → new.progress ≡ Failed fault → old.progress ≡ Failed fault
  pub not_ended : new.progress ≡ Ended → old.progress ≡ Ended

-- the reader still reads the file of this name and header
pub record HasSameFile (old new : Reader) : Type 0 where
  pub name : new.name ≡ old.name
  pub header : new.header ≡ old.header

-- no page was given
pub record StaysBeforePage (old new : Reader) : Type 0 where
  pub count : new.count ≡ old.count
  pub last : new.last ≡ old.last

-- a page is one step, and anything else none
abbrev pub steps_of : Result (Option ℕ) ReadFault → ℕ
steps_of (Ok None) = 0
steps_of (Ok (Some n)) = 1
steps_of (Err fault) = 0

-- behind the end and behind a fault each call answers the same
abbrev pub Repeats : Progress → Result (Option ℕ) ReadFault → Type 0
Repeats Going result = ⊤
Repeats (AtNumber n) result = ⊤
Repeats Ended result = result ≡ Ok None
Repeats (Failed fault) result = result ≡ Err (Fault fault)

-- the same of the number: it stays the same until the page is given
abbrev pub RepeatsNumber : Progress → Result (Option ℕ) ReadFault → Type 0
RepeatsNumber Going result = ⊤
RepeatsNumber (AtNumber n) result = result ≡ Ok (Some n)
RepeatsNumber Ended result = result ≡ Ok None
RepeatsNumber (Failed fault) result = result ≡ Err (Fault fault)

-- a reader that need not read for the answer
abbrev pub IfKnown : Progress → Type 0 → Type 0
IfKnown Going P = ⊤
IfKnown (AtNumber n) P = P
IfKnown Ended P = P
IfKnown (Failed fault) P = P

-- where the end, or a fault of the file, leaves the reader
abbrev pub Stops : Progress → Result (Option ℕ) ReadFault → Type 0
Stops progress (Ok None) = progress ≡ Ended
Stops progress (Ok (Some n)) = ⊤
Stops progress (Err (Disk fault)) = ⊤
Stops progress (Err (Fault fault)) = progress ≡ Failed fault
Stops progress (Err Memory) = ⊥

-- and where a number leaves it
abbrev pub Waits : Progress → Result (Option ℕ) ReadFault → Type 0
Waits progress (Ok None) = ⊤
Waits progress (Ok (Some n)) = progress ≡ AtNumber n
Waits progress (Err fault) = ⊤

-- ---- a reader at its end

-- A reader that came to the end of a file has read a file of the format.
abbrev pub EndedReadersHaveFiles : Type 0
EndedReadersHaveFiles =
    (bytes : List ℕ) (reader : Reader) → IsReaderOf bytes reader → reader.progress ≡ Ended
    → (c : Change) × IsLtxFile bytes reader.header c

-- The pages of a file, one after another, are those of its change.
abbrev pub FilesHaveTheirPages : Type 0
FilesHaveTheirPages = (bytes : List ℕ) (h : LtxHeader) (c : Change) → IsLtxFile bytes h c
    → pages_of bytes ≡ entries c.pages
