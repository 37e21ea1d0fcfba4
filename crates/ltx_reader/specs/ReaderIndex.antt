-- The index of a file on a disk: the numbers of its pages, which stand before the trailer, and what is wrong
-- with them first.
use Rattle.std.specs.Prelude.{◌≡◌, ℕ, zero, suc, ◌+◌, ◌-◌, ◌*◌, Bool, List, [], ◌∷◌, length, Option, Some, None, nat_le}
use Rattle.std.specs.Prelude.{◌==◌, ◌||◌, not, if◌then◌else◌}
use Rattle.std.specs.Option.{option_or}
use Rattle.std.specs.Int.{w32}
use Rattle.std.specs.List.{slice_get}
use Rattle.ltx_format.specs.declared.fault.LtxFault.{LtxFault}
use Rattle.ltx_format.specs.declared.fault.LtxFault.TheVariants.{Short, BadIndex}
use Rattle.ltx_format.specs.declared.header.LtxHeader.{LtxHeader}
use Rattle.ltx_format.specs.LtxFormat.{IsStored}
use Rattle.ltx_format.specs.FirstFault.{Tests, first_failed, number, is_next, stored_pages}
use Rattle.ltx_reader.specs.Reader.{block_offset}

-- how many pages the index says that there are: the last number before the trailer's 16 bytes
abbrev pub stored_count : List ℕ → ℕ
stored_count bytes = number w32 (length bytes - 20) bytes

-- how long a file with an index is that has so many pages
abbrev pub indexed_length : LtxHeader → ℕ → ℕ
indexed_length header count = 126 + count * (10 + header.size)

-- where the index starts, behind so many blocks and the 6 bytes that end them
abbrev pub index_offset : LtxHeader → ℕ → ℕ
index_offset header count = block_offset header count + 6

-- so many numbers, one after another from an offset on
unfoldable pub numbers_from : ℕ → List ℕ → ℕ → List ℕ
numbers_from zero bytes at = []
numbers_from (suc left) bytes at = number w32 at bytes ∷ numbers_from left bytes (at + 4)

-- the numbers of the index
abbrev pub index_numbers : LtxHeader → List ℕ → List ℕ
index_numbers header bytes = numbers_from (stored_count bytes) bytes (index_offset header (stored_count bytes))

-- The length is that of a file with so many pages as the index says.
abbrev pub length_tests : LtxHeader → List ℕ → Tests
length_tests header bytes =
    (nat_le 126 (length bytes), Short)
    ∷ (length bytes == indexed_length header (stored_count bytes), BadIndex 0)
    ∷ []

-- Each number is above the one before, at most the commit, and isn't the lock page; the first that isn't so.
unfoldable pub numbers_fault : LtxHeader → ℕ → List ℕ → Option LtxFault
numbers_fault header last [] = None
numbers_fault header last (n ∷ numbers) =
    if is_next header.size header.commit last n then numbers_fault header n numbers else Some (BadIndex n)

-- a file that begins at transaction 1 has every page but the lock page
abbrev pub has_all : LtxHeader → ℕ → Bool
has_all header count = not (header.min == 1) || count == stored_pages header.size header.commit

-- the first fault of the index
abbrev pub listed_fault : LtxHeader → List ℕ → Option LtxFault
listed_fault header bytes =
    option_or (first_failed (length_tests header bytes))
    (option_or (numbers_fault header 0 (index_numbers header bytes))
    (first_failed ((has_all header (stored_count bytes), BadIndex 0) ∷ [])))

-- each of the numbers may be that of a page of the file
abbrev pub AreStored : LtxHeader → List ℕ → Type 0
AreStored header numbers = (k n : ℕ) → slice_get numbers k ≡ Some n → IsStored header n
