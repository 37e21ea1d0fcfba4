-- The first fault of bytes: the parts of a file are tested in this order, and the first test that fails
-- tells.
use Rattle.std.specs.Prelude.{◌≡◌, ℕ, zero, suc, ◌+◌, ◌-◌, ◌*◌, ◌%◌, ◌^◌, Bool, List, [], ◌∷◌, length, take, drop}
use Rattle.std.specs.Prelude.{Option, Some, None, nat_lt, nat_le, ◌==◌, ◌&&◌, ◌||◌, not, if◌then◌else◌}
use Rattle.std.specs.Option.{option_or}
use Rattle.std.specs.Int.{Width, w16, w32, w64, byte_len, from_be_bytes}
use Rattle.ls_base.specs.PageSize.{is_page_size, lock_page}
use Rattle.ls_base.specs.Limits.{database_limit, log_limit}
use Rattle.ltx_format.specs.declared.fault.DecodeFault.{DecodeFault}
use Rattle.ltx_format.specs.declared.fault.DecodeFault.TheVariants.{Fault, Memory}
use Rattle.ltx_format.specs.declared.fault.LtxFault.{LtxFault}
use Rattle.ltx_format.specs.declared.fault.LtxFault.TheVariants.{Short, BadMagic, Compressed, BadFlags, BadPageSize}
use Rattle.ltx_format.specs.declared.fault.LtxFault.TheVariants.{BadCommit, BadRange, BadReserved, BadOrder, BadSum}
use Rattle.ltx_format.specs.declared.fault.LtxFault.TheVariants.{Extra, BadIndex}
use Rattle.ltx_format.specs.LtxFormat.{file_sum}

-- tests, each with the fault of bytes that fail it
abbrev pub Tests : Type 0
Tests = List (Bool × LtxFault)

-- the fault of the first test that fails
abbrev pub first_failed : Tests → Option LtxFault
first_failed [] = None
first_failed ((passes, fault) ∷ tests) = if passes then first_failed tests else Some fault

-- the number of this width at an offset
abbrev pub number : Width → ℕ → List ℕ → ℕ
number w at bytes = from_be_bytes w (take (byte_len w) (drop at bytes))

-- ---- the header

abbrev pub flags : List ℕ → ℕ
flags bytes = number w32 4 bytes

abbrev pub has_index : List ℕ → Bool
has_index bytes = flags bytes == 6

abbrev pub page_size : List ℕ → ℕ
page_size bytes = number w32 8 bytes

abbrev pub commit : List ℕ → ℕ
commit bytes = number w32 12 bytes

abbrev pub min_txid : List ℕ → ℕ
min_txid bytes = number w64 16 bytes

-- whole frames of a log, at least one, that end within its first 2^32 bytes
abbrev pub are_frames : ℕ → ℕ → Bool
are_frames size bytes = bytes % (24 + size) == 0 && nat_le (24 + size) bytes && nat_le (32 + bytes) log_limit

-- a place in the log: its offset 32, and frames
abbrev pub is_in_log : List ℕ → Bool
is_in_log bytes = number w64 48 bytes == 32 && are_frames (page_size bytes) (number w64 56 bytes)

-- a place at rest: no offset, length and salts, and a sum with its top bit set
abbrev pub is_at_rest : List ℕ → Bool
is_at_rest bytes =
    number w64 48 bytes == 0 && number w64 56 bytes == 0 && number w64 64 bytes == 0
    && nat_le (2 ^ 63) (number w64 80 bytes)

-- The last five are the pre-apply checksum, the place, the node, and the 12 bytes that are kept free.
abbrev pub header_tests : List ℕ → Tests
header_tests bytes =
    (nat_le 100 (length bytes), Short)
    ∷ (number w32 0 bytes == 0x4c54_5831, BadMagic)
    ∷ (flags bytes % 2 == 0, Compressed)
    ∷ (flags bytes == 2 || has_index bytes, BadFlags)
    ∷ (is_page_size (page_size bytes), BadPageSize)
    ∷ (not (commit bytes == 0) && nat_le (commit bytes * page_size bytes) database_limit, BadCommit)
    ∷ (not (min_txid bytes == 0) && nat_le (min_txid bytes) (number w64 24 bytes), BadRange)
    ∷ (number w64 40 bytes == 0, BadReserved)
    ∷ (is_in_log bytes || is_at_rest bytes, BadReserved)
    ∷ (number w64 72 bytes == 0, BadReserved)
    ∷ (number w64 88 bytes == 0, BadReserved)
    ∷ (number w32 96 bytes == 0, BadReserved)
    ∷ []

-- the first fault of the first 100 bytes
unfoldable pub header_fault : List ℕ → Option LtxFault
header_fault bytes = first_failed (header_tests bytes)

-- ---- the blocks, by the offset of each

-- the number and the flags of the block
abbrev pub block_tests : List ℕ → ℕ → Tests
block_tests bytes at =
    (nat_le (at + 6) (length bytes), Short)
    ∷ (number w16 (at + 4) bytes % 2 == 0, Compressed)
    ∷ (number w16 (at + 4) bytes == 0, BadFlags)
    ∷ []

-- the number is above the last one, at most the commit, and isn't the lock page
abbrev pub is_next : ℕ → ℕ → ℕ → ℕ → Bool
is_next size commit last n = nat_lt last n && nat_le n commit && not (n == lock_page size)

-- The block holds a page: its number is the next one, and the page is there.
abbrev pub page_tests : List ℕ → ℕ → ℕ → Tests
page_tests bytes last at =
    (is_next (page_size bytes) (commit bytes) last (number w32 at bytes), BadOrder (number w32 at bytes))
    ∷ (nat_le (at + 6 + page_size bytes) (length bytes), Short)
    ∷ []

-- how many pages of a database a file can hold: all but the lock page
abbrev pub stored_pages : ℕ → ℕ → ℕ
stored_pages size commit = if nat_le (lock_page size) commit then commit - 1 else commit

-- a file that begins at transaction 1 has every page
abbrev pub is_whole : List ℕ → ℕ → Bool
is_whole bytes count = not (min_txid bytes == 1) || count == stored_pages (page_size bytes) (commit bytes)

-- ---- the index

-- the number of the block before which `k` others stand
abbrev pub block_number : List ℕ → ℕ → ℕ
block_number bytes k = number w32 (100 + k * (6 + page_size bytes)) bytes

-- the number of the index that belongs to this block
abbrev pub entry_tests : List ℕ → ℕ → ℕ → Tests
entry_tests bytes k at =
    (nat_le (at + 4) (length bytes), Short)
    ∷ (number w32 at bytes == block_number bytes k, BadIndex (number w32 at bytes))
    ∷ []

-- the index ends with how many blocks there are
abbrev pub count_tests : List ℕ → ℕ → ℕ → Tests
count_tests bytes count at =
    (nat_le (at + 4) (length bytes), Short)
    ∷ (number w32 at bytes == count, BadIndex 0)
    ∷ []

-- the first fault of the index from here on, where the numbers of `k` blocks stand before, and those of
-- `left` others are still to come
unfoldable pub index_fault : ℕ → List ℕ → ℕ → ℕ → Option LtxFault
index_fault zero bytes k at = first_failed (count_tests bytes k at)
index_fault (suc left) bytes k at =
    option_or (first_failed (entry_tests bytes k at)) (index_fault left bytes (suc k) (at + 4))

-- ---- the end

-- The trailer: the post-apply checksum 0 and the sum of all bytes before it, and nothing else.
abbrev pub trailer_tests : List ℕ → ℕ → Tests
trailer_tests bytes at =
    let kept = number w64 (at + 8) bytes in
    let found = file_sum (take (at + 8) bytes) in
    (nat_le (at + 16) (length bytes), Short)
    ∷ (number w64 at bytes == 0, BadReserved)
    ∷ (kept == found, BadSum kept found)
    ∷ (length bytes == at + 16, Extra)
    ∷ []

-- the first fault behind `count` blocks and the 6 zero bytes that end them: the index where there is one,
-- and the trailer
abbrev pub tail_fault : List ℕ → ℕ → ℕ → Option LtxFault
tail_fault bytes count at =
    if has_index bytes
    then option_or (index_fault count bytes 0 at) (first_failed (trailer_tests bytes (at + 4 * count + 4)))
    else first_failed (trailer_tests bytes at)

-- the first fault from the block of number 0 on, before which `count` pages stand
abbrev pub end_fault : List ℕ → ℕ → ℕ → Option LtxFault
end_fault bytes count at =
    option_or (first_failed ((is_whole bytes count, BadOrder 0) ∷ [])) (tail_fault bytes count (at + 6))

-- The first fault from a block on, where `count` blocks stand before it and `last` is the number of the one
-- before. Since numbers rise up to the commit, at most `left` blocks can come.
unfoldable pub fault_from : ℕ → List ℕ → ℕ → ℕ → ℕ → Option LtxFault
fault_from zero bytes count last at = None
fault_from (suc left) bytes count last at =
    option_or (first_failed (block_tests bytes at)) (
    if number w32 at bytes == 0 then end_fault bytes count at
    else option_or (first_failed (page_tests bytes last at))
    (fault_from left bytes (suc count) (number w32 at bytes) (at + 6 + page_size bytes))
    )

-- the first fault of the whole
unfoldable pub first_fault : List ℕ → Option LtxFault
first_fault bytes = option_or (header_fault bytes) (fault_from (suc (commit bytes)) bytes 0 0 100)

-- why bytes were not read: their first fault, or want of memory
abbrev pub TellsFirstFault : List ℕ → DecodeFault → Type 0
TellsFirstFault bytes (Fault fault) = first_fault bytes ≡ Some fault
TellsFirstFault bytes Memory = Unit {0}
