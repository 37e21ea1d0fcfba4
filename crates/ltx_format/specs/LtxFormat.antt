-- The LTX file of this project's profile, after superfly/ltx. All numbers are big-endian.
use Rattle.std.specs.Prelude.{◌≡◌, ◌≢◌, ℕ, ◌+◌, ◌-◌, ◌*◌, ◌^◌, ◌<◌, ◌≤◌, Bool, List, [], ◌++◌, length, take, replicate}
use Rattle.std.specs.Prelude.{codes, bit_or, slice_index, Result, Some, IsSome, MatchResult, if◌then◌else◌}
use Rattle.std.specs.List.{flat_map}
use Rattle.std.specs.Ordering.{nat_cmp}
use Rattle.std.specs.FinMap.{FinMap, get, entries, keys}
use Rattle.byteorder.specs.Endian.{big_bytes}
use Rattle.ls_base.specs.PageSize.{IsPageSize, lock_page}
use Rattle.ls_base.specs.Limits.{database_limit, log_limit}
use Rattle.ls_base.specs.Change.{Change}
use Rattle.ls_base.specs.declared.place.Place.{Place}
use Rattle.ls_base.specs.declared.place.Place.TheVariants.{Wal, Rest}
use Rattle.ltx_format.specs.declared.fault.DecodeFault.{DecodeFault}
use Rattle.ltx_format.specs.declared.fault.DecodeFault.TheVariants.{Memory}
use Rattle.ltx_format.specs.declared.file.LtxFile.{LtxFile}
use Rattle.ltx_format.specs.declared.header.LtxHeader.{LtxHeader}
use Rattle.ls_sums.specs.Crc64.{crc64}

-- The part of the log that the file stands for: its offset and length in bytes, then both salts. A place at
-- rest has none.
abbrev pub log_fields : Place → List ℕ
log_fields (Wal salt1 salt2 end s0 s1) =
    big_bytes 8 32 ++ big_bytes 8 (end - 32) ++ big_bytes 4 salt1 ++ big_bytes 4 salt2
log_fields (Rest sum) = replicate 24 0

-- the sums of the place
abbrev pub sum_fields : Place → List ℕ
sum_fields (Wal salt1 salt2 end s0 s1) = big_bytes 4 s0 ++ big_bytes 4 s1
sum_fields (Rest sum) = big_bytes 8 sum

-- 2 stands for no rolling checksums, and 4 for an index
abbrev pub header_flags : Bool → ℕ
header_flags index = if index then 6 else 2

-- The header's 100 bytes: the magic `LTX1`, the flags, page size, pages afterwards, first and last
-- transaction, moment, pre-apply checksum 0, the log's fields, node 0, the place's sums, and 12 bytes that
-- are kept free.
unfoldable pub header_bytes : LtxHeader → List ℕ
header_bytes h =
    codes "LTX1" ++ big_bytes 4 (header_flags h.index) ++ big_bytes 4 h.size ++ big_bytes 4 h.commit
    ++ big_bytes 8 h.min ++ big_bytes 8 h.max ++ big_bytes 8 h.moment ++ replicate 8 0
    ++ log_fields h.place ++ replicate 8 0 ++ sum_fields h.place ++ replicate 12 0

-- A place in the log ends behind a whole number of frames, at least one, and the log has at most 2^32
-- bytes; the sum of a place at rest has its top bit set.
abbrev pub IsPlaceFor : ℕ → Place → Type 0
IsPlaceFor size (Wal salt1 salt2 end s0 s1) =
    (frames : ℕ) × (1 ≤ frames) × (end ≡ 32 + frames * (24 + size)) × (end ≤ log_limit)
    × (salt1 < 2 ^ 32) × (salt2 < 2 ^ 32) × (s0 < 2 ^ 32) × (s1 < 2 ^ 32)
IsPlaceFor size (Rest sum) = (2 ^ 63 ≤ sum) × (sum < 2 ^ 64)

-- what a header may say
pub record IsHeader (h : LtxHeader) : Type 0 where
  pub size : IsPageSize h.size
  pub some_page : 1 ≤ h.commit
  -- the database has at most 2^40 bytes
  pub small : h.commit * h.size ≤ database_limit
  pub from_first : 1 ≤ h.min
  pub in_order : h.min ≤ h.max
  pub max_fits : h.max < 2 ^ 64
  pub moment_fits : h.moment < 2 ^ 64
  pub place : IsPlaceFor h.size h.place

-- the first 100 bytes are this header's
pub record HasHeader (bytes : List ℕ) (h : LtxHeader) : Type 0 where
  pub header : IsHeader h
  pub spelled : take 100 bytes ≡ header_bytes h

-- a page block: the page's number, flags 0, and the page
abbrev pub page_block : ℕ × List ℕ → List ℕ
page_block (number, page) = big_bytes 4 number ++ replicate 2 0 ++ page

-- the blocks of the pages, by rising number
abbrev pub page_blocks : FinMap nat_cmp (List ℕ) → List ℕ
page_blocks pages = flat_map page_block (entries pages)

-- the numbers that a page in a file of this header may have: from 1 to the commit, and never the lock page
pub record IsStored (h : LtxHeader) (number : ℕ) : Type 0 where
  pub some : 1 ≤ number
  pub at_most : number ≤ h.commit
  pub unlocked : number ≢ lock_page h.size

-- the pages of a file: each has the page size, bytes, and a number that may be stored, and a file from the
-- first transaction on has every such page
pub record ArePages (h : LtxHeader) (pages : FinMap nat_cmp (List ℕ)) : Type 0 where
  pub sized : (number : ℕ) (page : List ℕ) → get pages number ≡ Some page → length page ≡ h.size
  pub bytes : (number : ℕ) (page : List ℕ) → get pages number ≡ Some page → (k : ℕ) → slice_index page k < 2 ^ 8
  pub numbered : (number : ℕ) → IsSome (get pages number) → IsStored h number
  pub whole : h.min ≡ 1 → (number : ℕ) → IsStored h number → IsSome (get pages number)

-- the index of pages of these numbers: the numbers as they rise, and then how many they are
abbrev pub index_bytes : List ℕ → List ℕ
index_bytes numbers = flat_map (big_bytes 4) numbers ++ big_bytes 4 (length numbers)

-- the index where there is one
abbrev pub index_part : Bool → List ℕ → List ℕ
index_part index numbers = if index then index_bytes numbers else []

-- all but the file's own sum: header, blocks, the 6 zero bytes that end them, the index where there is one,
-- post-apply checksum 0
abbrev pub summed_bytes : LtxHeader → FinMap nat_cmp (List ℕ) → List ℕ
summed_bytes h pages =
    header_bytes h ++ page_blocks pages ++ replicate 6 0 ++ index_part h.index (keys pages) ++ replicate 8 0

-- the file's own sum: the CRC-64 of the bytes, with the top bit set
abbrev pub file_sum : List ℕ → ℕ
file_sum bytes = bit_or (crc64 bytes) (2 ^ 63)

-- the file of a header and pages
abbrev pub ltx_bytes : LtxHeader → FinMap nat_cmp (List ℕ) → List ℕ
ltx_bytes h pages = summed_bytes h pages ++ big_bytes 8 (file_sum (summed_bytes h pages))

-- the change that a file holds
abbrev pub change_of : LtxFile → Change
change_of file = record { page_size = file.header.size; commit = file.header.commit; pages = file.pages }

-- the bytes are the file of this header and change
pub record IsLtxFile (bytes : List ℕ) (h : LtxHeader) (c : Change) : Type 0 where
  pub header : IsHeader h
  pub same_size : c.page_size ≡ h.size
  pub same_commit : c.commit ≡ h.commit
  pub pages : ArePages h c.pages
  pub spelled : bytes ≡ ltx_bytes h c.pages

-- the answer is this header and change, unless memory ran out
abbrev pub ReadsAs : Result LtxFile DecodeFault → LtxHeader → Change → Type 0
ReadsAs result h c = MatchResult result (λ file. (file.header ≡ h) × (change_of file ≡ c)) (λ e. e ≡ Memory)
