-- Reading a file from left to right. Each reader answers what it read and the bytes behind it, or the fault.
use Rattle.std.specs.Prelude.{◌≡◌, ℕ, zero, suc, ◌+◌, ◌-◌, ◌*◌, ◌%◌, ◌^◌, Bool, List, [], ◌∷◌, length, take, drop}
use Rattle.std.specs.Prelude.{Result, Ok, Err, nat_lt, nat_le, ◌==◌, ◌&&◌, ◌||◌, not, if◌then◌else◌}
use Rattle.std.specs.Int.{Width, w16, w32, w64, byte_len, from_be_bytes}
use Rattle.std.specs.Map.{keys_of}
use Rattle.std.specs.FinMap.{entries}
use Rattle.ls_base.specs.PageSize.{is_page_size}
use Rattle.ls_base.specs.Limits.{database_limit}
use Rattle.ls_base.specs.declared.place.Place.{Place}
use Rattle.ls_base.specs.declared.place.Place.TheVariants.{Wal, Rest}
use Rattle.ltx_format.specs.declared.fault.DecodeFault.{DecodeFault}
use Rattle.ltx_format.specs.declared.fault.DecodeFault.TheVariants as causes
use Rattle.ltx_format.specs.declared.fault.LtxFault.{LtxFault}
use Rattle.ltx_format.specs.declared.fault.LtxFault.TheVariants.{Short, BadMagic, Compressed, BadFlags, BadPageSize}
use Rattle.ltx_format.specs.declared.fault.LtxFault.TheVariants.{BadCommit, BadRange, BadReserved, BadOrder, BadSum}
use Rattle.ltx_format.specs.declared.fault.LtxFault.TheVariants.{Extra, BadIndex}
use Rattle.ltx_format.specs.declared.file.LtxFile.{LtxFile}
use Rattle.ltx_format.specs.declared.header.LtxHeader.{LtxHeader}
use Rattle.ltx_format.specs.LtxFormat.{file_sum, header_flags}
use Rattle.ltx_format.specs.FirstFault.{are_frames, is_next, stored_pages}

-- one reader after another, up to the first fault
infixl 10 ◌>>=◌
abbrev pub ◌>>=◌ : {A B : Type 0} → Result A LtxFault → (A → Result B LtxFault) → Result B LtxFault
(Ok x) >>= next = next x
(Err fault) >>= next = Err fault

-- what a function answered, as `view` sees it, is what reading gives
abbrev pub Reads : {X Y : Type 0} → (X → Y) → Result X LtxFault → Result Y LtxFault → Type 0
Reads view (Ok x) read = read ≡ Ok (view x)
Reads view (Err fault) read = read ≡ Err fault

-- a fault is the one that reading gives; want of memory says nothing
abbrev pub FailsAs : {Y : Type 0} → DecodeFault → Result Y LtxFault → Type 0
FailsAs causes.Memory read = Unit {0}
FailsAs (causes.Fault fault) read = read ≡ Err fault

-- the same where memory may run out
abbrev pub ReadsInMemory : {X Y : Type 0} → (X → Y) → Result X DecodeFault → Result Y LtxFault → Type 0
ReadsInMemory view (Ok x) read = read ≡ Ok (view x)
ReadsInMemory view (Err cause) read = FailsAs cause read

-- what is read where the test passes
abbrev pub where_true : {A : Type 0} → Bool → LtxFault → A → Result A LtxFault
where_true test fault x = if test then Ok x else Err fault

-- the same where nothing is read
abbrev pub passes : Bool → LtxFault → Result (Unit {0}) LtxFault
passes test fault = where_true test fault tt

-- a number
unfoldable pub number_at : Width → List ℕ → Result (ℕ × List ℕ) LtxFault
number_at w bytes =
    if nat_lt (length bytes) (byte_len w) then Err Short
    else Ok (from_be_bytes w (take (byte_len w) bytes), drop (byte_len w) bytes)

-- the bytes behind this number, which must stand first
unfoldable pub behind : Width → ℕ → LtxFault → List ℕ → Result (List ℕ) LtxFault
behind w number fault bytes = do
  n ← number_at w bytes
  where_true (n.0 == number) fault n.1

-- flags, which must be these
unfoldable pub flags_from : ℕ → ℕ → Result (Unit {0}) LtxFault
flags_from flags found = do
  plain ← passes (found % 2 == 0) Compressed
  passes (found == flags) BadFlags

-- the page size of a number
unfoldable pub size_from : ℕ → Result ℕ LtxFault
size_from number = where_true (is_page_size number) BadPageSize number

-- how many pages the database has afterwards: at least one, and at most 2^40 bytes together
unfoldable pub commit_at : ℕ → List ℕ → Result (ℕ × List ℕ) LtxFault
commit_at size bytes = do
  n ← number_at w32 bytes
  where_true (not (n.0 == 0) && nat_le (n.0 * size) database_limit) BadCommit n

-- the first and the last transaction of two numbers
unfoldable pub range_from : ℕ → ℕ → Result (ℕ × ℕ) LtxFault
range_from min max = where_true (not (min == 0) && nat_le min max) BadRange (min, max)

-- a place in the log behind its offset 32: length, salts, node 0, sums
unfoldable pub wal_at : ℕ → List ℕ → Result (Place × List ℕ) LtxFault
wal_at size bytes = do
  log ← number_at w64 bytes
  salt1 ← number_at w32 log.1
  salt2 ← number_at w32 salt1.1
  rest ← behind w64 0 BadReserved salt2.1
  s0 ← number_at w32 rest
  s1 ← number_at w32 s0.1
  where_true (are_frames size log.0) BadReserved (Wal salt1.0 salt2.0 (32 + log.0) s0.0 s1.0, s1.1)

-- a place at rest behind its offset 0: length 0, salts 0, node 0, the sum with its top bit set
unfoldable pub rest_at : List ℕ → Result (Place × List ℕ) LtxFault
rest_at bytes = do
  salts ← behind w64 0 BadReserved bytes
  node ← behind w64 0 BadReserved salts
  rest ← behind w64 0 BadReserved node
  sum ← number_at w64 rest
  where_true (nat_le (2 ^ 63) sum.0) BadReserved (Rest sum.0, sum.1)

-- the place, by the offset of its log
unfoldable pub place_at : ℕ → List ℕ → Result (Place × List ℕ) LtxFault
place_at size bytes = do
  offset ← number_at w64 bytes
  if offset.0 == 32 then wal_at size offset.1 else if offset.0 == 0 then rest_at offset.1 else Err BadReserved

-- the fields of a header
unfoldable pub fields_at : List ℕ → Result (LtxHeader × List ℕ) LtxFault
fields_at bytes = do
  magic ← behind w32 0x4c54_5831 BadMagic bytes
  flags ← number_at w32 magic
  plain ← flags_from (header_flags (flags.0 == 6)) flags.0
  field ← number_at w32 flags.1
  size ← size_from field.0
  commit ← commit_at size field.1
  min ← number_at w64 commit.1
  max ← number_at w64 min.1
  range ← range_from min.0 max.0
  moment ← number_at w64 max.1
  log ← behind w64 0 BadReserved moment.1
  place ← place_at size log
  free ← behind w64 0 BadReserved place.1
  rest ← behind w32 0 BadReserved free
  Ok (
    record {
      size = size;
      commit = commit.0;
      min = range.0;
      max = range.1;
      moment = moment.0;
      place = place.0;
      index = flags.0 == 6;
    },
    rest,
  )

-- the header, of which all 100 bytes must be there
unfoldable pub header_at : List ℕ → Result (LtxHeader × List ℕ) LtxFault
header_at bytes = if nat_lt (length bytes) 100 then Err Short else fields_at bytes

-- the number of a block behind which flags 0 stand
unfoldable pub block_at : List ℕ → Result (ℕ × List ℕ) LtxFault
block_at bytes = do
  number ← number_at w32 bytes
  flags ← number_at w16 number.1
  plain ← flags_from 0 flags.0
  Ok (number.0, flags.1)

-- the page of this number, which rises, is at most the commit and isn't the lock page
unfoldable pub page_at : ℕ → ℕ → ℕ → ℕ → List ℕ → Result (List ℕ × List ℕ) LtxFault
page_at size commit last number bytes = do
  rest ← where_true (is_next size commit last number) (BadOrder number) bytes
  where_true (nat_le size (length rest)) Short (take size rest, drop size rest)

-- the bytes behind a block that must have number 0
unfoldable pub last_at : List ℕ → Result (List ℕ) LtxFault
last_at bytes = do
  number ← block_at bytes
  where_true (number.0 == 0) (BadOrder number.0) number.1

-- The blocks up to that of number 0, which comes behind n others at the latest, and the bytes behind it. The
-- number before them is `last`.
unfoldable pub blocks_at : ℕ → ℕ → ℕ → ℕ → List ℕ → Result (List (ℕ × List ℕ) × List ℕ) LtxFault
blocks_at zero size commit last bytes = do
  rest ← last_at bytes
  Ok ([], rest)
blocks_at (suc n) size commit last bytes = do
  number ← block_at bytes
  if number.0 == 0 then Ok ([], number.1) else do
    page ← page_at size commit last number.0 number.1
    others ← blocks_at n size commit number.0 page.1
    Ok ((number.0, page.0) ∷ others.0, others.1)

-- the number of a block in the index
unfoldable pub entry_at : ℕ → List ℕ → Result (List ℕ) LtxFault
entry_at number bytes = do
  n ← number_at w32 bytes
  where_true (n.0 == number) (BadIndex n.0) n.1

-- the numbers of these blocks in the index
unfoldable pub numbers_at : List ℕ → List ℕ → Result (List ℕ) LtxFault
numbers_at [] bytes = Ok bytes
numbers_at (number ∷ numbers) bytes = do
  rest ← entry_at number bytes
  numbers_at numbers rest

-- the index of the blocks of these numbers
unfoldable pub index_at : List ℕ → List ℕ → Result (List ℕ) LtxFault
index_at numbers bytes = do
  rest ← numbers_at numbers bytes
  behind w32 (length numbers) (BadIndex 0) rest

-- the index where the header says that there is one
unfoldable pub index_part_at : Bool → List ℕ → List ℕ → Result (List ℕ) LtxFault
index_part_at index numbers bytes = if index then index_at numbers bytes else Ok bytes

-- the sum that stands before these last bytes of a file
abbrev pub sum_before : List ℕ → List ℕ → ℕ
sum_before file rest = file_sum (take (length file - length rest) file)

-- what ends the file behind the blocks and the index: post-apply checksum 0, and the sum of all before it
unfoldable pub end_at : List ℕ → List ℕ → Result (Unit {0}) LtxFault
end_at file bytes = do
  check ← number_at w64 bytes
  kept ← number_at w64 check.1
  reserved ← passes (check.0 == 0) BadReserved
  right ← passes (kept.0 == sum_before file check.1) (BadSum kept.0 (sum_before file check.1))
  passes (length kept.1 == 0) Extra

-- a file from the first transaction on has every page but the lock page
abbrev pub has_all : LtxHeader → List (ℕ × List ℕ) → Bool
has_all header blocks = not (header.min == 1) || length blocks == stored_pages header.size header.commit

-- the whole file
unfoldable pub file_at : List ℕ → Result (LtxHeader × List (ℕ × List ℕ)) LtxFault
file_at bytes = do
  header ← header_at bytes
  blocks ← blocks_at header.0.commit header.0.size header.0.commit 0 header.1
  whole ← where_true (has_all header.0 blocks.0) (BadOrder 0) blocks.0
  tail ← index_part_at header.0.index (keys_of whole) blocks.1
  ended ← end_at bytes tail
  Ok (header.0, whole)

-- a file by its header and the entries of its pages
abbrev pub parts : LtxFile → LtxHeader × List (ℕ × List ℕ)
parts file = (file.header, entries file.pages)
