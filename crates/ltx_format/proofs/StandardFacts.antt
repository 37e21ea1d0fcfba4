-- The definitions at values from outside.
use Rattle.std.proofs.Common.{◌≡◌, ℕ, true, false, List, [], ◌∷◌, ◌++◌, take, replicate, Option, Some, None, refl}
use Rattle.std.specs.List.{slice_set}
use Rattle.std.specs.Int.{w32, w64, to_be_bytes}
use Rattle.ls_base.specs.declared.place.Place.TheVariants.{Wal, Rest}
use Rattle.ls_sums.specs.Crc64.{after_bits}
use Rattle.ltx_format.specs.declared.fault.LtxFault.{LtxFault}
use Rattle.ltx_format.specs.declared.fault.LtxFault.TheVariants.{Short, BadMagic, Compressed, BadFlags, BadPageSize}
use Rattle.ltx_format.specs.declared.fault.LtxFault.TheVariants.{BadCommit, BadRange, BadReserved, BadOrder, BadSum}
use Rattle.ltx_format.specs.declared.fault.LtxFault.TheVariants.{Extra, BadIndex}
use Rattle.ltx_format.specs.declared.header.LtxHeader.{LtxHeader}
use Rattle.ltx_format.specs.LtxFormat.{header_bytes}
use Rattle.ltx_format.specs.FirstFault.{header_fault, first_fault, fault_from, index_fault}

-- pages of 512 bytes, two of them afterwards, transaction 1, and a place behind two frames of a log
example : LtxHeader
example = record {
  size = 512;
  commit = 2;
  min = 1;
  max = 1;
  moment = 1700000000000;
  place = Wal 1 2 1104 0 0;
  index =
      false;
}

front_of_example : take 80 (header_bytes example) ≡
    0x4c ∷ 0x54 ∷ 0x58 ∷ 0x31 ∷ 0 ∷ 0 ∷ 0 ∷ 2 ∷ 0 ∷ 0 ∷ 2 ∷ 0 ∷ 0 ∷ 0 ∷ 0 ∷ 2 ∷ 0 ∷ 0 ∷ 0 ∷ 0 ∷ 0 ∷ 0 ∷ 0 ∷ 1 ∷ 0 ∷ 0
    ∷ 0 ∷ 0 ∷ 0 ∷ 0 ∷ 0 ∷ 1
    ∷ 0 ∷ 0 ∷ 1 ∷ 0x8b ∷ 0xcf ∷ 0xe5 ∷ 0x68 ∷ 0 ∷ 0 ∷ 0 ∷ 0 ∷ 0 ∷ 0 ∷ 0 ∷ 0 ∷ 0 ∷ 0 ∷ 0 ∷ 0 ∷ 0 ∷ 0 ∷ 0 ∷ 0 ∷ 0x20 ∷ 0
    ∷ 0 ∷ 0 ∷ 0 ∷ 0 ∷ 0 ∷ 4 ∷ 0x30
    ∷ 0 ∷ 0 ∷ 0 ∷ 1 ∷ 0 ∷ 0 ∷ 0 ∷ 2 ∷ 0 ∷ 0 ∷ 0 ∷ 0 ∷ 0 ∷ 0 ∷ 0 ∷ 0 ∷ []
unfolding header_bytes example
front_of_example = refl

-- the first fault of the header with one byte changed
fault_with : ℕ → ℕ → Option LtxFault
fault_with at byte = header_fault (slice_set (header_bytes example) at byte)

unchanged : header_fault (header_bytes example) ≡ None
unfolding header_bytes example header_fault
unchanged = refl

too_short : header_fault (take 99 (header_bytes example)) ≡ Some Short
unfolding header_bytes example header_fault
too_short = refl

magic : fault_with 0 0 ≡ Some BadMagic
unfolding header_bytes example header_fault fault_with
magic = refl

compressed : fault_with 7 1 ≡ Some Compressed
unfolding header_bytes example header_fault fault_with
compressed = refl

flags : fault_with 7 4 ≡ Some BadFlags
unfolding header_bytes example header_fault fault_with
flags = refl

flags_of_an_index : fault_with 7 6 ≡ None
unfolding header_bytes example header_fault fault_with
flags_of_an_index = refl

size_of_513 : fault_with 11 1 ≡ Some BadPageSize
unfolding header_bytes example header_fault fault_with
size_of_513 = refl

-- 2^31 + 2 pages of 512 bytes
too_many_pages : fault_with 12 128 ≡ Some BadCommit
unfolding header_bytes example header_fault fault_with
too_many_pages = refl

no_page : fault_with 15 0 ≡ Some BadCommit
unfolding header_bytes example header_fault fault_with
no_page = refl

min_above_max : fault_with 23 2 ≡ Some BadRange
unfolding header_bytes example header_fault fault_with
min_above_max = refl

other_offset : fault_with 55 1 ≡ Some BadReserved
unfolding header_bytes example header_fault fault_with
other_offset = refl

part_of_a_frame : fault_with 63 0x31 ≡ Some BadReserved
unfolding header_bytes example header_fault fault_with
part_of_a_frame = refl

free_byte : fault_with 99 1 ≡ Some BadReserved
unfolding header_bytes example header_fault fault_with
free_byte = refl

-- ---- a file of no pages

-- one page of 512 bytes afterwards, transaction 2, a place at rest
small : LtxHeader
small = record {
  size = 512;
  commit = 1;
  min = 2;
  max = 2;
  moment = 0;
  place = Rest 0x8000_0000_0000_0000;
  index =
      false;
}

-- its bytes and their sum, which another program computed
small_file : List ℕ
small_file = header_bytes small ++ replicate 14 0 ++ to_be_bytes w64 0xd2a5_0e08_9d29_5002

no_fault : first_fault small_file ≡ None
unfolding header_bytes small small_file header_fault first_fault fault_from after_bits
no_fault = refl

one_byte_more : first_fault (small_file ++ 0 ∷ []) ≡ Some Extra
unfolding header_bytes small small_file header_fault first_fault fault_from after_bits
one_byte_more = refl

one_byte_less : first_fault (take 121 small_file) ≡ Some Short
unfolding header_bytes small small_file header_fault first_fault fault_from
one_byte_less = refl

another_sum : first_fault (slice_set small_file 121 0x03) ≡ Some (BadSum 0xd2a5_0e08_9d29_5003 0xd2a5_0e08_9d29_5002)
unfolding header_bytes small small_file header_fault first_fault fault_from after_bits
another_sum = refl

checksum_before : first_fault (slice_set small_file 106 1) ≡ Some BadReserved
unfolding header_bytes small small_file header_fault first_fault fault_from
checksum_before = refl

flags_of_the_end : first_fault (slice_set small_file 105 2) ≡ Some BadFlags
unfolding header_bytes small small_file header_fault first_fault fault_from
flags_of_the_end = refl

page_above_the_commit : first_fault (slice_set small_file 103 2) ≡ Some (BadOrder 2)
unfolding header_bytes small small_file header_fault first_fault fault_from
page_above_the_commit = refl

page_cut : first_fault (slice_set small_file 103 1) ≡ Some Short
unfolding header_bytes small small_file header_fault first_fault fault_from
page_cut = refl

-- from transaction 1 on a file has every page
page_missing : first_fault (slice_set small_file 23 1) ≡ Some (BadOrder 0)
unfolding header_bytes small small_file header_fault first_fault fault_from
page_missing = refl

-- ---- a file of no pages with an index

small_indexed : LtxHeader
small_indexed = record {
  size = 512;
  commit = 1;
  min = 2;
  max = 2;
  moment = 0;
  place =
      Rest 0x8000_0000_0000_0000;
  index = true;
}

small_indexed_file : List ℕ
small_indexed_file = header_bytes small_indexed ++ replicate 18 0 ++ to_be_bytes w64 0xd0ee_d54a_fed4_cb48

no_fault_indexed : first_fault small_indexed_file ≡ None
unfolding header_bytes small_indexed small_indexed_file header_fault first_fault fault_from index_fault after_bits
no_fault_indexed = refl

another_count : first_fault (slice_set small_indexed_file 109 1) ≡ Some (BadIndex 0)
unfolding header_bytes small_indexed small_indexed_file header_fault first_fault fault_from index_fault
another_count = refl

count_cut : first_fault (take 109 small_indexed_file) ≡ Some Short
unfolding header_bytes small_indexed small_indexed_file header_fault first_fault fault_from index_fault
count_cut = refl

-- ---- the lock page

-- 16400 pages of 65536 bytes, of which the 16385th is the lock page
locked : LtxHeader
locked = record {
  size = 65536;
  commit = 16400;
  min = 2;
  max = 2;
  moment = 0;
  place =
      Rest 0x8000_0000_0000_0000;
  index = false;
}

lock_page_in_a_file : first_fault (header_bytes locked ++ to_be_bytes w32 16385 ++ replicate 2 0) ≡ Some
    (BadOrder 16385)
unfolding header_bytes locked header_fault first_fault fault_from
lock_page_in_a_file = refl

page_behind_it : first_fault (header_bytes locked ++ to_be_bytes w32 16386 ++ replicate 2 0) ≡ Some Short
unfolding header_bytes locked header_fault first_fault fault_from
page_behind_it = refl
