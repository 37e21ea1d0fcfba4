-- The definitions at values from outside.
use Rattle.std.proofs.Common.{◌≡◌, ℕ, List, [], ◌∷◌, ◌++◌, length, take, replicate, Some, None, Ok, refl}
use Rattle.ls_sums.specs.declared.order.Order.TheVariants.{Big}
use Rattle.wal_frames.specs.declared.header.WalHeader.{WalHeader}
use Rattle.wal_frames.specs.declared.fault.NotValid.TheVariants.{Sum}
use Rattle.wal_frames.specs.WalFormat.{field_at, sums_of, header_front, wal_header_bytes, read_header, HasSums}
use Rattle.wal_frames.specs.ValidPrefix.{prefix_sums, fault_behind, whole_frames, valid_frames}
use Rattle.ls_base.specs.declared.mark.Mark.{Mark}
use Rattle.wal_frames.specs.Marks.{marks_of, last_mark_of, committed_part}
use Rattle.wal_frames.specs.View.{unless_locked, view_at, view_at_rest}
use Rattle.wal_frames.specs.Scanned.{stop_of}

-- the header of a log with pages of 512 bytes and salts 1 and 2
header : List ℕ
header =
    0x37 ∷ 0x7f ∷ 0x06 ∷ 0x83 ∷ 0x00 ∷ 0x2d ∷ 0xe2 ∷ 0x18 ∷ 0 ∷ 0 ∷ 2 ∷ 0 ∷ 0 ∷ 0 ∷ 0 ∷ 0
    ∷ 0 ∷ 0 ∷ 0 ∷ 1 ∷ 0 ∷ 0 ∷ 0 ∷ 2 ∷ 0x16 ∷ 0x04 ∷ 0xca ∷ 0xd8 ∷ 0xbc ∷ 0xdd ∷ 0xa4 ∷ 0x93 ∷ []

head : WalHeader
head = record { order = Big; size = 512; seq = 0; salt1 = 1; salt2 = 2; s0 = 0x1604_cad8; s1 = 0xbcdd_a493 }

header_is_read : read_header header ≡ Ok head
unfolding read_header field_at sums_of header head
header_is_read = refl

header_is_written : wal_header_bytes head ≡ header
unfolding wal_header_bytes header_front header head
header_is_written = refl

has_sums : HasSums head
unfolding header_front sums_of head
has_sums = refl

-- two frames with pages of zeros, the second of which commits; the last sum is given
log_with : ℕ → List ℕ
log_with sum =
    header
    ++ (0 ∷ 0 ∷ 0 ∷ 1 ∷ 0 ∷ 0 ∷ 0 ∷ 0 ∷ 0 ∷ 0 ∷ 0 ∷ 1 ∷ 0 ∷ 0 ∷ 0 ∷ 2 ∷ 0x76 ∷ 0x92 ∷ 0x58 ∷ 0x77 ∷ 0x6e ∷ 0x49 ∷ 0x53
    ∷ 0x3a ∷ []) ++ replicate 512 0
    ++ (0 ∷ 0 ∷ 0 ∷ 2 ∷ 0 ∷ 0 ∷ 0 ∷ 2 ∷ 0 ∷ 0 ∷ 0 ∷ 1 ∷ 0 ∷ 0 ∷ 0 ∷ 2 ∷ 0xfd ∷ 0x52 ∷ 0xb7 ∷ 0x32 ∷ 0x59 ∷ 0x9a ∷ 0x23
    ∷ sum ∷ []) ++ replicate 512 0

both_are_valid : length (valid_frames (log_with 0xbd)) ≡ 2
unfolding log_with header read_header field_at sums_of whole_frames fault_behind prefix_sums
both_are_valid = refl

mark_of_both : last_mark_of (log_with 0xbd) ≡ Some
    (record { salt1 = 1; salt2 = 2; end = 1104; s0 = 0xfd52_b732; s1 = 0x599a_23bd; commit = 2 })
unfolding log_with header read_header field_at sums_of whole_frames fault_behind prefix_sums marks_of
mark_of_both = refl

a_wrong_sum_stops : stop_of (log_with 0xbc) ≡ Some Sum
unfolding log_with header read_header field_at sums_of whole_frames fault_behind prefix_sums
a_wrong_sum_stops = refl

no_mark_before_it : last_mark_of (log_with 0xbc) ≡ None
unfolding log_with header read_header field_at sums_of whole_frames fault_behind prefix_sums marks_of
no_mark_before_it = refl

-- ---- views

-- a frame: its page number and commit size, its two sums, and the byte that fills its page
frame_of : ℕ → ℕ → List ℕ → ℕ → List ℕ
frame_of number commit sums byte =
    (0 ∷ 0 ∷ 0 ∷ number ∷ 0 ∷ 0 ∷ 0 ∷ commit ∷ 0 ∷ 0 ∷ 0 ∷ 1 ∷ 0 ∷ 0 ∷ 0 ∷ 2 ∷ []) ++ sums ++ replicate 512 byte

-- pages 1 and 2 and a commit of two pages, page 1 again and a commit of four, and a frame that commits nothing
two_frames : List ℕ
two_frames =
    header
    ++ frame_of 1 0 (0x3e ∷ 0x64 ∷ 0xc2 ∷ 0x68 ∷ 0x90 ∷ 0xd9 ∷ 0xa9 ∷ 0x40 ∷ []) 0x11
    ++ frame_of 2 2 (0x4e ∷ 0x04 ∷ 0x17 ∷ 0xc0 ∷ 0x5a ∷ 0x52 ∷ 0x1a ∷ 0x36 ∷ []) 0x22

three_frames : List ℕ
three_frames = two_frames ++ frame_of 1 4 (0xc2 ∷ 0xcd ∷ 0x5c ∷ 0x74 ∷ 0xd4 ∷ 0x5e ∷ 0x3e ∷ 0x6d ∷ []) 0x44

four_frames : List ℕ
four_frames = three_frames ++ frame_of 3 0 (0xec ∷ 0x30 ∷ 0xce ∷ 0xfc ∷ 0x10 ∷ 0x8b ∷ 0x5f ∷ 0x08 ∷ []) 0x33

first : Mark
first = record { salt1 = 1; salt2 = 2; end = 1104; s0 = 0x4e04_17c0; s1 = 0x5a52_1a36; commit = 2 }

second : Mark
second = record { salt1 = 1; salt2 = 2; end = 1640; s0 = 0xc2cd_5c74; s1 = 0xd45e_3e6d; commit = 4 }

two_marks : marks_of four_frames ≡ first ∷ second ∷ []
unfolding marks_of four_frames three_frames two_frames frame_of header first second read_header field_at sums_of
    whole_frames fault_behind prefix_sums
two_marks = refl

committed_before_a_loose_frame : committed_part four_frames ≡ three_frames
unfolding marks_of four_frames three_frames two_frames frame_of header read_header field_at sums_of whole_frames
    fault_behind prefix_sums
committed_before_a_loose_frame = refl

committed_before_a_part : committed_part (take 1639 three_frames) ≡ two_frames
unfolding marks_of three_frames two_frames frame_of header read_header field_at sums_of whole_frames fault_behind
    prefix_sums
committed_before_a_part = refl

nothing_committed : committed_part (take 1103 four_frames) ≡ []
unfolding marks_of four_frames three_frames two_frames frame_of header read_header field_at sums_of whole_frames
    fault_behind prefix_sums
nothing_committed = refl

-- a database file of two pages and 76 bytes of the third
file : List ℕ
file = replicate 1100 7

view_at_the_first : view_at file four_frames first ≡ record
    { page_size = Some 512; pages = replicate 512 0x11 ∷ replicate 512 0x22 ∷ [] }
unfolding four_frames three_frames two_frames frame_of header file first read_header field_at sums_of whole_frames
    fault_behind prefix_sums
view_at_the_first = refl

-- page 1 is that of its last frame, page 3 the file's with zeros behind it, and page 4 is in neither
view_at_the_second : view_at file four_frames second
    ≡ record {
      page_size = Some 512;
      pages = replicate 512 0x44 ∷ replicate 512 0x22
          ∷ (replicate 76 7 ++ replicate 436 0) ∷ replicate 512 0 ∷ [];
    }
unfolding four_frames three_frames two_frames frame_of header file second read_header field_at sums_of whole_frames
    fault_behind prefix_sums
view_at_the_second = refl

rest_view : view_at_rest 512 (replicate 700 7) ≡ record
    { page_size = Some 512; pages = replicate 512 7 ∷ (replicate 188 7 ++ replicate 324 0) ∷ [] }
rest_view = refl

an_empty_file_has_one_page : view_at_rest 512 [] ≡ record { page_size = Some 512; pages = replicate 512 0 ∷ [] }
an_empty_file_has_one_page = refl

-- with pages of 512 bytes page 2097153 holds byte 2^30
zeros_at_the_lock_page : unless_locked 512 2097153 (replicate 512 7) ≡ replicate 512 0
zeros_at_the_lock_page = refl

no_zeros_before_it : unless_locked 512 2097152 (replicate 512 7) ≡ replicate 512 7
no_zeros_before_it = refl
