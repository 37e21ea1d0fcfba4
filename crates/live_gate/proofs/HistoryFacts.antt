-- Whole logs and database files with their entries, worked out by hand.
use Rattle.std.proofs.Common.{◌≡◌, ℕ, List, [], ◌∷◌, ◌++◌, take, replicate, None, refl}
use Rattle.ls_base.specs.declared.entry.Entry.{Entry}
use Rattle.ls_base.specs.declared.place.Place.TheVariants.{Wal, Rest}
use Rattle.ls_sums.specs.Crc64.{after_bits}
use Rattle.wal_frames.specs.Marks.{marks_of}
use Rattle.wal_frames.specs.WalFormat.{field_at, sums_of, read_header}
use Rattle.wal_frames.specs.ValidPrefix.{prefix_sums, fault_behind, whole_frames}
use Rattle.wal_frames.specs.declared.header.WalHeader.{WalHeader}
use Rattle.ls_base.specs.declared.mark.Mark.{Mark}
use Rattle.wal_frames.specs.View.{page_at_mark}
use Rattle.live_gate.specs.Still.{still_history, still_database}

-- ---- logs

-- the header of a log with pages of 512 bytes and salts 1 and 2
abbrev header : List ℕ
header =
    0x37 ∷ 0x7f ∷ 0x06 ∷ 0x83 ∷ 0x00 ∷ 0x2d ∷ 0xe2 ∷ 0x18 ∷ 0 ∷ 0 ∷ 2 ∷ 0 ∷ 0 ∷ 0 ∷ 0 ∷ 0
    ∷ 0 ∷ 0 ∷ 0 ∷ 1 ∷ 0 ∷ 0 ∷ 0 ∷ 2 ∷ 0x16 ∷ 0x04 ∷ 0xca ∷ 0xd8 ∷ 0xbc ∷ 0xdd ∷ 0xa4 ∷ 0x93 ∷ []

-- a frame: its page number and commit size, its second salt, its two sums, and the byte that fills its page
abbrev frame_of : ℕ → ℕ → ℕ → List ℕ → ℕ → List ℕ
frame_of number commit salt sums byte =
    (0 ∷ 0 ∷ 0 ∷ number ∷ 0 ∷ 0 ∷ 0 ∷ commit ∷ 0 ∷ 0 ∷ 0 ∷ 1 ∷ 0 ∷ 0 ∷ 0 ∷ salt ∷ []) ++ sums ++ replicate 512 byte

abbrev unfinished : List ℕ
unfinished = header ++ frame_of 1 0 2 (0x3e ∷ 0x64 ∷ 0xc2 ∷ 0x68 ∷ 0x90 ∷ 0xd9 ∷ 0xa9 ∷ 0x40 ∷ []) 0x11

abbrev one_commit : List ℕ
one_commit = unfinished ++ frame_of 2 2 2 (0x4e ∷ 0x04 ∷ 0x17 ∷ 0xc0 ∷ 0x5a ∷ 0x52 ∷ 0x1a ∷ 0x36 ∷ []) 0x22

-- page 1 again and a commit of four pages, under this second salt
abbrev second_sums : List ℕ
second_sums = 0xc2 ∷ 0xcd ∷ 0x5c ∷ 0x74 ∷ 0xd4 ∷ 0x5e ∷ 0x3e ∷ 0x6d ∷ []

abbrev next_commit : ℕ → List ℕ
next_commit salt = one_commit ++ frame_of 1 4 salt second_sums 0x44

-- and behind it a frame that commits nothing
abbrev loose_tail : List ℕ
loose_tail = next_commit 2 ++ frame_of 3 0 2 (0xec ∷ 0x30 ∷ 0xce ∷ 0xfc ∷ 0x10 ∷ 0x8b ∷ 0x5f ∷ 0x08 ∷ []) 0x33

-- ---- entries

-- a database file of two pages and 76 bytes of the third
abbrev file : List ℕ
file = replicate 1100 7

abbrev first : Entry
first = record {
  size = 512;
  place = Wal 1 2 1104 0x4e04_17c0 0x5a52_1a36;
  pages = replicate 512 0x11 ∷ replicate 512 0x22 ∷ [];
}

-- page 3 is the file's with zeros behind it, and page 4 stands nowhere
abbrev second : Entry
second = record {
  size = 512;
  place = Wal 1 2 1640 0xc2cd_5c74 0xd45e_3e6d;
  pages = replicate 512 0x44 ∷ replicate 512 0x22 ∷ (replicate 76 7 ++ replicate 436 0) ∷ replicate 512 0 ∷ [];
}

-- a file of one page and 188 bytes of the second
abbrev at_rest : Entry
at_rest = record {
  size = 512;
  place = Rest 0xd4e2_d04f_46dc_cc9d;
  pages = replicate 512 7 ∷ (replicate 188 7 ++ replicate 324 0) ∷ [];
}

-- a file of no bytes has one page
abbrev of_nothing : Entry
of_nothing = record { size = 512; place = Rest 0xefb1_f44f_ecd9_9000; pages = replicate 512 0 ∷ [] }

two_commits_and_a_loose_tail : (still_database file loose_tail None).history ≡ first ∷ second ∷ []
unfolding still_history marks_of read_header field_at sums_of whole_frames fault_behind prefix_sums
two_commits_and_a_loose_tail = refl

the_loose_tail_is_not_committed : (still_database file loose_tail None).committed ≡ next_commit 2
unfolding marks_of read_header field_at sums_of whole_frames fault_behind prefix_sums
the_loose_tail_is_not_committed = refl

a_wrong_salt_ends_the_log : (still_database file (next_commit 3) None).history ≡ first ∷ []
unfolding still_history marks_of read_header field_at sums_of whole_frames fault_behind prefix_sums
a_wrong_salt_ends_the_log = refl

no_mark_is_at_rest : (still_database (replicate 700 7) unfinished None).history ≡ at_rest ∷ []
unfolding after_bits still_history marks_of read_header field_at sums_of whole_frames fault_behind prefix_sums
no_mark_is_at_rest = refl

no_log_is_at_rest : (still_database (replicate 700 7) [] None).history ≡ at_rest ∷ []
unfolding after_bits still_history marks_of read_header field_at
no_log_is_at_rest = refl

no_byte_is_a_page_of_zeros : (still_database [] [] None).history ≡ of_nothing ∷ []
unfolding after_bits still_history marks_of read_header field_at
no_byte_is_a_page_of_zeros = refl

-- with pages of 65536 bytes page 16385 holds byte 2^30, whatever the log and the file have there
the_lock_page_is_zeros : (h : WalHeader) (mark : Mark) (frames : List (List ℕ)) (bytes : List ℕ) → h.size ≡ 65536
    → page_at_mark h bytes frames mark 16385 ≡ replicate 65536 0
the_lock_page_is_zeros h mark frames bytes size = rw size refl
