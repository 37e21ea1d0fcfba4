-- The frames of a log: SQLite database file format, sections 4.1 and 4.2.
use Rattle.std.specs.Prelude.{ℕ, ◌+◌, ◌==◌, ◌&&◌, not, if◌then◌else◌, List, ◌++◌, take, drop, Option, Some, None}
use Rattle.byteorder.specs.Endian.{big_bytes}
use Rattle.ls_sums.specs.declared.order.Order.{Order}
use Rattle.ls_sums.specs.declared.wal_sum.WalSum.{WalSum}
use Rattle.ls_sums.specs.WalSum.{words, after_words}
use Rattle.wal_frames.specs.declared.header.WalHeader.{WalHeader}
use Rattle.wal_frames.specs.declared.fault.NotValid.{NotValid}
use Rattle.wal_frames.specs.declared.fault.NotValid.TheVariants.{Salt, Zero, Sum}
use Rattle.wal_frames.specs.declared.frame.Frame.{Frame}
use Rattle.wal_frames.specs.declared.frame.Frame.TheVariants.{Valid, Not}
use Rattle.wal_frames.specs.WalFormat.{field_at, sums_at, are_same}

-- ---- one frame: page number, size after the commit or 0, two salts, two sums, and the page

-- the length of a frame
abbrev pub frame_length : WalHeader → ℕ
frame_length h = 24 + h.size

abbrev pub page_number : List ℕ → ℕ
page_number frame = field_at frame 0

-- the size of the database in pages after the commit; 0 where the frame doesn't commit
abbrev pub commit_size : List ℕ → ℕ
commit_size frame = field_at frame 4

abbrev pub frame_page : List ℕ → List ℕ
frame_page frame = drop 24 frame

-- the part of a frame that the sums are over
abbrev pub summed_part : List ℕ → List ℕ
summed_part frame = take 8 frame ++ frame_page frame

-- The first failed test of a frame under the header, where these are the sums up to and with it: the salts,
-- a page number other than 0, and the stored sums.
abbrev pub frame_fault : WalHeader → WalSum → List ℕ → Option NotValid
frame_fault h sums frame =
    if not (field_at frame 8 == h.salt1 && field_at frame 12 == h.salt2) then Some Salt
    else if page_number frame == 0 then Some Zero
    else if not (are_same sums (sums_at frame 16)) then Some Sum
    else None

-- the sums after a frame's part, from those before it on
unfoldable pub sums_after : Order → WalSum → List ℕ → WalSum
sums_after order sums part = after_words sums (words order part)

-- what the frame says, or its fault
abbrev pub frame_as : Option NotValid → WalSum → List ℕ → Frame
frame_as None sums frame = Valid (page_number frame) (commit_size frame) sums
frame_as (Some fault) sums frame = Not fault

-- the answer for a frame, where these are the sums before it
abbrev pub checked : WalHeader → WalSum → List ℕ → Frame
checked h before frame =
    let sums = sums_after h.order before (summed_part frame) in frame_as (frame_fault h sums frame) sums frame

-- ---- a frame that is written

abbrev pub frame_front : ℕ → ℕ → List ℕ
frame_front number commit = big_bytes 4 number ++ big_bytes 4 commit

-- the bytes of a frame, where these are the sums up to and with it
unfoldable pub frame_bytes : WalHeader → WalSum → ℕ → ℕ → List ℕ → List ℕ
frame_bytes h sums number commit page =
    frame_front number commit ++ big_bytes 4 h.salt1 ++ big_bytes 4 h.salt2
    ++ big_bytes 4 sums.s0 ++ big_bytes 4 sums.s1 ++ page
