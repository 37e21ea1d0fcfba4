-- What is written is read back.
use Rattle.std.proofs.Common.{◌≡◌, ◌≢◌, ℕ, ◌^◌, ◌<◌, List, ◌++◌, length, take, drop, Some, Ok, refl, arith}
use Rattle.std.proofs.lemmas.Bool.{eq-eqb, ne_eqb}
use Rattle.byteorder.specs.Numbers.{big_number-reads_back}
use Rattle.ls_base.specs.PageSize.{IsPageSize}
use Rattle.ls_base.proofs.PageSizeLemmas.{test_passes}
use Rattle.ls_sums.specs.declared.order.Order.{Order}
use Rattle.ls_sums.specs.declared.order.Order.TheVariants.{Little, Big}
use Rattle.ls_sums.specs.declared.wal_sum.WalSum.{WalSum}
use Rattle.wal_frames.specs.declared.header.WalHeader.{WalHeader}
use Rattle.wal_frames.specs.declared.frame.Frame.TheVariants.{Valid}
use Rattle.wal_frames.specs.WalFormat.{field_at, header_front, wal_header_bytes, HasSums, magic, order_of}
use Rattle.wal_frames.specs.WalFormat.{read_behind_magic, read_header}
use Rattle.wal_frames.specs.WalFrame.{frame_front, frame_bytes, summed_part, sums_after, checked}

-- each number of the header fits four bytes
pub record FitsHeader (h : WalHeader) : Type 0 where
  pub size : IsPageSize h.size
  pub small : h.size < 256 ^ 4
  pub seq : h.seq < 256 ^ 4
  pub salt1 : h.salt1 < 256 ^ 4
  pub salt2 : h.salt2 < 256 ^ 4
  pub s0 : h.s0 < 256 ^ 4
  pub s1 : h.s1 < 256 ^ 4

magic_fits : (order : Order) → magic order < 256 ^ 4
magic_fits Little = omega arith
magic_fits Big = omega arith

order_of-magic : (order : Order) → order_of (magic order) ≡ Some order
order_of-magic Little = refl
order_of-magic Big = refl

module _ (h : WalHeader) where
  bytes : List ℕ
  bytes = wal_header_bytes h

  magic_read : field_at bytes 0 ≡ magic h.order
  unfolding bytes field_at wal_header_bytes header_front
  magic_read = big_number-reads_back 4 (magic h.order) (drop 4 bytes) (magic_fits h.order)

  version_read : field_at bytes 4 ≡ 3007000
  unfolding bytes field_at wal_header_bytes header_front
  version_read = refl

  front_read : take 24 bytes ≡ header_front h
  unfolding bytes wal_header_bytes header_front
  front_read = refl

  module _ (fits : FitsHeader h) where
    size_read : field_at bytes 8 ≡ h.size
    unfolding bytes field_at wal_header_bytes header_front
    size_read = big_number-reads_back 4 h.size (drop 12 bytes) fits.small

    seq_read : field_at bytes 12 ≡ h.seq
    unfolding bytes field_at wal_header_bytes header_front
    seq_read = big_number-reads_back 4 h.seq (drop 16 bytes) fits.seq

    salt1_read : field_at bytes 16 ≡ h.salt1
    unfolding bytes field_at wal_header_bytes header_front
    salt1_read = big_number-reads_back 4 h.salt1 (drop 20 bytes) fits.salt1

    salt2_read : field_at bytes 20 ≡ h.salt2
    unfolding bytes field_at wal_header_bytes header_front
    salt2_read = big_number-reads_back 4 h.salt2 (drop 24 bytes) fits.salt2

    s0_read : field_at bytes 24 ≡ h.s0
    unfolding bytes field_at wal_header_bytes header_front
    s0_read = big_number-reads_back 4 h.s0 (drop 28 bytes) fits.s0

    s1_read : field_at bytes 28 ≡ h.s1
    unfolding bytes field_at wal_header_bytes header_front
    s1_read = big_number-reads_back 4 h.s1 (drop 32 bytes) fits.s1

    long : length bytes ≡ 32
    unfolding bytes wal_header_bytes header_front
    long = refl

    behind_magic : HasSums h → read_behind_magic (Some h.order) bytes ≡ Ok h
    behind_magic sums =
        rw (
          version_read,
          size_read,
          test_passes h.size fits.size,
          front_read,
          sums,
          s0_read,
          s1_read,
          eq-eqb h.s0
              h.s0 refl,
          eq-eqb h.s1 h.s1 refl,
          seq_read,
          salt1_read,
          salt2_read,
        ) refl

    pub header_reads_back : HasSums h → read_header (wal_header_bytes h) ≡ Ok h
    unfolding read_header bytes
    header_reads_back sums = rw (long, magic_read, order_of-magic h.order) (behind_magic sums)

-- each number of the frame fits four bytes
pub record FitsFrame (h : WalHeader) (sums : WalSum) (number commit : ℕ) : Type 0 where
  pub number_small : number < 256 ^ 4
  pub commit_small : commit < 256 ^ 4
  pub salt1 : h.salt1 < 256 ^ 4
  pub salt2 : h.salt2 < 256 ^ 4
  pub s0 : sums.s0 < 256 ^ 4
  pub s1 : sums.s1 < 256 ^ 4

module _ (h : WalHeader) (sums : WalSum) (number commit : ℕ) (page : List ℕ) where
  frame : List ℕ
  frame = frame_bytes h sums number commit page

  part_read : summed_part frame ≡ frame_front number commit ++ page
  unfolding frame frame_bytes
  part_read = refl

  module _ (fits : FitsFrame h sums number commit) where
    number_read : field_at frame 0 ≡ number
    unfolding frame field_at frame_bytes
    number_read = big_number-reads_back 4 number (drop 4 frame) fits.number_small

    commit_read : field_at frame 4 ≡ commit
    unfolding frame field_at frame_bytes
    commit_read = big_number-reads_back 4 commit (drop 8 frame) fits.commit_small

    frame_salt1_read : field_at frame 8 ≡ h.salt1
    unfolding frame field_at frame_bytes
    frame_salt1_read = big_number-reads_back 4 h.salt1 (drop 12 frame) fits.salt1

    frame_salt2_read : field_at frame 12 ≡ h.salt2
    unfolding frame field_at frame_bytes
    frame_salt2_read = big_number-reads_back 4 h.salt2 (drop 16 frame) fits.salt2

    frame_s0_read : field_at frame 16 ≡ sums.s0
    unfolding frame field_at frame_bytes
    frame_s0_read = big_number-reads_back 4 sums.s0 (drop 20 frame) fits.s0

    frame_s1_read : field_at frame 20 ≡ sums.s1
    unfolding frame field_at frame_bytes
    frame_s1_read = big_number-reads_back 4 sums.s1 (drop 24 frame) fits.s1

    pub frame_is_valid : (before : WalSum) → number ≢ 0 → sums ≡ sums_after h.order before
        (frame_front number commit ++ page) → checked h before (frame_bytes h sums number commit page) ≡ Valid number
        commit sums
    unfolding frame
    frame_is_valid before some is =
        rw (
          part_read,
          ← is,
          number_read,
          frame_salt1_read,
          frame_salt2_read,
          frame_s0_read,
          frame_s1_read,
          eq-eqb h.salt1 h.salt1 refl,
          eq-eqb h.salt2 h.salt2 refl,
          ne_eqb number 0 some,
          eq-eqb sums.s0 sums.s0 refl,
          eq-eqb sums.s1 sums.s1 refl,
          commit_read,
          number_read,
        ) refl
