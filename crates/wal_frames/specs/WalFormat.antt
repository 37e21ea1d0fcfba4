-- The write-ahead log: SQLite database file format, sections 4.1 and 4.2. All numbers are big-endian; the
-- sums read words in the order that the magic names.
use Rattle.std.specs.Prelude.{◌≡◌, ◌^◌, ◌<◌, ℕ, ◌+◌, ◌==◌, ◌&&◌, not, nat_lt, if◌then◌else◌}
use Rattle.std.specs.Prelude.{List, ◌++◌, length, take, drop, Bool, Option, Some, None, Result, Ok, Err}
use Rattle.byteorder.specs.Endian.{big_number, big_bytes}
use Rattle.ls_base.specs.PageSize.{IsPageSize, is_page_size}
use Rattle.ls_sums.specs.declared.order.Order.{Order}
use Rattle.ls_sums.specs.declared.order.Order.TheVariants.{Little, Big}
use Rattle.ls_sums.specs.declared.wal_sum.WalSum.{WalSum}
use Rattle.ls_sums.specs.WalSum.{words, after_words}
use Rattle.wal_frames.specs.declared.header.WalHeader.{WalHeader}
use Rattle.wal_frames.specs.declared.fault.WalHeaderFault.{WalHeaderFault}
use Rattle.wal_frames.specs.declared.fault.WalHeaderFault.TheVariants.{Short, BadMagic, BadVersion, BadSize, BadSum}

-- the number in the four bytes from `at` on
unfoldable pub field_at : List ℕ → ℕ → ℕ
field_at bytes at = big_number 4 (drop at bytes)

-- two numbers, one behind the other, as sums
abbrev pub sums_at : List ℕ → ℕ → WalSum
sums_at bytes at = record { s0 = field_at bytes at; s1 = field_at bytes (at + 4) }

abbrev pub are_same : WalSum → WalSum → Bool
are_same a b = a.s0 == b.s0 && a.s1 == b.s1

-- the sums of a list of bytes, from (0, 0) on
unfoldable pub sums_of : Order → List ℕ → WalSum
sums_of order bytes = after_words (record { s0 = 0; s1 = 0 }) (words order bytes)

-- ---- the header: magic, version, page size, checkpoint sequence, two salts, and the sums of these 24 bytes

abbrev pub magic : Order → ℕ
magic Little = 0x377f_0682
magic Big = 0x377f_0683

abbrev pub order_of : ℕ → Option Order
order_of number = if number == 0x377f_0682 then Some Little else if number == 0x377f_0683 then Some Big else None

-- the bytes that the header's sums are over
unfoldable pub header_front : WalHeader → List ℕ
header_front h =
    big_bytes 4 (magic h.order) ++ big_bytes 4 3007000 ++ big_bytes 4 h.size ++ big_bytes 4 h.seq
    ++ big_bytes 4 h.salt1 ++ big_bytes 4 h.salt2

-- the header's 32 bytes
unfoldable pub wal_header_bytes : WalHeader → List ℕ
wal_header_bytes h = header_front h ++ big_bytes 4 h.s0 ++ big_bytes 4 h.s1

abbrev pub HasSums : WalHeader → Type 0
HasSums h = sums_of h.order (header_front h) ≡ record { s0 = h.s0; s1 = h.s1 }

-- the header says this
pub record HasFields (h : WalHeader) (order : Order) (size seq salt1 salt2 : ℕ) : Type 0 where
  pub is_order : h.order ≡ order
  pub is_size : h.size ≡ size
  pub is_seq : h.seq ≡ seq
  pub is_salt1 : h.salt1 ≡ salt1
  pub is_salt2 : h.salt2 ≡ salt2

-- what stands before the sums fits its bytes
pub record FitsFront (h : WalHeader) : Type 0 where
  pub size : IsPageSize h.size
  pub seq : h.seq < 2 ^ 32
  pub salt1 : h.salt1 < 2 ^ 32
  pub salt2 : h.salt2 < 2 ^ 32

-- the fields of a header whose magic names this order
abbrev pub header_in : Order → List ℕ → WalHeader
header_in order bytes = record {
  order = order;
  size = field_at bytes 8;
  seq = field_at bytes 12;
  salt1 = field_at bytes 16;
  salt2 = field_at bytes 20;
  s0 = field_at bytes 24;
  s1 = field_at bytes 28;
}

-- the tests behind the magic
abbrev pub read_behind_magic : Option Order → List ℕ → Result WalHeader WalHeaderFault
read_behind_magic None bytes = Err BadMagic
read_behind_magic (Some order) bytes =
    if not (field_at bytes 4 == 3007000) then Err BadVersion
    else if not (is_page_size (field_at bytes 8)) then Err BadSize
    else if not (are_same (sums_of order (take 24 bytes)) (sums_at bytes 24)) then Err BadSum
    else Ok (header_in order bytes)

-- the header with which bytes begin, or its first failed test
unfoldable pub read_header : List ℕ → Result WalHeader WalHeaderFault
read_header bytes =
    if nat_lt (length bytes) 32 then Err Short else read_behind_magic (order_of (field_at bytes 0)) bytes
