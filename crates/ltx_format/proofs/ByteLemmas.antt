-- What a file holds are bytes.
use Rattle.std.proofs.Common.{ℕ, zero, suc, ◌-◌, ◌<◌, List, [], ◌∷◌, ◌++◌, length, Bool, true, false, sym, subst, arith}
use Rattle.std.specs.Prelude.{replicate}
use Rattle.std.specs.List.{flat_map}
use Rattle.std.specs.Int.{bytes_high_first, byte_at}
use Rattle.std.specs.FinMap.{entries, keys}
use Rattle.std.proofs.lemmas.List.Concat.{flat_map-cons}
use Rattle.ls_base.specs.Change.{Change}
use Rattle.ls_base.specs.declared.place.Place.{Place}
use Rattle.ls_base.specs.declared.place.Place.TheVariants.{Wal, Rest}
use Rattle.ltx_format.specs.declared.header.LtxHeader.{LtxHeader}
use Rattle.ltx_format.specs.LtxFormat.{log_fields, sum_fields, header_flags, header_bytes, index_part, page_block}
use Rattle.ltx_format.specs.LtxFormat.{file_sum, summed_bytes, ltx_bytes, ArePages, IsLtxFile}
use Rattle.ltx_format.proofs.FieldLaws.{AreBytes}
use Rattle.ltx_format.proofs.BlockLoop.{Blocks}
use Rattle.ltx_format.proofs.BlockLaws.{AreBlocks}
use Rattle.ltx_format.proofs.IndexLaws.{number_fields}
use Rattle.ltx_format.proofs.PageLemmas.{blocks-from_pages}

pub AreBytes-none : AreBytes []
AreBytes-none i = omega arith

pub AreBytes-cons : (byte : ℕ) (bytes : List ℕ) → byte < 256 → AreBytes bytes → AreBytes (byte ∷ bytes)
AreBytes-cons byte bytes first rest zero = first
AreBytes-cons byte bytes first rest (suc i) = rest i

pub AreBytes-append : (a b : List ℕ) → AreBytes a → AreBytes b → AreBytes (a ++ b)
AreBytes-append [] b first rest = rest
AreBytes-append (byte ∷ a) b first rest = AreBytes-cons byte (a ++ b) (first 0)
    (AreBytes-append a b (λ i. first (suc i)) rest)

-- the same as a record, whose list is found from it
record Fits (bytes : List ℕ) : Type 0 where
  all : AreBytes bytes

both : {a b : List ℕ} → Fits a → Fits b → Fits (a ++ b)
both {a = a} {b = b} first rest = record { all = AreBytes-append a b first.all rest.all }

zero_bytes : (n : ℕ) → AreBytes (replicate n 0)
zero_bytes zero = AreBytes-none
zero_bytes (suc n) = AreBytes-cons 0 (replicate n 0) (omega arith) (zero_bytes n)

zeros : (n : ℕ) → Fits (replicate n 0)
zeros n = record { all = zero_bytes n }

byte_at-lt : (i n : ℕ) → byte_at i n < 256
byte_at-lt zero n = omega arith
byte_at-lt (suc i) n = omega arith

number_bytes : (k n : ℕ) → AreBytes (bytes_high_first k n)
number_bytes zero n = AreBytes-none
number_bytes (suc k) n = AreBytes-cons (byte_at k n) (bytes_high_first k n) (byte_at-lt k n) (number_bytes k n)

big : (k n : ℕ) → Fits (bytes_high_first k n)
big k n = record { all = number_bytes k n }

log_bytes : (place : Place) → Fits (log_fields place)
log_bytes (Wal salt1 salt2 end s0 s1) = both (both (both (big 8 32) (big 8 (end - 32))) (big 4 salt1)) (big 4 salt2)
log_bytes (Rest sum) = zeros 24

sum_bytes : (place : Place) → Fits (sum_fields place)
sum_bytes (Wal salt1 salt2 end s0 s1) = both (big 4 s0) (big 4 s1)
sum_bytes (Rest sum) = big 8 sum

header_fits : (h : LtxHeader) → Fits (header_bytes h)
unfolding header_bytes
header_fits h =
    both (both (both (both (both (both (both (both (both (both (both
    (big 4 0x4c54_5831) (big 4 (header_flags h.index))) (big 4 h.size)) (big 4 h.commit)) (big 8 h.min)) (big 8 h.max))
    (big 8 h.moment)) (zeros 8))
    (log_bytes h.place)) (zeros 8)) (sum_bytes h.place)) (zeros 12)

pub header_are_bytes : (h : LtxHeader) → AreBytes (header_bytes h)
header_are_bytes h = (header_fits h).all

blocks_fit : (size commit last : ℕ) (blocks : Blocks) → AreBlocks size commit last blocks
    → Fits (flat_map page_block blocks)
blocks_fit size commit last [] are = record { all = AreBytes-none }
blocks_fit size commit last (block ∷ blocks) are =
    let page : Fits block.1 = record { all = are.0.small } in
    subst Fits (sym (flat_map-cons page_block block blocks))
    (both (both (both (big 4 block.0) (zeros 2)) page) (blocks_fit size commit block.0 blocks are.1))

numbers_bytes : (numbers : List ℕ) → Fits (number_fields numbers)
numbers_bytes [] = record { all = AreBytes-none }
numbers_bytes (n ∷ numbers) = both (big 4 n) (numbers_bytes numbers)

index_fits : (index : Bool) (numbers : List ℕ) → Fits (index_part index numbers)
index_fits true numbers = both (numbers_bytes numbers) (big 4 (length numbers))
index_fits false numbers = record { all = AreBytes-none }

file_fits : (h : LtxHeader) (c : Change) → ArePages h c.pages → Fits (ltx_bytes h c.pages)
file_fits h c are =
    let blocks = blocks_fit h.size h.commit 0 (entries c.pages) (blocks-from_pages h c.pages are).0 in
    both (both (both (both (both (header_fits h) blocks) (zeros 6)) (index_fits h.index (keys c.pages))) (zeros 8))
    (big 8 (file_sum (summed_bytes h c.pages)))

pub file_are_bytes : (bytes : List ℕ) (h : LtxHeader) (c : Change) → IsLtxFile bytes h c → AreBytes bytes
file_are_bytes bytes h c is = subst AreBytes (sym is.spelled) (file_fits h c is.pages).all
