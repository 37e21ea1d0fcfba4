-- The definitions at values from outside.
use Rattle.std.proofs.Common.{◌≡◌, ℕ, List, [], ◌∷◌, codes, refl, ap, ◌∙◌}
use Rattle.ls_sums.specs.declared.order.Order.TheVariants.{Little, Big}
use Rattle.ls_sums.specs.declared.wal_sum.WalSum.{WalSum}
use Rattle.std.specs.Int.Bits.{bit_xor, xor_zero_l, xor_zero_r}
use Rattle.ls_sums.specs.Crc64.{after_bits, crc64}
use Rattle.ls_sums.specs.PageSum.{page_sum, sums_from, rest_sum}
use Rattle.ls_sums.specs.WalSum.{words, after_words}

-- the check of the nine digits, by the catalogue of CRC algorithms (CRC-64/GO-ISO)
check_of_digits : crc64 (codes "123456789") ≡ 0xB909_56C7_75A4_1001
unfolding after_bits
check_of_digits = refl

check_of_nothing : crc64 [] ≡ 0
check_of_nothing = refl

-- the sums of no words
start : WalSum
start = record { s0 = 0; s1 = 0 }

sums_of_two_words : after_words start (words Big (0 ∷ 0 ∷ 0 ∷ 1 ∷ 0 ∷ 0 ∷ 0 ∷ 2 ∷ [])) ≡ record { s0 = 1; s1 = 3 }
unfolding start
sums_of_two_words = refl

sums_of_two_little_words : after_words start (words Little (0 ∷ 0 ∷ 0 ∷ 1 ∷ 0 ∷ 0 ∷ 0 ∷ 2 ∷ [])) ≡ record
    { s0 = 0x100_0000; s1 = 0x300_0000 }
unfolding start
sums_of_two_little_words = refl

-- the header of a log with pages of 512 bytes, without its sums
log_header : List ℕ
log_header =
    0x37 ∷ 0x7f ∷ 0x06 ∷ 0x83 ∷ 0x00 ∷ 0x2d ∷ 0xe2 ∷ 0x18 ∷ 0 ∷ 0 ∷ 2 ∷ 0 ∷ 0 ∷ 0 ∷ 0 ∷ 0
    ∷ 0 ∷ 0 ∷ 0 ∷ 1 ∷ 0 ∷ 0 ∷ 0 ∷ 2 ∷ []

sums_of_log_header : after_words start (words Big log_header) ≡ record { s0 = 0x1604_cad8; s1 = 0xbcdd_a493 }
unfolding start log_header
sums_of_log_header = refl

-- ---- pages at rest

-- of three pages the second is the lock page
lock_page_left_out : (a b c : List ℕ) → sums_from 2 1 (a ∷ b ∷ c ∷ []) ≡ bit_xor (page_sum 1 a) (page_sum 3 c)
lock_page_left_out a b c = ap (bit_xor (page_sum 1 a))
    (xor_zero_l (bit_xor (page_sum 3 c) 0) ∙ xor_zero_r (page_sum 3 c))

-- no page
rest_of_nothing : rest_sum 4096 [] ≡ 0x8000_0000_0000_0000
rest_of_nothing = refl
