-- The check has 64 bits.
use Rattle.std.proofs.Common.{ℕ, zero, suc, ◌^◌, ◌<◌, ◌/◌, ◌%◌, List, [], ◌∷◌, eqb, get_or, arith}
use Rattle.std.specs.Prelude.{bit_xor}
use Rattle.std.proofs.lemmas.Bool.{cond_both}
use Rattle.std.proofs.lemmas.Nat.{xor_lt, or_lt}
use Rattle.ls_sums.specs.Crc64.{after_bit, after_bits, after_byte, after_bytes, all_ones, crc64}
use Rattle.ltx_format.specs.LtxFormat.{file_sum}

after_bit-lt : (register : ℕ) → register < 2 ^ 64 → after_bit register < 2 ^ 64
after_bit-lt register lt =
    let half : register / 2 < 2 ^ 64 = omega arith in
    cond_both (eqb (register % 2) 1) (bit_xor (register / 2) 0xD800_0000_0000_0000) (register / 2) (λ x. x < 2 ^ 64)
    (λ e. xor_lt 64 (register / 2) 0xD800_0000_0000_0000 half (omega arith)) (λ e. half)

after_bits-lt : (n register : ℕ) → register < 2 ^ 64 → after_bits n register < 2 ^ 64
unfolding after_bits
after_bits-lt zero register lt = lt
after_bits-lt (suc n) register lt = after_bits-lt n (after_bit register) (after_bit-lt register lt)

after_bytes-lt : (register : ℕ) (bytes : List ℕ) → register < 2 ^ 64 → ((i : ℕ) → get_or bytes i 0 < 256)
    → after_bytes register bytes < 2 ^ 64
after_bytes-lt register [] lt fits = lt
after_bytes-lt register (byte ∷ bytes) lt fits =
    let small = fits 0 in
    after_bytes-lt (after_byte register byte) bytes (after_bits-lt 8 (bit_xor register byte)
    (xor_lt 64 register byte lt (omega (arith, small)))) (λ i. fits (suc i))

-- a file's sum has 64 bits
pub file_sum-lt : (bytes : List ℕ) → ((i : ℕ) → get_or bytes i 0 < 256) → file_sum bytes < 2 ^ 64
file_sum-lt bytes fits = or_lt 64 (crc64 bytes) (2 ^ 63) (xor_lt 64 (after_bytes all_ones bytes) all_ones
    (after_bytes-lt all_ones bytes (omega arith) fits) (omega arith)) (omega arith)
