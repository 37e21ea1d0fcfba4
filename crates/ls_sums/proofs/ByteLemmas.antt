-- The register after bytes: that after as many bits as they have, of the number that they are.
use Rattle.std.proofs.Common.{◌≡◌, ℕ, suc, ◌+◌, ◌*◌, ◌^◌, ◌<◌, List, [], ◌∷◌, ◌++◌, length, get_or, take, drop, refl}
use Rattle.std.proofs.Common.{sym, ap, ◌∙◌, arith}
use Rattle.std.specs.Int.Bits.{bit_xor, xor_assoc, xor_zero_r}
use Rattle.std.proofs.lemmas.List.{take-append-drop}
use Rattle.std.proofs.lemmas.Nat.{xor_lt, xor_comm}
use Rattle.ls_sums.specs.Crc64.{after_bits, after_bytes, after_byte, all_ones, crc64}
use Rattle.ls_sums.proofs.XorLemmas.{xor_shifted}
use Rattle.ls_sums.proofs.BitLemmas.{after_bits-zero, after_bits-xor, after_bits-add, after_bits-shifted, after_bits-lt}

-- one message behind another
pub after_bytes-append : (register : ℕ) (front back : List ℕ)
    → after_bytes (after_bytes register front) back ≡ after_bytes register (front ++ back)
after_bytes-append register [] back = refl
after_bytes-append register (byte ∷ front) back = after_bytes-append (after_byte register byte) front back

-- the number of the bytes, the lowest first
unfoldable pub number : List ℕ → ℕ
number [] = 0
number (byte ∷ bytes) = byte + 256 * number bytes

pub after_bytes-number : (register : ℕ) (bytes : List ℕ) → ((i : ℕ) → get_or bytes i 0 < 256)
    → after_bytes register bytes ≡ after_bits (8 * length bytes) (bit_xor register (number bytes))
unfolding number
after_bytes-number register [] fits = sym (xor_zero_r register) ∙ sym (after_bits-zero (bit_xor register 0))
after_bytes-number register (byte ∷ bytes) fits =
    let low : byte < 2 ^ 8 = omega (arith, fits 0) in
    let others = number bytes in
    let bits = 8 * length bytes in
    let joined : bit_xor byte (others * 2 ^ 8) ≡ byte + 256 * others = xor_comm byte (others * 2 ^ 8)
    ∙ xor_shifted others 8 byte low ∙ omega arith in
    let whole : bit_xor (bit_xor register byte) (others * 2 ^ 8) ≡ bit_xor register (byte + 256 * others)
    = xor_assoc register byte (others * 2 ^ 8) ∙ ap (λ (x : ℕ). bit_xor register x) joined in
    let count : 8 + bits ≡ 8 * length (byte ∷ bytes) = omega arith in
    after_bytes-number (after_byte register byte) bytes (λ i. fits (suc i))
    ∙ ap (λ (x : ℕ). after_bits bits (bit_xor (after_byte register byte) x)) (sym (after_bits-shifted 8 others))
    ∙ ap (λ (x : ℕ). after_bits bits x) (sym (after_bits-xor 8 (bit_xor register byte) (others * 2 ^ 8)))
    ∙ ap (λ (x : ℕ). after_bits bits (after_bits 8 x)) whole
    ∙ after_bits-add 8 bits (bit_xor register (byte + 256 * others))
    ∙ ap (λ (n : ℕ). after_bits n (bit_xor register (byte + 256 * others))) count

pub after_bytes-lt : (register : ℕ) (bytes : List ℕ) → register < 2 ^ 64 → ((i : ℕ) → get_or bytes i 0 < 256)
    → after_bytes register bytes < 2 ^ 64
after_bytes-lt register [] lt fits = lt
after_bytes-lt register (byte ∷ bytes) lt fits =
    let small = fits 0 in
    after_bytes-lt (after_byte register byte) bytes
    (after_bits-lt 8 (bit_xor register byte) (xor_lt 64 register byte lt (omega (arith, small))))
    (λ i. fits (suc i))

-- the check has 64 bits
pub crc64-lt : (bytes : List ℕ) → ((i : ℕ) → get_or bytes i 0 < 256) → crc64 bytes < 2 ^ 64
crc64-lt bytes fits = xor_lt 64 (after_bytes all_ones bytes) all_ones
    (after_bytes-lt all_ones bytes (omega arith) fits) (omega arith)

-- what stands before the bytes that a cut leaves, and they
pub after_bytes-cut : (register : ℕ) (bytes : List ℕ) (n : ℕ)
    → after_bytes (after_bytes register (take n bytes)) (drop n bytes) ≡ after_bytes register bytes
after_bytes-cut register bytes n = after_bytes-append register (take n bytes) (drop n bytes)
    ∙ ap (λ (xs : List ℕ). after_bytes register xs) (take-append-drop n bytes)
