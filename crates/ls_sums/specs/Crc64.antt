-- The 64-bit cyclic redundancy check of ISO 3309, as Go's `crc64.ISO` has it: the reflected polynomial
-- 0xD800000000000000, a register that begins as all ones and is inverted at the end.
use Rattle.std.specs.Prelude.{◌≡◌, ℕ, zero, suc, ◌-◌, ◌/◌, ◌%◌, ◌^◌, ◌==◌, if◌then◌else◌, List, [], ◌∷◌, bit_xor}

-- all ones
abbrev pub all_ones : ℕ
all_ones = 2 ^ 64 - 1

-- The register after one bit step: it is divided by two, and where the bit that leaves is 1 the polynomial
-- is subtracted.
abbrev pub after_bit : ℕ → ℕ
after_bit register = if register % 2 == 1 then bit_xor (register / 2) 0xD800_0000_0000_0000 else register / 2

-- after n bit steps
unfoldable pub after_bits : ℕ → ℕ → ℕ
after_bits zero register = register
after_bits (suc n) register = after_bits n (after_bit register)

-- after one more byte of the message
abbrev pub after_byte : ℕ → ℕ → ℕ
after_byte register byte = after_bits 8 (bit_xor register byte)

-- after a message
abbrev pub after_bytes : ℕ → List ℕ → ℕ
after_bytes register [] = register
after_bytes register (byte ∷ bytes) = after_bytes (after_byte register byte) bytes

-- the check of a message
abbrev pub crc64 : List ℕ → ℕ
crc64 bytes = bit_xor (after_bytes all_ones bytes) all_ones

-- the register stands behind these bytes of a message
abbrev pub IsBehind : List ℕ → ℕ → Type 0
IsBehind bytes register = register ≡ after_bytes all_ones bytes
