-- The register over several bytes at once.
use Rattle.std.specs.Prelude.{ℕ, bit_xor}
use Rattle.ls_sums.specs.Crc64.{after_bits}

-- the register after a word of eight bytes
unfoldable pub after_word : ℕ → ℕ → ℕ
after_word register word = after_bits 64 (bit_xor register word)
