-- The check over long input: what a ring of 64 words holds.
use Rattle.std.specs.Prelude.{◌≡◌, ℕ, ◌+◌, ◌*◌, ◌/◌, ◌^◌, List, [], ◌∷◌, bit_xor}
use Rattle.ls_sums.specs.Crc64.{after_bits, after_bytes}
use Rattle.ls_sums.specs.Word.{after_word}

-- the words as one number, the lowest first
unfoldable pub number_of_words : List ℕ → ℕ
number_of_words [] = 0
number_of_words (word ∷ words) = word + 2 ^ 64 * number_of_words words

-- what the 64 words of a number add to the 64 words behind them when each is moved to the places 60, 61, 63
-- and 64 words later
unfoldable pub moved : ℕ → ℕ
moved n = bit_xor (bit_xor (n / 2 ^ 256) (n / 2 ^ 192)) (bit_xor (n / 2 ^ 64) n)

-- the register and what is moved are the same 64 words later
unfoldable pub HoldsNumber : ℕ → ℕ → Type 0
HoldsNumber n register = after_bits 4096 register ≡ after_bits 4096 (moved n)

-- the ring stands for this register
abbrev pub Holds : List ℕ → ℕ → Type 0
Holds ring register = HoldsNumber (number_of_words ring) register

-- the bytes do to a register what the word does
abbrev pub IsWord : List ℕ → ℕ → Type 0
IsWord bytes word = (register : ℕ) → after_bytes register bytes ≡ after_word register word
