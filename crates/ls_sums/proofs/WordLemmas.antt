-- The sparse polynomial: shifts in place of bit steps.
use Rattle.std.proofs.Common.{◌≡◌, ℕ, ◌+◌, ◌*◌, ◌/◌, ◌%◌, ◌^◌, ◌<◌, true, List, [], ◌∷◌, length, get_or, drop, refl}
use Rattle.std.proofs.Common.{sym, ap, ◌∙◌, arith}
use Rattle.std.specs.List.{concat}
use Rattle.std.specs.Int.{w64, from_le_bytes}
use Rattle.std.specs.Int.Bits.{bit_xor}
use Rattle.ls_sums.specs.Crc64.{after_bits, after_bytes}
use Rattle.ls_sums.specs.Word.{after_word}
use Rattle.ls_sums.proofs.BitLemmas.{after_bits-xor}
use Rattle.ls_sums.proofs.LinearLemmas.{IsLinear, agrees, AgreeBelow, agree_more, same_below, linear_xor, linear_shr}
use Rattle.ls_sums.proofs.LinearLemmas.{linear_shl}
use Rattle.ls_sums.proofs.ByteLemmas.{number, after_bytes-number, after_bytes-append}
use Rattle.ls_sums.proofs.PieceLemmas.{concat-drop}

-- the value and its copies that x^4 + x^3 + x + 1 makes
abbrev pub spread : ℕ → ℕ
spread v = bit_xor (bit_xor (bit_xor v (v / 2 ^ 1)) (v / 2 ^ 3)) (v / 2 ^ 4)

-- the value with what leaves it at the low end
abbrev pub folded : ℕ → ℕ
folded v = bit_xor (bit_xor (bit_xor v (v * 2 ^ 63 % 2 ^ 64)) (v * 2 ^ 61 % 2 ^ 64)) (v * 2 ^ 60 % 2 ^ 64)

spread-linear : (f : ℕ → ℕ) → IsLinear f → IsLinear (λ v. spread (f v))
spread-linear f lf =
    linear_xor (λ v. bit_xor (bit_xor (f v) (f v / 2 ^ 1)) (f v / 2 ^ 3)) (λ v. f v / 2 ^ 4)
    (linear_xor (λ v. bit_xor (f v) (f v / 2 ^ 1)) (λ v. f v / 2 ^ 3)
    (linear_xor f (λ v. f v / 2 ^ 1) lf (linear_shr f lf 1)) (linear_shr f lf 3)) (linear_shr f lf 4)

folded-linear : IsLinear folded
folded-linear =
    let same : IsLinear (λ v. v) = λ a b. refl in
    linear_xor (λ v. bit_xor (bit_xor v (v * 2 ^ 63 % 2 ^ 64)) (v * 2 ^ 61 % 2 ^ 64)) (λ v. v * 2 ^ 60 % 2 ^ 64)
    (linear_xor (λ v. bit_xor v (v * 2 ^ 63 % 2 ^ 64)) (λ v. v * 2 ^ 61 % 2 ^ 64)
    (linear_xor (λ v. v) (λ v. v * 2 ^ 63 % 2 ^ 64) same (linear_shl (λ v. v) same 63 64))
    (linear_shl (λ v. v) same 61 64)) (linear_shl (λ v. v) same 60 64)

-- the shifts of a word
abbrev pub word_shifts : ℕ → ℕ
word_shifts v = spread (folded v)

word_test_0 : agrees 0 16 word_shifts (after_bits 64) ≡ true
unfolding after_bits
word_test_0 = refl

word_test_16 : agrees 16 16 word_shifts (after_bits 64) ≡ true
unfolding after_bits
word_test_16 = refl

word_test_32 : agrees 32 16 word_shifts (after_bits 64) ≡ true
unfolding after_bits
word_test_32 = refl

word_test_48 : agrees 48 16 word_shifts (after_bits 64) ≡ true
unfolding after_bits
word_test_48 = refl

word_tests : AgreeBelow 64 word_shifts (after_bits 64)
word_tests =
    let f = after_bits 64 in
    agree_more word_shifts f 48 16
    (agree_more word_shifts f 32 16
    (agree_more word_shifts f 16 16 (agree_more word_shifts f 0 16 (λ i h. absurd (omega arith)) word_test_0)
    word_test_16) word_test_32) word_test_48

pub word_bits : (v : ℕ) → v < 2 ^ 64 → word_shifts v ≡ after_bits 64 v
word_bits v lt = same_below word_shifts (after_bits 64) (spread-linear folded folded-linear) (after_bits-xor 64) 64
    word_tests v lt

-- the shifts of a byte
abbrev pub byte_shifts : ℕ → ℕ
byte_shifts v =
    bit_xor (bit_xor (bit_xor (bit_xor (v / 2 ^ 8) (v * 2 ^ 56 % 2 ^ 64)) (v * 2 ^ 56 % 2 ^ 64 / 2 ^ 1))
    (v * 2 ^ 56 % 2 ^ 64 / 2 ^ 3)) (v * 2 ^ 56 % 2 ^ 64 / 2 ^ 4)

byte_shifts-linear : IsLinear byte_shifts
byte_shifts-linear =
    let same : IsLinear (λ v. v) = λ a b. refl in
    let low : IsLinear (λ v. v * 2 ^ 56 % 2 ^ 64) = linear_shl (λ v. v) same 56 64 in
    let leaving : ℕ → ℕ = λ v. v * 2 ^ 56 % 2 ^ 64 in
    linear_xor (λ v. bit_xor (bit_xor (bit_xor (v / 2 ^ 8) (v * 2 ^ 56 % 2 ^ 64)) (v * 2 ^ 56 % 2 ^ 64 / 2 ^ 1))
    (v * 2 ^ 56 % 2 ^ 64 / 2 ^ 3)) (λ v. v * 2 ^ 56 % 2 ^ 64 / 2 ^ 4)
    (linear_xor (λ v. bit_xor (bit_xor (v / 2 ^ 8) (v * 2 ^ 56 % 2 ^ 64)) (v * 2 ^ 56 % 2 ^ 64 / 2 ^ 1))
    (λ v. v * 2 ^ 56 % 2 ^ 64 / 2 ^ 3)
    (linear_xor (λ v. bit_xor (v / 2 ^ 8) (v * 2 ^ 56 % 2 ^ 64)) (λ v. v * 2 ^ 56 % 2 ^ 64 / 2 ^ 1)
    (linear_xor (λ v. v / 2 ^ 8) (λ v. v * 2 ^ 56 % 2 ^ 64) (linear_shr (λ v. v) same 8) low)
    (linear_shr leaving low 1)) (linear_shr leaving low 3)) (linear_shr leaving low 4)

byte_test_0 : agrees 0 64 byte_shifts (after_bits 8) ≡ true
unfolding after_bits
byte_test_0 = refl

pub byte_bits : (v : ℕ) → v < 2 ^ 64 → byte_shifts v ≡ after_bits 8 v
byte_bits v lt =
    same_below byte_shifts (after_bits 8) byte_shifts-linear (after_bits-xor 8) 64
    (agree_more byte_shifts (after_bits 8) 0 64 (λ i h. absurd (omega arith)) byte_test_0) v lt

pub after_word-is : (register word : ℕ) → after_bits 64 (bit_xor register word) ≡ after_word register word
unfolding after_word
after_word-is register word = refl

-- a word is the number of its bytes
pub word_number : (bytes : List ℕ) → length bytes ≡ 8 → from_le_bytes w64 bytes ≡ number bytes
unfolding number
word_number (a ∷ b ∷ c ∷ d ∷ e ∷ f ∷ g ∷ h ∷ []) eight = omega arith
word_number (a ∷ b ∷ c ∷ d ∷ e ∷ f ∷ g ∷ h ∷ i ∷ bytes) eight = absurd (omega arith)
word_number (a ∷ b ∷ c ∷ d ∷ e ∷ f ∷ g ∷ []) eight = absurd (omega arith)
word_number (a ∷ b ∷ c ∷ d ∷ e ∷ f ∷ []) eight = absurd (omega arith)
word_number (a ∷ b ∷ c ∷ d ∷ e ∷ []) eight = absurd (omega arith)
word_number (a ∷ b ∷ c ∷ d ∷ []) eight = absurd (omega arith)
word_number (a ∷ b ∷ c ∷ []) eight = absurd (omega arith)
word_number (a ∷ b ∷ []) eight = absurd (omega arith)
word_number (a ∷ []) eight = absurd (omega arith)
word_number [] eight = absurd (omega arith)

-- the eight bytes of a word
pub after_bytes-word : (register : ℕ) (bytes : List ℕ) → length bytes ≡ 8 → ((i : ℕ) → get_or bytes i 0 < 256)
    → after_bytes register bytes ≡ after_word register (from_le_bytes w64 bytes)
after_bytes-word register bytes eight fits =
    let bits : 8 * length bytes ≡ 64 = omega (arith, eight) in
    after_bytes-number register bytes fits
    ∙ ap (λ (n : ℕ). after_bits n (bit_xor register (number bytes))) bits
    ∙ ap (λ (x : ℕ). after_bits 64 (bit_xor register x)) (sym (word_number bytes eight))
    ∙ after_word-is register (from_le_bytes w64 bytes)

-- one more piece
pub register_of_piece : (register : ℕ) (pieces : List (List ℕ)) (i : ℕ) → i < length pieces
    → after_bytes (after_bytes register (get_or pieces i [])) (concat (drop (i + 1) pieces)) ≡ after_bytes register
    (concat (drop i pieces))
register_of_piece register pieces i lt =
    after_bytes-append register (get_or pieces i []) (concat (drop (i + 1) pieces))
    ∙ ap (λ (xs : List ℕ). after_bytes register xs) (sym (concat-drop pieces i lt))
