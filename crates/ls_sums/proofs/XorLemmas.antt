-- The order of terms in an exclusive or, and its parts.
use Rattle.std.proofs.Common.{◌≡◌, ℕ, ◌+◌, ◌*◌, ◌^◌, ◌<◌, sym, ap, ◌∙◌, arith}
use Rattle.std.specs.Int.Bits.{bit_xor, xor_assoc, xor_self, xor_zero_l, xor_zero_r}
use Rattle.std.proofs.lemmas.Nat.{xor_comm, xor_block, pow_pos}

pub xor_swap : (a b c : ℕ) → bit_xor (bit_xor a b) c ≡ bit_xor (bit_xor a c) b
xor_swap a b c = xor_assoc a b c ∙ ap (λ (x : ℕ). bit_xor a x) (xor_comm b c) ∙ sym (xor_assoc a c b)

pub xor_four : (a b c d : ℕ) → bit_xor (bit_xor a b) (bit_xor c d) ≡ bit_xor (bit_xor a c) (bit_xor b d)
xor_four a b c d =
    sym (xor_assoc (bit_xor a b) c d) ∙ ap (λ (x : ℕ). bit_xor x d) (xor_swap a b c) ∙ xor_assoc (bit_xor a c) b d

-- what stands on both sides goes
pub xor_twice : (a b c : ℕ) → bit_xor (bit_xor a c) (bit_xor b c) ≡ bit_xor a b
xor_twice a b c = xor_four a c b c ∙ ap (λ (x : ℕ). bit_xor (bit_xor a b) x) (xor_self c) ∙ xor_zero_r (bit_xor a b)

-- what was shifted up, and what fits below it
pub xor_shifted : (a k b : ℕ) → b < 2 ^ k → bit_xor (a * 2 ^ k) b ≡ a * 2 ^ k + b
xor_shifted a k b lt =
    let left : a * 2 ^ k ≡ a * 2 ^ k + 0 = omega arith in
    let right : b ≡ 0 * 2 ^ k + b = omega arith in
    ap (λ (x : ℕ). bit_xor x b) left ∙ ap (λ (x : ℕ). bit_xor (a * 2 ^ k + 0) x) right
    ∙ xor_block k a 0 0 b (pow_pos k) lt
    ∙ ap (λ (x : ℕ). x * 2 ^ k + bit_xor 0 b) (xor_zero_r a) ∙ ap (λ (x : ℕ). a * 2 ^ k + x) (xor_zero_l b)

-- what is shifted up
pub xor_shl : (a b k : ℕ) → bit_xor a b * 2 ^ k ≡ bit_xor (a * 2 ^ k) (b * 2 ^ k)
xor_shl a b k =
    let left : a * 2 ^ k ≡ a * 2 ^ k + 0 = omega arith in
    let right : b * 2 ^ k ≡ b * 2 ^ k + 0 = omega arith in
    let none : bit_xor a b * 2 ^ k + 0 ≡ bit_xor a b * 2 ^ k = omega arith in
    sym (ap (λ (x : ℕ). bit_xor x (b * 2 ^ k)) left ∙ ap (λ (x : ℕ). bit_xor (a * 2 ^ k + 0) x) right
    ∙ xor_block k a b 0 0 (pow_pos k) (pow_pos k) ∙ none)
