-- Bit steps: they are linear under exclusive or, and they add up.
use Rattle.std.proofs.Common.{◌≡◌, ℕ, zero, suc, ◌+◌, ◌*◌, ◌/◌, ◌%◌, ◌^◌, ◌<◌, eqb, refl, sym, ap, ◌∙◌, ◌==◌}
use Rattle.std.proofs.Common.{if◌then◌else◌, arith}
use Rattle.std.specs.Int.Bits.{bit_xor, xor_assoc}
use Rattle.std.proofs.lemmas.Bool.{cond_both}
use Rattle.std.proofs.lemmas.Nat.{xor_shr, xor_mod, xor_lt, mod_below}
use Rattle.std.proofs.Math.Nat.{pow-suc, mul_assoc}
use Rattle.ls_sums.specs.Crc64.{after_bit, after_bits}
use Rattle.ls_sums.proofs.XorLemmas.{xor_swap, xor_twice}

-- a step by the bit that leaves and by the others
abbrev step : ℕ → ℕ → ℕ
step leaving others = if leaving == 1 then bit_xor others 0xD800_0000_0000_0000 else others

step-xor : (r s a b : ℕ) → r < 2 → s < 2 → step (bit_xor r s) (bit_xor a b) ≡ bit_xor (step r a) (step s b)
step-xor zero zero a b p q = refl
step-xor (suc zero) zero a b p q = xor_swap a b 0xD800_0000_0000_0000
step-xor zero (suc zero) a b p q = xor_assoc a b 0xD800_0000_0000_0000
step-xor (suc zero) (suc zero) a b p q = sym (xor_twice a b 0xD800_0000_0000_0000)
step-xor (suc (suc r)) s a b p q = absurd (omega arith)
step-xor r (suc (suc s)) a b p q = absurd (omega arith)

pub after_bit-xor : (a b : ℕ) → after_bit (bit_xor a b) ≡ bit_xor (after_bit a) (after_bit b)
after_bit-xor a b =
    ap (λ (r : ℕ). step r (bit_xor a b / 2)) (xor_mod a b 1)
    ∙ ap (λ (h : ℕ). step (bit_xor (a % 2) (b % 2)) h) (xor_shr a b 1)
    ∙ step-xor (a % 2) (b % 2) (a / 2) (b / 2) (mod_below a 2 (omega arith)) (mod_below b 2 (omega arith))

pub after_bits-zero : (register : ℕ) → after_bits 0 register ≡ register
unfolding after_bits
after_bits-zero register = refl

pub after_bits-suc : (n register : ℕ) → after_bits (suc n) register ≡ after_bits n (after_bit register)
unfolding after_bits
after_bits-suc n register = refl

pub after_bits-xor : (n a b : ℕ) → after_bits n (bit_xor a b) ≡ bit_xor (after_bits n a) (after_bits n b)
unfolding after_bits
after_bits-xor zero a b = refl
after_bits-xor (suc n) a b =
    ap (λ (x : ℕ). after_bits n x) (after_bit-xor a b) ∙ after_bits-xor n (after_bit a) (after_bit b)

-- m bits and then n
pub after_bits-add : (m n register : ℕ) → after_bits n (after_bits m register) ≡ after_bits (m + n) register
unfolding after_bits
after_bits-add zero n register = let e : zero + n ≡ n = omega arith in ap (λ (k : ℕ). after_bits k register) (sym e)
after_bits-add (suc m) n register =
    let e : suc m + n ≡ suc (m + n) = omega arith in
    after_bits-add m n (after_bit register) ∙ ap (λ (k : ℕ). after_bits k register) (sym e)

after_bit-even : (half : ℕ) → after_bit (half * 2) ≡ half
after_bit-even half =
    let even : half * 2 % 2 ≡ 0 = omega arith in
    let halved : half * 2 / 2 ≡ half = omega arith in
    ap (λ (r : ℕ). step r (half * 2 / 2)) even ∙ halved

-- n bits of a number that was shifted up by n give it back
pub after_bits-shifted : (n a : ℕ) → after_bits n (a * 2 ^ n) ≡ a
unfolding after_bits
after_bits-shifted zero a = omega arith
after_bits-shifted (suc n) a =
    let e : a * 2 ^ suc n ≡ a * 2 ^ n * 2 = ap (λ (x : ℕ). a * x) (pow-suc 2 n) ∙ sym (mul_assoc a (2 ^ n) 2) in
    ap (λ (x : ℕ). after_bits n (after_bit x)) e ∙ ap (λ (x : ℕ). after_bits n x) (after_bit-even (a * 2 ^ n))
    ∙ after_bits-shifted n a

after_bit-lt : (register : ℕ) → register < 2 ^ 64 → after_bit register < 2 ^ 64
after_bit-lt register lt =
    let half : register / 2 < 2 ^ 64 = omega arith in
    cond_both (eqb (register % 2) 1) (bit_xor (register / 2) 0xD800_0000_0000_0000) (register / 2) (λ x. x < 2 ^ 64)
    (λ e. xor_lt 64 (register / 2) 0xD800_0000_0000_0000 half (omega arith)) (λ e. half)

pub after_bits-lt : (n register : ℕ) → register < 2 ^ 64 → after_bits n register < 2 ^ 64
unfolding after_bits
after_bits-lt zero register lt = lt
after_bits-lt (suc n) register lt = after_bits-lt n (after_bit register) (after_bit-lt register lt)
