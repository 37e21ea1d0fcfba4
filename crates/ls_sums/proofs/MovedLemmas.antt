-- What the words of a ring add to those behind them, as numbers.
use Rattle.std.proofs.Common.{◌≡◌, ℕ, ◌+◌, ◌*◌, ◌/◌, ◌%◌, ◌^◌, ◌<◌, refl, sym, ap, ◌∙◌, arith}
use Rattle.std.specs.Int.Bits.{bit_xor, xor_assoc}
use Rattle.std.proofs.lemmas.Nat.{xor_comm, xor_shr, shr-shr, shl-shr, pow-add, mod_below, shr_below}
use Rattle.std.proofs.Math.Nat.{mul_assoc}
use Rattle.ls_sums.specs.Crc64.{after_bits}
use Rattle.ls_sums.specs.Word.{after_word}
use Rattle.ls_sums.specs.Window.{moved, HoldsNumber}
use Rattle.ls_sums.proofs.XorLemmas.{xor_shifted}
use Rattle.ls_sums.proofs.BitLemmas.{after_bits-xor, after_bits-add, after_bits-shifted, after_bits-lt}
use Rattle.ls_sums.proofs.LinearLemmas.{IsLinear, linear_xor, linear_shr}
use Rattle.ls_sums.proofs.SquareLemmas.{bits_commute, rule_4096}
use Rattle.ls_sums.proofs.WordLemmas.{after_word-is}

pub moved-linear : IsLinear moved
unfolding moved
moved-linear =
    let same : IsLinear (λ v. v) = λ a b. refl in
    linear_xor (λ v. bit_xor (v / 2 ^ 256) (v / 2 ^ 192)) (λ v. bit_xor (v / 2 ^ 64) v)
    (linear_xor (λ v. v / 2 ^ 256) (λ v. v / 2 ^ 192) (linear_shr (λ v. v) same 256) (linear_shr (λ v. v) same 192))
    (linear_xor (λ v. v / 2 ^ 64) (λ v. v) (linear_shr (λ v. v) same 64) same)

shr_swap : (n j k : ℕ) → n / 2 ^ j / 2 ^ k ≡ n / 2 ^ k / 2 ^ j
shr_swap n j k =
    let e : j + k ≡ k + j = omega arith in
    shr-shr n j k ∙ ap (λ (m : ℕ). n / 2 ^ m) e ∙ sym (shr-shr n k j)

-- one word on
pub moved-shr : (n : ℕ) → moved (n / 2 ^ 64) ≡ moved n / 2 ^ 64
unfolding moved
moved-shr n =
    ap (λ (x : ℕ). bit_xor (bit_xor x (n / 2 ^ 64 / 2 ^ 192)) (bit_xor (n / 2 ^ 64 / 2 ^ 64) (n / 2 ^ 64)))
    (shr_swap n 64 256)
    ∙ ap (λ (x : ℕ). bit_xor (bit_xor (n / 2 ^ 256 / 2 ^ 64) x) (bit_xor (n / 2 ^ 64 / 2 ^ 64) (n / 2 ^ 64)))
    (shr_swap n 64 192)
    ∙ ap (λ (x : ℕ). bit_xor x (bit_xor (n / 2 ^ 64 / 2 ^ 64) (n / 2 ^ 64)))
    (sym (xor_shr (n / 2 ^ 256) (n / 2 ^ 192) 64))
    ∙ ap (λ (x : ℕ). bit_xor (bit_xor (n / 2 ^ 256) (n / 2 ^ 192) / 2 ^ 64) x) (sym (xor_shr (n / 2 ^ 64) n 64))
    ∙ sym (xor_shr (bit_xor (n / 2 ^ 256) (n / 2 ^ 192)) (bit_xor (n / 2 ^ 64) n) 64)

shl_shr_less : (i k n v : ℕ) → i + k ≡ n → v * 2 ^ n / 2 ^ k ≡ v * 2 ^ i
shl_shr_less i k n v e =
    ap (λ (m : ℕ). v * 2 ^ m / 2 ^ k) (sym e) ∙ ap (λ (x : ℕ). v * x / 2 ^ k) (pow-add 2 i k)
    ∙ ap (λ (x : ℕ). x / 2 ^ k) (sym (mul_assoc v (2 ^ i) (2 ^ k))) ∙ shl-shr (v * 2 ^ i) k

bits_within : (i j n v : ℕ) → i + j ≡ n → after_bits n (v * 2 ^ i) ≡ after_bits j v
bits_within i j n v e =
    ap (λ (m : ℕ). after_bits m (v * 2 ^ i)) (sym e) ∙ sym (after_bits-add i j (v * 2 ^ i))
    ∙ ap (after_bits j) (after_bits-shifted i v)

-- the last word of the ring is moved by the rule
abbrev at_top : ℕ → ℕ
at_top v = bit_xor (bit_xor (v * 2 ^ 3776) (v * 2 ^ 3840)) (bit_xor (v * 2 ^ 3968) (v * 2 ^ 4032))

moved_top : (v : ℕ) → moved (v * 2 ^ 4032) ≡ at_top v
unfolding moved
moved_top v =
    let last = v * 2 ^ 4032 in
    ap (λ (x : ℕ). bit_xor (bit_xor x (last / 2 ^ 192)) (bit_xor (last / 2 ^ 64) last))
    (shl_shr_less 3776 256 4032 v refl)
    ∙ ap (λ (x : ℕ). bit_xor (bit_xor (v * 2 ^ 3776) x) (bit_xor (last / 2 ^ 64) last))
    (shl_shr_less 3840 192 4032 v refl)
    ∙ ap (λ (x : ℕ). bit_xor (bit_xor (v * 2 ^ 3776) (v * 2 ^ 3840)) (bit_xor x last))
    (shl_shr_less 3968 64 4032 v refl)

xor_parts : (n a b c d : ℕ) → after_bits n (bit_xor (bit_xor a b) (bit_xor c d)) ≡ bit_xor
    (bit_xor (after_bits n a) (after_bits n b)) (bit_xor (after_bits n c) (after_bits n d))
xor_parts n a b c d =
    after_bits-xor n (bit_xor a b) (bit_xor c d)
    ∙ ap (λ (x : ℕ). bit_xor x (after_bits n (bit_xor c d))) (after_bits-xor n a b)
    ∙ ap (λ (x : ℕ). bit_xor (bit_xor (after_bits n a) (after_bits n b)) x) (after_bits-xor n c d)

pub four : (a b c d e f g h : ℕ) → a ≡ e → b ≡ f → c ≡ g → d ≡ h
    → bit_xor (bit_xor a b) (bit_xor c d) ≡ bit_xor (bit_xor e f) (bit_xor g h)
four a b c d e f g h p q r s =
    ap (λ (x : ℕ). bit_xor (bit_xor x b) (bit_xor c d)) p ∙ ap (λ (x : ℕ). bit_xor (bit_xor e x) (bit_xor c d)) q
    ∙ ap (λ (x : ℕ). bit_xor (bit_xor e f) (bit_xor x d)) r ∙ ap (λ (x : ℕ). bit_xor (bit_xor e f) (bit_xor g x)) s

top_bits : (v : ℕ) → v < 2 ^ 64 → after_bits 4096 (moved (v * 2 ^ 4032)) ≡ after_bits 4096 (after_bits 64 v)
top_bits v lt =
    let word = after_bits 64 v in
    ap (after_bits 4096) (moved_top v)
    ∙ xor_parts 4096 (v * 2 ^ 3776) (v * 2 ^ 3840) (v * 2 ^ 3968) (v * 2 ^ 4032)
    ∙ four _ _ _ _ (after_bits 256 word) (after_bits 192 word) (after_bits 64 word) word
    (bits_within 3776 320 4096 v refl ∙ sym (after_bits-add 64 256 v))
    (bits_within 3840 256 4096 v refl ∙ sym (after_bits-add 64 192 v))
    (bits_within 3968 128 4096 v refl ∙ sym (after_bits-add 64 64 v))
    (bits_within 4032 64 4096 v refl)
    ∙ sym (rule_4096 word (after_bits-lt 64 v lt))

-- One more word behind a ring: its first word goes, and the word with what was moved to its place comes last.
pub holds_next : (n word v register : ℕ) → n < 2 ^ 4096 → v < 2 ^ 64 → v ≡ bit_xor word (moved n % 2 ^ 64)
    → HoldsNumber n register → HoldsNumber (v * 2 ^ 4032 + n / 2 ^ 64) (after_word register word)
unfolding HoldsNumber
holds_next n word v register small fits is_v holds =
    let bits = after_bits 4096 in
    let all = moved n in
    let others = moved n / 2 ^ 64 in
    let low = moved n % 2 ^ 64 in
    let below : low < 2 ^ 64 = mod_below (moved n) (2 ^ 64) (omega arith) in
    let split : bit_xor (others * 2 ^ 64) low ≡ all = xor_shifted others 64 low below ∙ omega arith in
    let joined : bit_xor all word ≡ bit_xor (others * 2 ^ 64) v
    = ap (λ (x : ℕ). bit_xor x word) (sym split) ∙ xor_assoc (others * 2 ^ 64) low word
    ∙ ap (λ (x : ℕ). bit_xor (others * 2 ^ 64) x) (xor_comm low word ∙ sym is_v) in
    let left : after_bits 4096 (after_word register word) ≡ bit_xor (bits others) (bits (after_bits 64 v))
    = ap bits (sym (after_word-is register word))
    ∙ bits_commute 4096 64 (bit_xor register word)
    ∙ ap (after_bits 64) (after_bits-xor 4096 register word ∙ ap (λ (x : ℕ). bit_xor x (bits word)) holds
    ∙ sym (after_bits-xor 4096 all word) ∙ ap bits joined)
    ∙ bits_commute 64 4096 (bit_xor (others * 2 ^ 64) v)
    ∙ ap bits (after_bits-xor 64 (others * 2 ^ 64) v ∙ ap (λ (x : ℕ). bit_xor x (after_bits 64 v))
    (after_bits-shifted 64 others))
    ∙ after_bits-xor 4096 others (after_bits 64 v) in
    let rest : n / 2 ^ 64 < 2 ^ 4032 = shr_below n 4032 64 small in
    let right : bits (moved (v * 2 ^ 4032 + n / 2 ^ 64)) ≡ bit_xor (bits (after_bits 64 v)) (bits others)
    = ap (λ (x : ℕ). bits (moved x)) (sym (xor_shifted v 4032 (n / 2 ^ 64) rest))
    ∙ ap bits (moved-linear (v * 2 ^ 4032) (n / 2 ^ 64))
    ∙ after_bits-xor 4096 (moved (v * 2 ^ 4032)) (moved (n / 2 ^ 64))
    ∙ ap (λ (x : ℕ). bit_xor x (bits (moved (n / 2 ^ 64)))) (top_bits v fits)
    ∙ ap (λ (x : ℕ). bit_xor (bits (after_bits 64 v)) (bits x)) (moved-shr n) in
    left ∙ xor_comm (bits others) (bits (after_bits 64 v)) ∙ sym right
