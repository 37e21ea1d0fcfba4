-- The digits of a transaction write it.
use Rattle.std.proofs.Common.{◌≡◌, ℕ, zero, suc, ◌+◌, ◌-◌, ◌*◌, ◌/◌, ◌%◌, ◌^◌, ◌<◌, true, List, [], ◌∷◌, map, Some}
use Rattle.std.proofs.Common.{refl, sym, ap, ◌∙◌, arith}
use Rattle.std.specs.Char.{digit_value, is_digit}
use Rattle.std.specs.List.{range_with_len, list_all}
use Rattle.std.specs.Str.Parse.{digits_value, digits_value_after}
use Rattle.std.proofs.lemmas.Bool.{lt-ltb, and_from}
use Rattle.std.proofs.lemmas.Bool.Decides.{nat_tests}
use Rattle.std.proofs.lemmas.Nat.{shr-shr}
use Rattle.ls_base.specs.Txid.{hex_digit, hex_digits, is_txid_text, txid_of}

digit_back : (d : ℕ) → d < 16 → digit_value (hex_digit d) ≡ d
digit_back d small = grind (arith, nat_tests)

-- digit k of n, the highest first
digit_at : ℕ → ℕ → ℕ
digit_at n k = hex_digit (n / 2 ^ (4 * (15 - k)) % 16)

-- one digit more
one_more : (n k : ℕ) → k < 16 → n / 2 ^ (4 * (16 - k)) * 16 + digit_value (digit_at n k) ≡ n / 2 ^ (4 * (16 - (k + 1)))
unfolding digit_at
one_more n k below =
    let m = n / 2 ^ (4 * (15 - k)) in
    let shifted : m / 2 ^ 4 ≡ n / 2 ^ (4 * (16 - k)) = shr-shr n (4 * (15 - k)) 4 ∙ ap (λ j. n / 2 ^ j) (omega arith) in
    let same : 4 * (16 - (k + 1)) ≡ 4 * (15 - k) = omega arith in
    let digit = digit_back (m % 16) (omega arith) in
    rw (← shifted, digit, same) (omega arith)

digits_after : (n count start : ℕ) → start + count ≡ 16 → digits_value_after 16 (n / 2 ^ (4 * (16 - start)))
    (map (digit_at n) (range_with_len start count)) ≡ n
digits_after n zero start end = let last : 4 * (16 - start) ≡ 0 = omega arith in rw last (omega arith)
digits_after n (suc count) start end =
    ap (λ so_far. digits_value_after 16 so_far (map (digit_at n) (range_with_len (start + 1) count)))
    (one_more n start (omega arith)) ∙ digits_after n count (start + 1) (omega arith)

-- the 16 digits of a number below 2^64 are read back as it
pub digits_value-hex_digits : (n : ℕ) → n < 2 ^ 64 → digits_value 16 (hex_digits n) ≡ n
unfolding hex_digits digit_at
digits_value-hex_digits n fits =
    let start : n / 2 ^ (4 * (16 - 0)) ≡ 0 = omega arith in
    ap (λ so_far. digits_value_after 16 so_far (map (digit_at n) (range_with_len 0 16))) (sym start)
    ∙ digits_after n 16 0 refl

are_digits : (f : ℕ → ℕ) (xs : List ℕ) → ((x : ℕ) → f x < 16) → list_all
    (λ c. is_digit c 16) (map (λ x. hex_digit (f x)) xs) ≡ true
are_digits f [] small = refl
are_digits f (x ∷ xs) small = and_from _ _
    (lt-ltb (digit_value (hex_digit (f x))) 16 (rw (digit_back (f x) (small x)) (small x))) (are_digits f xs small)

is_text : (n : ℕ) → 0 < n → n < 2 ^ 64 → is_txid_text (hex_digits n) ≡ true
unfolding hex_digits
is_text n positive fits =
    let digits = are_digits (λ k. n / 2 ^ (4 * (15 - k)) % 16) (range_with_len 0 16) (λ k. omega arith) in
    and_from _ _ refl (and_from _ _ digits (lt-ltb 0 _ (rw (digits_value-hex_digits n fits) positive)))

-- the digits of a transaction are its text
pub txid_of-hex_digits : (n : ℕ) → 0 < n → n < 2 ^ 64 → txid_of (hex_digits n) ≡ Some n
unfolding txid_of
txid_of-hex_digits n positive fits = rw (is_text n positive fits, digits_value-hex_digits n fits) refl
