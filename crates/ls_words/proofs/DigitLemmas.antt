-- Digits of a text.
use Rattle.std.proofs.Common.{◌≡◌, ℕ, zero, suc, ◌+◌, ◌-◌, ◌*◌, ◌^◌, ◌<◌, ◌≤◌, true, ◌&&◌, List, [], ◌∷◌, length}
use Rattle.std.proofs.Common.{get_or, take, refl, sym, ap, ◌∙◌, add-one, arith}
use Rattle.std.specs.Char.{is_ascii_digit}
use Rattle.std.specs.Int.{IsInRange}
use Rattle.std.specs.Str.{all_ascii_digits}
use Rattle.std.specs.Str.Parse.{digits_value}
use Rattle.std.proofs.Math.Nat.{pow-suc, pow-le-pow_right}
use Rattle.std.proofs.lemmas.Int.Digits.{digits_value_more}
use Rattle.std.proofs.lemmas.Str.{digit_value_digit}
use Rattle.std.proofs.lemmas.Str.Parse.{IsDigitsTest, IsNumeralModel, numerals_by_value, tells_all_ascii_digits}
use Rattle.ls_words.specs.Digit.{all_digits}

same_digits : (ds : List ℕ) → all_ascii_digits ds ≡ all_digits ds
same_digits [] = refl
same_digits (c ∷ cs) = ap (λ b. is_ascii_digit c && b) (same_digits cs)

tells_digits : IsDigitsTest (λ ds. all_digits ds ≡ true)
tells_digits = record {
  empty = refl;
  parts = λ c cs h. (let p = tells_all_ascii_digits.parts c cs (same_digits (c ∷ cs) ∙ h) in
      (p.0, sym (same_digits cs) ∙ p.1));
  more = λ c cs is h. (sym (same_digits (c ∷ cs)) ∙ tells_all_ascii_digits.more c cs is (same_digits cs ∙ h));
}

-- decimal digits, and the number that they write, are those of std's `parse`
pub numerals : IsNumeralModel (λ ds. all_digits ds ≡ true) (digits_value 10)
numerals = numerals_by_value (λ ds. all_digits ds ≡ true) tells_digits

-- a digit among digits
pub digit_of : (ds : List ℕ) (i : ℕ) → all_digits ds ≡ true → i < length ds → IsInRange 48 57 (get_or ds i 0)
digit_of [] i all lt = absurd (omega arith)
digit_of (c ∷ cs) zero all lt = (tells_digits.parts c cs all).0
digit_of (c ∷ cs) (suc i) all lt = digit_of cs i (tells_digits.parts c cs all).1 (omega arith)

-- one more digit
pub value_more : (ds : List ℕ) (i : ℕ) → i < length ds → IsInRange 48 57 (get_or ds i 0)
    → digits_value 10 (take (i + 1) ds) ≡ digits_value 10 (take i ds) * 10 + (get_or ds i 0 - 48)
value_more ds i lt is =
    let e = digit_value_digit (get_or ds i 0) is in
    digits_value_more 10 ds i lt ∙ ap (λ d. digits_value 10 (take i ds) * 10 + d) (omega arith)

pub bound_more : (n d i : ℕ) → n < 10 ^ i → d < 10 → n * 10 + d < 10 ^ (i + 1)
bound_more n d i small digit = rw (add-one, pow-suc 10 i) (omega arith)

-- a number of fewer than 9 digits
pub small : (n i : ℕ) → n < 10 ^ i → i < 9 → n < 100000000
small n i lt few =
    let le : 10 ^ i ≤ 10 ^ 8 = pow-le-pow_right {n = 10} (omega arith) {i = i} {j = 8} (omega arith) in
    omega arith
