-- The text of a transaction number. This project's rule.
use Rattle.std.specs.Prelude.{ℕ, ◌+◌, ◌-◌, ◌*◌, ◌/◌, ◌%◌, ◌^◌, ◌<◌, ◌≤◌, Bool, ◌&&◌, List, length, map, Option, Some}
use Rattle.std.specs.Prelude.{None, nat_lt, nat_le, if◌then◌else◌}
use Rattle.std.specs.Char.{is_digit}
use Rattle.std.specs.List.{range_with_len, list_all}
use Rattle.std.specs.Str.Parse.{IsNumeral, digits_value}

-- the character of a digit below 16, in lower case
abbrev pub hex_digit : ℕ → ℕ
hex_digit d = if nat_lt d 10 then 48 + d else 87 + d

-- 16 digits, the highest first
unfoldable pub hex_digits : ℕ → List ℕ
hex_digits n = map (λ k. hex_digit (n / 2 ^ (4 * (15 - k)) % 16)) (range_with_len 0 16)

-- 1 to 16 hexadecimal digits of either case that write a number other than 0
pub record IsTxidText (text : List ℕ) : Type 0 where
  pub digits : IsNumeral 16 text
  pub short : length text ≤ 16
  pub positive : 0 < digits_value 16 text

-- the same as a test; a text of no digits writes 0
abbrev pub is_txid_text : List ℕ → Bool
is_txid_text text = nat_le (length text) 16 && (list_all (λ c. is_digit c 16) text && nat_lt 0 (digits_value 16 text))

-- the transaction that a text writes
unfoldable pub txid_of : List ℕ → Option ℕ
txid_of text = if is_txid_text text then Some (digits_value 16 text) else None
