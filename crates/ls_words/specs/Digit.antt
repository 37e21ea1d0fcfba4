-- Decimal digits.
use Rattle.std.specs.Prelude.{ℕ, Bool, if◌then◌else◌, List, Option, Some, None}
use Rattle.std.specs.Char.{is_ascii_digit}
use Rattle.std.specs.List.{list_all}
use Rattle.std.specs.Str.Parse.{digits_value}

-- each character is a decimal digit
abbrev pub all_digits : List ℕ → Bool
all_digits text = list_all is_ascii_digit text

-- the number that decimal digits write
unfoldable pub decimal_of : List ℕ → Option ℕ
decimal_of digits = if all_digits digits then Some (digits_value 10 digits) else None
