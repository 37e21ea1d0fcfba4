-- Times of day in a text, in RFC 3339's form.
use Rattle.std.specs.Prelude.{ℕ, ◌+◌, ◌*◌, Bool, ◌&&◌, ◌||◌, ◌==◌, if◌then◌else◌, List, slice_index, slice_range}
use Rattle.std.specs.Prelude.{Option, Some, None, option_and_then, nat_le}
use Rattle.ls_words.specs.Digit.{decimal_of}

infixl 10 ◌>>=◌
abbrev pub ◌>>=◌ : {A B : Type 0} → Option A → (A → Option B) → Option B
o >>= f = option_and_then f o

-- the value, where the test holds
abbrev pub only : {A : Type 0} → Bool → A → Option A
only holds x = if holds then Some x else None

-- the number that so many digits write from a place on
abbrev pub digits_at : ℕ → ℕ → List ℕ → Option ℕ
digits_at from count text = decimal_of (slice_range text from (from + count))

-- the minutes since midnight of the HH:MM from a place on
unfoldable pub clock_at : ℕ → List ℕ → Option ℕ
clock_at from text = do
  hour ← digits_at from 2 text
  minute ← digits_at (from + 3) 2 text
  only ((slice_index text (from + 2) == 58) && (nat_le hour 23 && nat_le minute 59)) (hour * 60 + minute)

-- the seconds since midnight of the THH:MM:SS behind a date; no second is 60
unfoldable pub second_of : List ℕ → Option ℕ
second_of text = do
  minutes ← clock_at 11 text
  second ← digits_at 17 2 text
  only (((slice_index text 10 == 84) || (slice_index text 10 == 116)) &&
      ((slice_index text 16 == 58) && nat_le second 59)) (minutes * 60 + second)
