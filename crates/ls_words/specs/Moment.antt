-- Moments: RFC 3339's form, with the days of the proleptic Gregorian calendar.
use Rattle.std.specs.Prelude.{ℕ, ◌+◌, ◌*◌, ◌/◌, ◌^◌, Bool, ◌&&◌, ◌||◌, ◌==◌, if◌then◌else◌, List, length, drop, codes}
use Rattle.std.specs.Prelude.{slice_index, Option, Some, None, option_map, nat_lt, bytes_eq, ℤ, pos, neg_ℤ, ◌+ℤ◌, ◌-ℤ◌}
use Rattle.std.specs.Prelude.{◌*ℤ◌}
use Rattle.std.specs.Char.{is_ascii_digit}
use Rattle.std.specs.List.{prefix_len}
use Rattle.jiff_core.specs.Calendar.{days_in_month, days_from_civil}
use Rattle.ls_words.specs.Clock.{◌>>=◌, only, digits_at, clock_at, second_of}
use Rattle.ls_words.specs.Value.{is_within}

-- the part of a second behind its point, in ms, rounded down, and how many bytes write it
pub record Fraction : Type 0 where
  pub ms : ℕ
  pub len : ℕ

-- the calendar has this day
abbrev pub is_date : ℕ → ℕ → ℕ → Bool
is_date year month day = is_within 1 12 month && is_within 1 (days_in_month (pos year) month) day

-- the day's number, where 1970-01-01 is 0
unfoldable pub day_number : ℕ → ℕ → ℕ → Option ℤ
day_number year month day = only (is_date year month day) (days_from_civil (pos year) month day)

-- the day's number of the YYYY-MM-DD at the front
unfoldable pub day_of : List ℕ → Option ℤ
day_of text = do
  year ← digits_at 0 4 text
  month ← digits_at 5 2 text
  day ← digits_at 8 2 text
  if (slice_index text 4 == 45) && (slice_index text 7 == 45) then day_number year month day else None

-- the fraction that so many digits write
abbrev pub fraction_with : ℕ → ℕ → Fraction
fraction_with count written = record { ms = written * 1000 / 10 ^ count; len = count + 1 }

-- the fraction of a point and so many digits, 1 to 9
unfoldable pub fraction_behind : ℕ → List ℕ → Option Fraction
fraction_behind count rest = if is_within 1 9 count then option_map (fraction_with count) (digits_at 1 count rest)
    else None

-- the fraction at the front: nothing, or a point and all the digits behind it
unfoldable pub fraction_of : List ℕ → Option Fraction
fraction_of rest =
    if slice_index rest 0 == 46 then fraction_behind (prefix_len is_ascii_digit (drop 1 rest)) rest
    else Some (record { ms = 0; len = 0 })

-- the offset that a sign gives to minutes
abbrev pub signed : ℕ → ℕ → Option ℤ
signed sign minutes = if sign == 43 then Some (pos minutes)
    else (if sign == 45 then Some (neg_ℤ (pos minutes)) else None)

-- the offset from UTC in minutes: Z, z, +HH:MM or -HH:MM
unfoldable pub offset_of : List ℕ → Option ℤ
offset_of zone =
    if bytes_eq zone (codes "Z") || bytes_eq zone (codes "z") then Some (pos 0)
    else (if length zone == 6 then clock_at 1 zone >>= signed (slice_index zone 0) else None)

-- the ms since 1970-01-01T00:00:00Z at an offset of a day, a second of it and a fraction
abbrev pub moment_at : ℤ → ℕ → ℕ → ℤ → ℤ
moment_at day second ms offset = ((day *ℤ pos 86400000) +ℤ pos (second * 1000 + ms)) -ℤ (offset *ℤ pos 60000)

-- the moment that a text writes, rounded down; the shortest has 20 characters
unfoldable pub moment_of : List ℕ → Option ℤ
moment_of text = if nat_lt (length text) 20 then None else (do
  day ← day_of text
  second ← second_of text
  fraction ← fraction_of (drop 19 text)
  offset ← offset_of (drop (19 + fraction.len) text)
  Some (moment_at day second fraction.ms offset))
