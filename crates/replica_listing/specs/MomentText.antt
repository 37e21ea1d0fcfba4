-- The text of a moment. This project's rule, after RFC 3339.
use Rattle.std.specs.Prelude.{ℕ, zero, suc, ◌+◌, ◌/◌, ◌%◌, List, ◌++◌, codes, decimal, pos, nat_lt, nat_le}
use Rattle.std.specs.Prelude.{if◌then◌else◌}
use Rattle.jiff_core.specs.Calendar.{days_in_month}
use Rattle.replica_listing.specs.Digits.{digits}

-- a day of the calendar, from the year 0 on
pub record CalendarDay : Type 0 where
  pub year : ℕ
  pub month : ℕ
  pub day : ℕ

-- the day after
unfoldable pub day_after : CalendarDay → CalendarDay
day_after date =
    if nat_lt date.day (days_in_month (pos date.year) date.month) then record {
      year = date.year;
      month = date.month;
      day = date.day + 1;
    }
    else if nat_lt date.month 12 then record { year = date.year; month = date.month + 1; day = 1 }
    else record { year = date.year + 1; month = 1; day = 1 }

-- the day that many days after 1970-01-01
unfoldable pub day_of : ℕ → CalendarDay
day_of zero = record { year = 1970; month = 1; day = 1 }
day_of (suc n) = day_after (day_of n)

-- `YYYY-MM-DD`
abbrev pub day_text : CalendarDay → List ℕ
day_text date = digits 4 date.year ++ codes "-" ++ digits 2 date.month ++ codes "-" ++ digits 2 date.day

-- `HH:MM:SS.mmm` of a time of day in milliseconds
abbrev pub clock_text : ℕ → List ℕ
clock_text ms =
    digits 2 (ms / 3_600_000) ++ codes ":" ++ digits 2 (ms / 60_000 % 60) ++ codes ":" ++ digits 2 (ms / 1000 % 60)
    ++ codes "." ++ digits 3 (ms % 1000)

-- the last millisecond of the year 9999
abbrev pub last_dated_moment : ℕ
last_dated_moment = 253_402_300_799_999

-- The moment, in milliseconds since 1970-01-01T00:00:00Z, as `YYYY-MM-DDTHH:MM:SS.mmmZ`; behind the year 9999 in
-- decimal.
unfoldable pub moment_text : ℕ → List ℕ
moment_text m =
    if nat_le m last_dated_moment
    then day_text (day_of (m / 86_400_000)) ++ codes "T" ++ clock_text (m % 86_400_000) ++ codes "Z"
    else decimal m
