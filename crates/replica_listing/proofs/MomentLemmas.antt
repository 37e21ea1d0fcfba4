-- The days of the calendar, counted from 1970-01-01, are the library's.
use Rattle.std.proofs.lemmas.Bool.{cases_eq, cases_lt, lt-ltb, le-ltb}
use Rattle.std.proofs.Common.{inl, inr, ◌≡◌, ℕ, zero, suc, ◌+◌, ◌<◌, ◌≤◌, sym, ap, ◌∙◌, arith, rules, ℤ, pos, ◌+ℤ◌}
use Rattle.std.proofs.Common.{unsigned_abs}
use Rattle.jiff_core.specs.declared.civil.date.Date.{Date}
use Rattle.jiff_core.specs.Calendar.{days_from_civil, days_in_month, IsCivilDate}
use Rattle.jiff_core.specs.Date.{epoch_day}
use Rattle.jiff_core.proofs.SignedLemmas.{signed_arith}
use Rattle.jiff_core.proofs.CalendarLemmas.{day_count-epoch, days_from_civil-day_count, days_in_month_bounds}
use Rattle.jiff_core.proofs.DateLemmas.{days_from_civil-day, days_from_civil-max, days_from_civil-next_month}
use Rattle.jiff_core.proofs.DateLemmas.{days_from_civil-next_year, epoch_day_injective}
use Rattle.replica_listing.specs.MomentText.{CalendarDay, day_after, day_of}

-- a date of the calendar, and how many days it lies after 1970-01-01
pub record IsDay (date : CalendarDay) (n : ℕ) : Type 0 where
  pub civil : IsCivilDate (pos date.year) date.month date.day
  pub number : days_from_civil (pos date.year) date.month date.day ≡ pos n

-- within a month the day goes on
after_in_month : (date : CalendarDay) → date.day < days_in_month (pos date.year) date.month
    → day_after date ≡ record { year = date.year; month = date.month; day = date.day + 1 }
unfolding day_after
after_in_month date less = simp (lt-ltb _ _ less)

after_month : (date : CalendarDay) → days_in_month (pos date.year) date.month ≤ date.day → date.month < 12
    → day_after date ≡ record { year = date.year; month = date.month + 1; day = 1 }
unfolding day_after
after_month date last less = simp (le-ltb _ _ last, lt-ltb _ _ less)

after_year : (date : CalendarDay) → days_in_month (pos date.year) date.month ≤ date.day → 12 ≤ date.month
    → day_after date ≡ record { year = date.year + 1; month = 1; day = 1 }
unfolding day_after
after_year date last december = simp (le-ltb _ _ last, le-ltb _ _ december)

-- the last day of a year before the last one comes before the year 9999
early_year : (year n : ℕ) → days_from_civil (pos year) 12 31 ≡ pos n → n < 2_932_896 → year ≤ 9999 → year < 9999
early_year year n number lt le =
    elim (cases_eq year 9999) [
      | inl same ↦ absurd (omega (
        arith,
        signed_arith,
        sym (ap (λ y. days_from_civil (pos y) 12 31) same)
            ∙ number,
        days_from_civil-max,
      ))
      | inr other ↦ omega arith
    ]

number_after : (z : ℤ) (n : ℕ) → z ≡ pos n → z +ℤ pos 1 ≡ pos (suc n)
number_after z n e = omega (arith, signed_arith)

day_after-is_day : (date : CalendarDay) (n : ℕ) → IsDay date n → n < 2_932_896 → IsDay (day_after date) (suc n)
day_after-is_day date n is lt =
    let long = days_in_month_bounds (pos date.year) date.month in
    elim (cases_lt date.day (days_in_month (pos date.year) date.month)) [
      | inl less ↦ rw (after_in_month date less) (record {
        civil = (is.civil.0, is.civil.1, (omega arith, omega arith));
        number = omega (
          arith,
          signed_arith,
          is.number,
          days_from_civil-day (pos date.year) date.month
              (date.day + 1) date.day (omega arith) is.civil.2.0,
        );
      })
      | inr last ↦ elim (cases_lt date.month 12) [
        | inl less ↦ rw (after_month date last less) (record {
          civil = (
            is.civil.0,
            (omega arith, omega arith),
            (
              omega arith,
              omega (
                arith,
                days_in_month_bounds
                    (pos date.year) (date.month + 1),
              ),
            ),
          );
          number = days_from_civil-next_month (pos date.year) date.month date.day is.civil.1.0 (omega
              (arith, is.civil.2.1)) ∙ number_after _ n is.number;
        })
        | inr december ↦
            let end : (date.month ≡ 12) × (date.day ≡ 31) = grind arith in
            let number : days_from_civil (pos date.year) 12 31 ≡ pos n = ap (λ m. days_from_civil
            (pos date.year) m 31) (sym end.0) ∙ ap (days_from_civil (pos date.year) date.month) (sym end.1)
            ∙ is.number in
            rw (after_year date last december) (record {
              civil = (
                (
                  omega (arith, signed_arith),
                  omega (
                    arith,
                    signed_arith,
                    early_year date.year n number lt
                        (omega (arith, signed_arith, is.civil.0.1)),
                  ),
                ),
                (omega arith, omega arith),
                (
                  omega arith,
                  omega
                      (arith, days_in_month_bounds (pos (date.year + 1)) 1),
                ),
              );
              number = days_from_civil-next_year (pos date.year) (pos (date.year + 1)) (omega (arith, signed_arith))
                  (omega (arith, signed_arith)) ∙ number_after _ n number;
            })
      ]
    ]

day_of-is_day : (n : ℕ) → n ≤ 2_932_896 → IsDay (day_of n) n
unfolding day_of
day_of-is_day zero le = record {
  civil = search rules;
  number = omega
      (arith, signed_arith, days_from_civil-day_count, day_count-epoch);
}
day_of-is_day (suc n) le = day_after-is_day (day_of n) n (day_of-is_day n (omega arith)) (omega arith)

-- the library's date of this number has the same parts
pub day_of_date : (n : ℕ) (d : Date) → n ≤ 2_932_896 → epoch_day d ≡ pos n
    → (unsigned_abs d.year ≡ (day_of n).year) × (d.month ≡ (day_of n).month) × (d.day ≡ (day_of n).day)
day_of_date n d le number =
    let is = day_of-is_day n le in
    let date : Date = record {
      year = pos (day_of n).year;
      month = (day_of n).month;
      day =
          (day_of n).day;
      year_in = is.civil.0;
      month_in = is.civil.1;
      day_in = is.civil.2;
    } in
    let same = epoch_day_injective d date (number ∙ sym is.number) in
    (ap unsigned_abs same.0, same.1, same.2)
