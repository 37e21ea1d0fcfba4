-- Days and moments.
use Rattle.std.proofs.Common.{◌≡◌, ℕ, ◌<◌, ◌≤◌, Bool, true, false, leb, Option, Some, None, Result, Ok, Err, refl, ◌∙◌}
use Rattle.std.proofs.Common.{arith, pos, w8, w16}
use Rattle.std.specs.Prelude.{IsOk, IfOk}
use Rattle.std.specs.Result.{result_ok}
use Rattle.std.proofs.lemmas.Bool.{and_from, and_parts, le-leb, leb-true, false≢true}
use Rattle.std.proofs.lemmas.Int.{ints, to_z_pos}
use Rattle.jiff_core.specs.Calendar.{IsDate, days_in_month, days_from_civil}
use Rattle.jiff_core.specs.Date.{IsYmd}
use Rattle.jiff_core.specs.declared.civil.date.Date.{Date}
use Rattle.ls_words.specs.Moment.{is_date, day_number}
use Rattle.ls_words.specs.Value.{is_within}
use mir.Val.{to_z}

within_from : (low high n : ℕ) → low ≤ n → n ≤ high → is_within low high n ≡ true
unfolding is_within
within_from low high n a b = and_from _ _ (le-leb low n a) (le-leb n high b)

within_parts : (low high n : ℕ) → is_within low high n ≡ true → (low ≤ n) × (n ≤ high)
unfolding is_within
within_parts low high n e = let p = and_parts (leb low n) (leb n high) e in (leb-true low n p.0, leb-true n high p.1)

date-from_test : (year month day : ℕ) → year < 10000 → is_date year month day ≡ true
    → IsDate (pos year) (pos month) (pos day)
date-from_test year month day small e =
    let p = and_parts (is_within 1 12 month) (is_within 1 (days_in_month (pos year) month) day) e in
    let m = within_parts 1 12 month p.0 in
    let d = within_parts 1 (days_in_month (pos year) month) day p.1 in (
      (omega (arith, ints), omega (arith, ints)),
      (omega (arith, ints), omega (arith, ints)),
      (omega (arith, ints), omega (arith, ints)),
    )

test-from_date : (year month day : ℕ) → IsDate (pos year) (pos month) (pos day) → is_date year month day ≡ true
test-from_date year month day is =
    and_from _ _ (within_from 1 12 month (omega (arith, ints, is.1.0)) (omega (arith, ints, is.1.1)))
    (within_from 1 (days_in_month (pos year) month) day (omega (arith, ints, is.2.0)) (omega (arith, ints, is.2.1)))

pos_same : (m n : ℕ) → pos m ≡ pos n → m ≡ n
pos_same m n e = cc

some_same : {A : Type 0} (x y : A) → ◌≡◌ {A = Option A} (Some x) (Some y) → x ≡ y
some_same x y e = cc

not_ok : {A E : Type 0} (r : Result A E) → result_ok r ≡ None → IsOk r → ⊥
not_ok (Ok x) e is = absurd cc
not_ok (Err x) e is = absurd (false≢true is)

false_from : (b : Bool) → (b ≡ true → ⊥) → b ≡ false
false_from true h = absurd (h refl)
false_from false h = refl

-- a date that the calendar lacks, with its parts as the code casts them
pub no_day : {A E : Type 0} (r : Result A E) (year month day : ℕ) → year < 10000 → month < 100 → day < 100
    → (IsDate (to_z w16 year) (to_z w8 month) (to_z w8 day) → IsOk r) → result_ok r ≡ None
    → None ≡ day_number year month day
unfolding day_number
no_day r year month day y m d makes none =
    let lacks : is_date year month day ≡ false = false_from (is_date year month day)
    (λ e. not_ok r none (makes (rw
    (to_z_pos w16 year (omega arith), to_z_pos w8 month (omega arith), to_z_pos w8 day (omega arith))
    (date-from_test year month day y e)))) in
    rw lacks refl

parts : (date : Date) (year month day : ℕ) → year < 10000 → month < 100 → day < 100
    → IsYmd (to_z w16 year) (to_z w8 month) (to_z w8 day) date → (date.year ≡ pos year) × (date.month ≡ month)
    × (date.day ≡ day)
parts date year month day y m d is = (
  is.0 ∙ to_z_pos w16 year (omega arith),
  pos_same _ _ (is.1 ∙ to_z_pos w8 month (omega arith)),
  pos_same _ _
      (is.2 ∙ to_z_pos w8 day (omega arith)),
)

-- and one that it has
pub some_day : {E : Type 0} (r : Result Date E) (date : Date) (year month day : ℕ) → year < 10000 → month < 100
    → day < 100 → (IsOk r → IsDate (to_z w16 year) (to_z w8 month) (to_z w8 day))
    → IfOk r (IsYmd (to_z w16 year) (to_z w8 month) (to_z w8 day))
    → result_ok r ≡ Some date → Some (days_from_civil date.year date.month date.day) ≡ day_number year month day
unfolding day_number
some_day (Err e) date year month day y m d has value some = absurd cc
some_day (Ok x) date year month day y m d has value some =
    let same : ◌≡◌ {A = Date} x date = some_same x date some in
    let p = parts x year month day y m d value in
    let is = has refl in
    let dated : IsDate (pos year) (pos month) (pos day) =
    rw (to_z_pos w16 year (omega arith), to_z_pos w8 month (omega arith), to_z_pos w8 day (omega arith)) at is in
    let holds : is_date year month day ≡ true = test-from_date year month day dated in
    rw (holds, ← same, p.0, p.1, p.2) refl
