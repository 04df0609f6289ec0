-- The steps find the year, its kind and the day of the year that counting finds.
use Rattle.std.proofs.Common.{◌≡◌, ℕ, suc, ◌+◌, ◌^◌, ◌<◌, ◌≤◌, sym, ◌∙◌, arith, ℤ, pos, ◌+ℤ◌}
use Rattle.std.proofs.lemmas.Bool.Decides.{nat_tests}
use Rattle.calendar_values.specs.SignedArith.{signed_arith}
use Rattle.std.specs.Int.{IsInRange}
use Rattle.calendar_values.specs.Calendar.{is_leap_year, year_of, ordinal_of, day_of_ordinal_date, IsOrdinalDate}
use Rattle.calendar_values.specs.DayLemmas.{year_of-is, ordinal_of-is, IsYear-year_of}
use Rattle.calendar_values.specs.Range.{IsDay}
use Rattle.calendar_values.specs.Refusals.{IsOrdinalDateOfRange}
use Rattle.calendar_values.specs.YearLemmas.{days_from_0, days_from_0-suc, leap_day-shift, days_in_year-leap_day, days_in_year_bounds, year_start-closed}
use Rattle.calendar_values.specs.Reciprocal.{shifted_day, IsShiftedDay, years_of, step_year, step_leap, step_ordinal}

-- the days before the year and the day of the year make the day
ordinal_sum : (day : ℕ) → IsShiftedDay day → days_from_0 (years_of day) + step_ordinal day ≡ day + 1
ordinal_sum day h = grind (arith, nat_tests)

leap_is : (day : ℕ) → IsShiftedDay day → step_leap day ≡ is_leap_year (pos (years_of day))
leap_is day h = grind (arith, nat_tests)

-- the day is in that year
year_within : (day : ℕ) → IsShiftedDay day → (days_from_0 (years_of day) ≤ day) × (day < days_from_0 (suc (years_of day)))
year_within day h = omega arith

pub years_of-bound : (day : ℕ) → IsShiftedDay day → years_of day < 2 ^ 31
years_of-bound day h = omega arith

-- the rule has a period of 400 years
is_leap_year-shift : (y : ℤ) (n : ℕ) → y +ℤ pos 2_379_600 ≡ pos n → is_leap_year y ≡ is_leap_year (pos n)
is_leap_year-shift y n e = grind (arith, signed_arith, nat_tests)

-- the same for a day n, counted from 1970

pub IsShiftedDay-shifted_day : (n : ℤ) → IsDay n → IsShiftedDay (shifted_day n)
IsShiftedDay-shifted_day n h = omega (arith, signed_arith)

step_year-is : (day : ℕ) → step_year day +ℤ pos 2_379_600 ≡ pos (years_of day)
step_year-is day = omega (arith, signed_arith)

-- the year has that day of the year
pub IsOrdinalDate-step : (n : ℤ) → IsDay n → IsOrdinalDate (step_year (shifted_day n)) (step_ordinal (shifted_day n))
IsOrdinalDate-step n h =
    let day = shifted_day n in
    let here = IsShiftedDay-shifted_day n h in
    let within = year_within day here in
    let sum = ordinal_sum day here in
    let next = days_from_0-suc (years_of day) in
    let length = days_in_year-leap_day (step_year day) in
    let shift = leap_day-shift 5_949 (years_of day) (step_year day) (step_year-is day) in
    omega arith

-- the day number of that year and that day of the year is the day
pub day_of_ordinal_date-step : (n : ℤ) → IsDay n → day_of_ordinal_date (step_year (shifted_day n)) (step_ordinal (shifted_day n)) ≡ n
day_of_ordinal_date-step n h =
    let day = shifted_day n in
    let sum = ordinal_sum day (IsShiftedDay-shifted_day n h) in
    let start = year_start-closed 5_949 (years_of day) (step_year day) (step_year-is day) in
    omega (arith, signed_arith)

pub year_of-step : (n : ℤ) → IsDay n → year_of n ≡ step_year (shifted_day n)
year_of-step n h = year_of-is n (step_year (shifted_day n)) (step_ordinal (shifted_day n)) (IsOrdinalDate-step n h) (day_of_ordinal_date-step n h)

pub ordinal_of-step : (n : ℤ) → IsDay n → ordinal_of n ≡ step_ordinal (shifted_day n)
ordinal_of-step n h = ordinal_of-is n (step_year (shifted_day n)) (step_ordinal (shifted_day n)) (IsOrdinalDate-step n h) (day_of_ordinal_date-step n h)

pub IsOrdinalDateOfRange-found : (n : ℤ) → IsDay n → IsOrdinalDateOfRange (step_year (shifted_day n)) (step_ordinal (shifted_day n))
IsOrdinalDateOfRange-found n h =
    let date = IsOrdinalDate-step n h in (rw (year_of-step n h) at (IsYear-year_of n h), (date.first, date.last))

pub IsInRange-found : (n : ℤ) → IsDay n → IsInRange 1 366 (step_ordinal (shifted_day n))
IsInRange-found n h =
    let date = IsOrdinalDate-step n h in let length = days_in_year_bounds (step_year (shifted_day n)) in omega (arith, date.first, date.last)

pub is_leap_year-step : (n : ℤ) → IsDay n → is_leap_year (year_of n) ≡ step_leap (shifted_day n)
is_leap_year-step n h =
    let day = shifted_day n in
    rw (year_of-step n h) (is_leap_year-shift (step_year day) (years_of day) (step_year-is day) ∙ sym (leap_is day (IsShiftedDay-shifted_day n h)))

pub ruleset shifted_years = (years_of-bound, IsShiftedDay-shifted_day)
